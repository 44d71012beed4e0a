-- What is printed of a model that was read has fewer lines than were read, and none of them is too long.
use Rattle.std.proofs.Common.{◌≡◌, ◌⊎◌, ℕ, ◌+◌, ◌≤◌, inl, inr, Bool, true, false, List, [], ◌∷◌, ◌++◌, length, map, Option, Some, None, Result, Ok, Err, All, refl, sym, ap, subst, ◌∙◌, arith, length-append}
use Rattle.std.proofs.lemmas.Bool.{false≢true}
use Rattle.std.proofs.lemmas.List.Elements.{All-nil, All-cons, All-append}
use Rattle.list_laws.proofs.Elements.{all_left, all_right}
use Rattle.cca_base.specs.Model.{empty_model, in_second}
use Rattle.cca_base.specs.PlantModel.{PlantModel}
use Rattle.cca_base.specs.Refusals.{bare}
use Rattle.cca_base.proofs.EmptyModel.{empty_well_formed}
use Rattle.line_machine.proofs.LengthCodes.{within_limits}
use Rattle.line_machine.specs.declared.machine.TheConstants.{MAX_LINES}
use Rattle.text_base.specs.Lexemes.{Lexeme, lexeme}
use Rattle.text_base.specs.Tokens.{Tok, tokens_of}
use Rattle.model_syntax.specs.Items.{Item, Header, Component, Variable, Rule, Move, Failure, Script, item_of}
use Rattle.model_syntax.specs.Kept.{IsGood}
use Rattle.model_syntax.specs.Lines.{Next, Goes, Refused, Ended, ModelSoFar, LineOutcome, Reads, Refuses, Finishes, opening, outcome, LeadsByForm, LeadsByTokens, LineLeads}
use Rattle.model_syntax.specs.Printing.{joined, header_said, lines_said}
use Rattle.model_syntax.specs.Shorter.{AddsNoLonger}
use Rattle.model_syntax.proofs.HeaderLine.{first_is, header_is_no_longer}
use Rattle.model_syntax.proofs.Kept.{lines_keep_models_good}
use Rattle.model_syntax.proofs.ShorterLines.{lines_are_no_longer}
use Rattle.model_form.specs.FormStates.{nothing_read}
use Rattle.model_form.specs.Limits.{line_code}
use Rattle.model_form.specs.ModelTexts.{WholeModel, RefusedModel, LeadsByCode, LeadsAt, After, ReadsModel}
use Rattle.model_form.specs.declared.limits.TheConstants.{MAX_LINE}

-- the printed line is not too long
abbrev pub IsShort : List Lexeme → Type 0
IsShort line = length (joined line) ≤ MAX_LINE

-- behind so many lines the model is good, and is printed in at most as many, none of which is too long
pub record Within (m : PlantModel) (n : ℕ) : Type 0 where
  pub good : IsGood m
  pub short : All IsShort (lines_said m)
  pub few : length (lines_said m) ≤ n

-- ---- behind the line of the version

-- a line that is read adds one short line at most
adds : (m t : PlantModel) (n : ℕ) (text : List ℕ) → length text ≤ MAX_LINE → Within m n → IsGood t → AddsNoLonger m t text → Within t (n + 1)
adds m t n text short h good (inl same) = record {
  good = good;
  short = subst (All IsShort) (sym same) h.short;
  few = let k = h.few in let e = ap length same in omega (arith, k, e);
}
adds m t n text short h good (inr a) =
    let before : All IsShort (a.front ++ a.back) = subst (All IsShort) a.before h.short in
    let line : IsShort a.line = let x = a.no_longer in omega (arith, x, short) in
    let behind = All-cons IsShort a.line a.back line (all_right IsShort a.front a.back before) in
    record {
      good = good;
      short = subst (All IsShort) (sym a.after) (All-append IsShort a.front (a.line ∷ a.back) (all_left IsShort a.front a.back before) behind);
      few =
          let k = h.few in
          let e = ap length a.before ∙ length-append a.front a.back in
          let f = ap length a.after ∙ length-append a.front (a.line ∷ a.back) in
          omega (arith, k, e, f);
    }

-- the reading stays begun
goes_on : (next : Next) (t : ModelSoFar) → Reads t ≡ outcome next → t.begun ≡ true
goes_on (Goes m) t e = let same : t ≡ record { model = m; begun = true } = cc in ap (λ (r : ModelSoFar). r.begun) same
goes_on (Refused code) t e = absurd cc
goes_on Ended t e = absurd cc

stays_by_form : (begun : Bool) (m : PlantModel) (form : Option Item) (t : ModelSoFar) → begun ≡ true → LeadsByForm begun m form (Reads t) → t.begun ≡ true
stays_by_form true m form t b (next, h, e) = goes_on next t e
stays_by_form false m form t b h = absurd (false≢true b)

stays_by_tokens : (s t : ModelSoFar) (read : Result (List Tok) ℕ) → s.begun ≡ true → LeadsByTokens s read (Reads t) → t.begun ≡ true
stays_by_tokens s t (Err at) b h = absurd cc
stays_by_tokens s t (Ok []) b h = let same : t ≡ s = cc in ap (λ (r : ModelSoFar). r.begun) same ∙ b
stays_by_tokens s t (Ok (x ∷ xs)) b h = stays_by_form s.begun s.model (item_of (map lexeme (x ∷ xs))) t b h

-- one line
module _ (s t : ModelSoFar) (n : ℕ) (l : List ℕ) (short : length l ≤ MAX_LINE) (leads : LineLeads s l (Reads t)) where
  line_within : s.begun ≡ true → Within s.model n → Within t.model (n + 1)
  line_within b h =
      let on = stays_by_tokens s t (tokens_of l) b leads in
      adds s.model t.model n l short h (lines_keep_models_good s t l h.good leads) (lines_are_no_longer s t l h.good.well_formed (b ∙ sym on) leads)

  -- ---- the line of the version

  -- nothing is read yet, or the line of the version alone
  abbrev HasBegun : Type 0
  HasBegun = (t ≡ s) ⊎ ((t.begun ≡ true) × (lines_said t.model ≡ header_said t.model.version ∷ []))

  header_alone : (second : Bool) → s.model ≡ empty_model 1 → Reads t ≡ opening s.model (Some (Header second)) → HasBegun
  header_alone false e h =
      let same : t ≡ record { model = s.model; begun = true } = cc in
      let model : t.model ≡ empty_model 1 = ap (λ (r : ModelSoFar). r.model) same ∙ e in
      inr (ap (λ (r : ModelSoFar). r.begun) same, subst (λ (m : PlantModel). lines_said m ≡ header_said m.version ∷ []) (sym model) refl)
  header_alone true e h =
      let same : t ≡ record { model = in_second s.model; begun = true } = cc in
      let model : t.model ≡ empty_model 2 = ap (λ (r : ModelSoFar). r.model) same ∙ ap in_second e in
      inr (ap (λ (r : ModelSoFar). r.begun) same, subst (λ (m : PlantModel). lines_said m ≡ header_said m.version ∷ []) (sym model) refl)

  begun_by_form : (begun : Bool) (form : Option Item) → begun ≡ false → s.model ≡ empty_model 1 → LeadsByForm begun s.model form (Reads t) → HasBegun
  begun_by_form true form b e h = absurd (false≢true (sym b))
  begun_by_form false form b e h = let first = first_is s.model form t h in header_alone first.0 e (subst (λ (f : Option Item). Reads t ≡ opening s.model f) first.1 h)

  begun_by_tokens : (read : Result (List Tok) ℕ) → s.begun ≡ false → s.model ≡ empty_model 1 → LeadsByTokens s read (Reads t) → HasBegun
  begun_by_tokens (Err at) b e h = absurd cc
  begun_by_tokens (Ok []) b e h = inl (let same : t ≡ s = cc in same)
  begun_by_tokens (Ok (x ∷ xs)) b e h = begun_by_form s.begun (item_of (map lexeme (x ∷ xs))) b e h

  header_within : s.begun ≡ false → s.model ≡ empty_model 1 → IsGood s.model → (t ≡ s) ⊎ ((t.begun ≡ true) × Within t.model (n + 1))
  header_within b e good = elim (begun_by_tokens (tokens_of l) b e leads) [
    | inl same ↦ inl same
    | inr (on, alone) ↦ inr (
      on,
      record {
        good = lines_keep_models_good s t l good leads;
        short = subst (All IsShort) (sym alone) (All-cons IsShort (header_said t.model.version) [] (let x = header_is_no_longer s t l b on leads in omega (arith, x, short)) (All-nil IsShort));
        few = let k = ap length alone in omega (arith, k);
      },
    )
  ]

-- ---- all lines of a model

-- a line without a code is short
read_short : (c : Option ℕ) (s t : ModelSoFar) (n : ℕ) (l : List ℕ) → c ≡ line_code n l → LeadsByCode c s l (Reads t) → (length l ≤ MAX_LINE) × LineLeads s l (Reads t)
read_short (Some code) s t n l c h = absurd cc
read_short None s t n l c h = ((within_limits MAX_LINE n (length l) (sym c)).1, h)

-- the model is printed within the limits: it came to its script in the line of this number
pub record IsPrintedWithin (m : PlantModel) (k : ℕ) : Type 0 where
  pub before : ℕ
  pub number : k ≡ before + 1
  pub within : Within m before
  pub few : k ≤ MAX_LINES

-- a line without a code is one of few
finished_few : (c : Option ℕ) (s : ModelSoFar) (n : ℕ) (l : List ℕ) → c ≡ line_code n l → LeadsByCode c s l Finishes → n ≤ MAX_LINES
finished_few (Some code) s n l c h = absurd cc
finished_few None s n l c h = (within_limits MAX_LINE n (length l) (sym c)).0

after_within : (o : LineOutcome) (s : ModelSoFar) (n : ℕ) (l : List ℕ) (ls : List (List ℕ)) (m : PlantModel) (k : ℕ) (rest : List (List ℕ)) → Within s.model n → LeadsAt s (n + 1) l o
    → ((t : ModelSoFar) → o ≡ Reads t → ReadsModel t (n + 1) ls (WholeModel m k rest) → IsPrintedWithin m k)
    → After o (λ t. ReadsModel t (n + 1) ls (WholeModel m k rest)) (WholeModel m k rest ≡ WholeModel s.model (n + 1) ls) (λ code. WholeModel m k rest ≡ RefusedModel s.model (n + 1) (bare code)) → IsPrintedWithin m k
after_within (Reads t) s n l ls m k rest w leads on h = on t refl h
after_within (Refuses code) s n l ls m k rest w leads on h = absurd cc
after_within Finishes s n l ls m k rest w leads on h =
    let model : m ≡ s.model = cc in
    let number : k ≡ n + 1 = cc in
    let few = finished_few (line_code (n + 1) l) s (n + 1) l refl leads in
    record { before = n; number = number; within = subst (λ (x : PlantModel). Within x n) (sym model) w; few = omega (arith, few, number) }

begun_within : (ls : List (List ℕ)) (s : ModelSoFar) (n : ℕ) (m : PlantModel) (k : ℕ) (rest : List (List ℕ)) → s.begun ≡ true → Within s.model n → ReadsModel s n ls (WholeModel m k rest) → IsPrintedWithin m k
begun_within [] s n m k rest b w h = absurd cc
begun_within (l ∷ ls) s n m k rest b w (o, leads, after) =
    after_within o s n l ls m k rest w leads
    (λ t is h.
    let line = read_short (line_code (n + 1) l) s t (n + 1) l refl (subst (λ (x : LineOutcome). LeadsAt s (n + 1) l x) is leads) in
    begun_within ls t (n + 1) m k rest (stays_by_tokens s t (tokens_of l) b line.1) (line_within s t n l line.0 line.1 b w) h) after

-- a model doesn't end before the line of its version
not_opened : (m : PlantModel) (form : Option Item) → Finishes ≡ opening m form → ⊥
not_opened m None e = absurd cc
not_opened m (Some (Header false)) e = absurd cc
not_opened m (Some (Header true)) e = absurd cc
not_opened m (Some (Component name modes start)) e = absurd cc
not_opened m (Some (Variable name values sensed)) e = absurd cc
not_opened m (Some (Rule formula)) e = absurd cc
not_opened m (Some (Move repair ends command guard)) e = absurd cc
not_opened m (Some (Failure ends cost)) e = absurd cc
not_opened m (Some Script) e = absurd cc

not_finished_by_form : (begun : Bool) (m : PlantModel) (form : Option Item) → begun ≡ false → LeadsByForm begun m form Finishes → ⊥
not_finished_by_form true m form b h = absurd (false≢true (sym b))
not_finished_by_form false m form b h = not_opened m form h

not_finished : (s : ModelSoFar) (read : Result (List Tok) ℕ) → s.begun ≡ false → LeadsByTokens s read Finishes → ⊥
not_finished s (Err at) b h = absurd cc
not_finished s (Ok []) b h = absurd cc
not_finished s (Ok (x ∷ xs)) b h = not_finished_by_form s.begun s.model (item_of (map lexeme (x ∷ xs))) b h

not_finished_at : (c : Option ℕ) (s : ModelSoFar) (l : List ℕ) → s.begun ≡ false → LeadsByCode c s l Finishes → ⊥
not_finished_at (Some code) s l b h = absurd cc
not_finished_at None s l b h = not_finished s (tokens_of l) b h

empty_good : IsGood (empty_model 1)
empty_good = record { well_formed = empty_well_formed 1 (inl refl); complete = λ k within. absurd (omega arith) }

module _ (m : PlantModel) (k : ℕ) (rest : List (List ℕ)) where
  first_by : (o : LineOutcome) (s : ModelSoFar) (n : ℕ) (l : List ℕ) (ls : List (List ℕ)) → s.begun ≡ false → s.model ≡ empty_model 1
      → ((j : ℕ) → ReadsModel s j ls (WholeModel m k rest) → IsPrintedWithin m k) → LeadsAt s (n + 1) l o
      → After o (λ t. ReadsModel t (n + 1) ls (WholeModel m k rest)) (WholeModel m k rest ≡ WholeModel s.model (n + 1) ls) (λ code. WholeModel m k rest ≡ RefusedModel s.model (n + 1) (bare code)) → IsPrintedWithin m k
  first_by (Reads t) s n l ls b e on leads h =
      let line = read_short (line_code (n + 1) l) s t (n + 1) l refl leads in
      elim (header_within s t n l line.0 line.1 b e (subst IsGood (sym e) empty_good)) [
        | inl same ↦ on (n + 1) (subst (λ (x : ModelSoFar). ReadsModel x (n + 1) ls (WholeModel m k rest)) same h)
        | inr (begun, w) ↦ begun_within ls t (n + 1) m k rest begun w h
      ]
  first_by (Refuses code) s n l ls b e on leads h = absurd cc
  first_by Finishes s n l ls b e on leads h = absurd (not_finished_at (line_code (n + 1) l) s l b leads)

  first_within : (ls : List (List ℕ)) (s : ModelSoFar) (n : ℕ) → s.begun ≡ false → s.model ≡ empty_model 1 → ReadsModel s n ls (WholeModel m k rest) → IsPrintedWithin m k
  first_within [] s n b e h = absurd cc
  first_within (l ∷ ls) s n b e (o, leads, after) = first_by o s n l ls b e (λ j h. first_within ls s j b e h) leads after

  -- a model that came to its script in the line of this number is printed in fewer lines, and none of them is too long
  pub printed_within : (ls : List (List ℕ)) → ReadsModel nothing_read 0 ls (WholeModel m k rest) → IsPrintedWithin m k
  printed_within ls h = first_within ls nothing_read 0 refl refl h
