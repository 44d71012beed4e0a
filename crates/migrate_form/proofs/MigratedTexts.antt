-- The text that `migrate` prints of a document that is read whole is that document in version 2.
use Rattle.std.specs.Prelude.{filter, codes}
use Rattle.std.proofs.Common.{◌≡◌, ℕ, ◌+◌, ◌≤◌, Bool, true, false, List, [], ◌∷◌, ◌++◌, length, map, Option, Some, None, Result, Ok, Err, All, refl, sym, ap, subst, ◌∙◌, append_assoc, arith}
use Rattle.std.proofs.lemmas.List.Elements.{All-nil, All-cons, All-head, All-tail}
use Rattle.cca_base.specs.Model.{WellFormed, in_second}
use Rattle.cca_base.specs.PlantModel.{PlantModel}
use Rattle.cca_base.specs.Refusals.{bare}
use Rattle.cca_base.specs.declared.cube.Pair.{Pair}
use Rattle.cca_base.specs.declared.events.Event.{Event}
use Rattle.cca_base.proofs.EmptyModel.{second_well_formed}
use Rattle.line_machine.specs.Lines.{Lines, with_line, lines_in, last_line, all_lines, HasNoLf}
use Rattle.line_machine.proofs.JoinedLines.{with_lines, line_before, joined_are_lines}
use Rattle.line_machine.proofs.LengthCodes.{no_code, within_limits}
use Rattle.line_machine.specs.declared.machine.TheConstants.{MAX_LINES}
use Rattle.model_form.specs.FormStates.{nothing_read}
use Rattle.model_form.specs.Limits.{line_code, unless_long}
use Rattle.model_form.specs.ModelTexts.{ModelText, WholeModel, RefusedModel, LeadsByCode, After, ReadsModel, EndsModel}
use Rattle.model_form.specs.declared.limits.TheConstants.{MAX_LINE}
use Rattle.model_form.proofs.PrintedLimits.{IsShort, Within}
use Rattle.model_form.proofs.PrintedLines.{printed_before}
use Rattle.model_syntax.specs.Items.{Script}
use Rattle.model_syntax.specs.Lines.{ModelSoFar, LineOutcome, Reads, Refuses, Finishes, Ended, LineLeads}
use Rattle.model_syntax.specs.Printing.{joined, header_said, component_said, variable_said, rule_said, move_said, failure_said, lines_said, printed_model}
use Rattle.model_syntax.specs.RoundTrip.{ReadsTo}
use Rattle.model_syntax.proofs.KeptLines.{Grows, keeps_all, rules_stay, moves_stay, failures_stay}
use Rattle.model_syntax.proofs.PrintedLines.{line_leads}
use Rattle.model_syntax.proofs.PrintedModel.{model_read}
use Rattle.run_form.specs.Document.{Document, Complete, RefusedAt, SaysBy, SaysScript, line_says, refused_at}
use Rattle.script_reader.specs.EventLines.{event_line}
use Rattle.text_base.specs.Lexemes.{Lexeme, word}
use Rattle.trace_laws.specs.Events.{mirrored_after}
use Rattle.migrate_form.specs.Migrated.{says_something, migrated_lines, migrated_model}
use Rattle.migrate_form.proofs.ScriptsKept.{says_event, says_none, kept_first, left_out}

-- ---- the printed model

-- the lines of a model behind its header
abbrev items_said : PlantModel → List (List Lexeme)
items_said m = map component_said m.components ++ map variable_said m.variables ++ map (rule_said m) m.rules ++ map (move_said m) m.moves ++ map (failure_said m) m.failures

module _ (m : PlantModel) (well : WellFormed m) where
  grows : Grows m (in_second m)
  grows = record { components = keeps_all m.components; variables = keeps_all m.variables; commands = keeps_all m.commands }

  -- but for the header they are those of the model in version 2
  same_items : items_said (in_second m) ≡ items_said m
  same_items = λ i.
      map component_said m.components ++ map variable_said m.variables ++ rules_stay m (in_second m) grows m.rules well.rules i
      ++ moves_stay m (in_second m) grows m.moves well.moves i ++ failures_stay m (in_second m) grows m.failures well.failures i

-- in version 2 a model is printed in as many lines, and none of them is too long
second_within : (m : PlantModel) (n : ℕ) → Within m n → Within (in_second m) n
second_within m n h =
    let well = h.good.well_formed in
    let header : IsShort (header_said 2) = (let k : length (joined (header_said 2)) ≡ 7 = refl in omega (arith, k)) in
    record {
      good = record { well_formed = second_well_formed m well; complete = h.good.complete };
      short = subst (λ (items : List (List Lexeme)). All IsShort (header_said 2 ∷ items)) (sym (same_items m well)) (All-cons IsShort (header_said 2) (items_said m) header (All-tail IsShort (header_said m.version) (items_said m) h.short));
      few = let e = ap length (same_items m well) in let k = h.few in omega (arith, e, k);
    }

-- ---- its lines are read again

-- a line is not too long
abbrev IsShortLine : List ℕ → Type 0
IsShortLine l = length l ≤ MAX_LINE

all_short : (lines : List (List Lexeme)) → All IsShort lines → All IsShortLine (map joined lines)
all_short [] h = All-nil IsShortLine
all_short (l ∷ lines) h = All-cons IsShortLine (joined l) (map joined lines) (All-head IsShort l lines h) (all_short lines (All-tail IsShort l lines h))

-- lines within the limits that lead from one reading to another are read so, whatever comes behind them
reads_on : (ls : List (List ℕ)) (s t : ModelSoFar) (n : ℕ) (rest : List (List ℕ)) (end : ModelText) → ReadsTo s ls t → All IsShortLine ls → n + length ls ≤ MAX_LINES → ReadsModel t (n + length ls) rest end → ReadsModel s n (ls ++ rest) end
reads_on [] s t n rest end h short few on = subst (λ (k : ℕ). ReadsModel s k rest end) (let e : n + length (let none : List (List ℕ) = [] in none) ≡ n = omega arith in e) (subst (λ (x : ModelSoFar). ReadsModel x (n + length (let none : List (List ℕ) = [] in none)) rest end) (sym h) on)
reads_on (l ∷ ls) s t n rest end (u, leads, h) short few on =
    let next : n + length (l ∷ ls) ≡ n + 1 + length ls = omega arith in
    let none : line_code (n + 1) l ≡ None = no_code MAX_LINE (n + 1) (length l) (omega (arith, few)) (All-head IsShortLine l ls short) in (
      Reads u,
      subst (λ (c : Option ℕ). LeadsByCode c s l (Reads u)) (sym none) leads,
      reads_on ls u t (n + 1) rest end h (All-tail IsShortLine l ls short) (omega (arith, few)) (subst (λ (k : ℕ). ReadsModel t k rest end) next on),
    )

-- the line `script` ends a model
script_ends : (m : PlantModel) (n : ℕ) (rest : List (List ℕ)) → n + 1 ≤ MAX_LINES → ReadsModel (record { model = m; begun = true }) n (codes "script" ∷ rest) (WholeModel m (n + 1) rest)
script_ends m n rest few =
    let none : line_code (n + 1) (codes "script") ≡ None = no_code MAX_LINE (n + 1) (length (codes "script")) few (omega arith) in
    let leads : LineLeads (record { model = m; begun = true }) (codes "script") Finishes = line_leads m (word (codes "script") ∷ []) Script Ended refl refl tt refl in
    (Finishes, subst (λ (c : Option ℕ). LeadsByCode c (record { model = m; begun = true }) (codes "script") Finishes) (sym none) leads, refl)

-- ---- the lines of the whole text

all_with : (ls : List (List ℕ)) (x : Lines) → all_lines (with_lines ls x) ≡ ls ++ all_lines x
all_with ls x = append_assoc ls x.whole (last_line x.tail)

script_clean : HasNoLf (codes "script")
script_clean = (refl, (refl, (refl, (refl, (refl, (refl, tt))))))

filter_cons : (P : List ℕ → Type 0) (l : List ℕ) (ls : List (List ℕ)) (t : Bool) → says_something l ≡ t → P l → All P (filter says_something ls) → All P (filter says_something (l ∷ ls))
filter_cons P l ls true e p h = subst (All P) (sym (kept_first l ls e)) (All-cons P l (filter says_something ls) p h)
filter_cons P l ls false e p h = subst (All P) (sym (left_out l ls e)) h

kept_all : (P : List ℕ → Type 0) (ls : List (List ℕ)) → All P ls → All P (filter says_something ls)
kept_all P [] h = All-nil P
kept_all P (l ∷ ls) h = filter_cons P l ls (says_something l) refl (All-head P l ls h) (kept_all P ls (All-tail P l ls h))

-- the lines that say something are kept again
again_by : (l : List ℕ) (ls : List (List ℕ)) (t : Bool) → says_something l ≡ t → filter says_something (filter says_something ls) ≡ filter says_something ls
    → filter says_something (filter says_something (l ∷ ls)) ≡ filter says_something (l ∷ ls)
again_by l ls true e h =
    ap (filter says_something) (kept_first l ls e) ∙ kept_first l (filter says_something ls) e ∙ ap (λ (x : List (List ℕ)). l ∷ x) h ∙ sym (kept_first l ls e)
again_by l ls false e h = ap (filter says_something) (left_out l ls e) ∙ h ∙ sym (left_out l ls e)

pub kept_again : (ls : List (List ℕ)) → filter says_something (filter says_something ls) ≡ filter says_something ls
kept_again [] = refl
kept_again (l ∷ ls) = again_by l ls (says_something l) refl (kept_again ls)

module _ (m : PlantModel) (n k : ℕ) (ls : List (List ℕ)) (within : Within m n) (number : k ≡ n + 1) (few : k ≤ MAX_LINES) (clean : All HasNoLf ls) where
  abbrev second : PlantModel
  second = in_second m

  abbrev kept : List (List ℕ)
  kept = filter says_something ls

  abbrev pub text : List ℕ
  text = migrated_model m ++ migrated_lines ls

  printed : Within second n
  printed = second_within m n within

  text_lines : all_lines (lines_in text) ≡ map joined (lines_said second) ++ codes "script" ∷ kept
  text_lines =
      let rest : List ℕ = (codes "script" ++ 10 ∷ []) ++ migrated_lines ls in
      let nested : text ≡ printed_model second ++ rest =
      ap (λ (head : List ℕ). head ++ migrated_lines ls) (append_assoc (printed_model second) (codes "script") (10 ∷ [])) ∙ append_assoc (printed_model second) (codes "script" ++ 10 ∷ []) (migrated_lines ls) in
      let lines : lines_in (printed_model second ++ rest) ≡ with_lines (map joined (lines_said second)) (with_line (codes "script") (lines_in (migrated_lines ls))) =
      printed_before second printed.good.well_formed rest ∙ ap (with_lines (map joined (lines_said second))) (line_before (codes "script") (migrated_lines ls) script_clean) in
      ap (λ (bytes : List ℕ). all_lines (lines_in bytes)) nested ∙ ap all_lines lines
      ∙ all_with (map joined (lines_said second)) (with_line (codes "script") (lines_in (migrated_lines ls)))
      ∙ ap (λ (x : List (List ℕ)). map joined (lines_said second) ++ codes "script" ∷ x) (joined_are_lines kept (kept_all HasNoLf ls clean))

  -- the number of its line `script`
  abbrev pub place : ℕ
  place = 0 + length (map joined (lines_said second)) + 1

  counted : (lines : List (List Lexeme)) → length (map joined lines) ≡ length lines
  counted [] = refl
  counted (l ∷ lines) = let e = counted lines in omega (arith, e)

  -- it stands no later than it stood
  pub no_later : place ≤ k
  no_later = let e = counted (lines_said second) in let h = printed.few in omega (arith, e, h, number)

  -- the text's model is the model in version 2, and behind it stand the lines that say something
  pub text_ends : EndsModel text (WholeModel second place kept)
  text_ends =
      let last = no_later in
      subst (λ (lines : List (List ℕ)). ReadsModel nothing_read 0 lines (WholeModel second place kept)) (sym text_lines)
      (reads_on (map joined (lines_said second)) nothing_read (record { model = second; begun = true }) 0 (codes "script" ∷ kept) (WholeModel second place kept)
      (model_read second printed.good.well_formed printed.good.complete) (all_short (lines_said second) printed.short) (omega (arith, last, few))
      (script_ends second (0 + length (map joined (lines_said second))) kept (omega (arith, last, few))))

-- ---- the script

-- what is refused isn't complete
pub refused_never : (m : PlantModel) (n code : ℕ) (r : Document) → r.ending ≡ Complete → r ≡ refused_at m n (bare code) → ⊥
refused_never m n code r complete is =
    let never : RefusedAt n (bare code) ≡ Complete = sym (ap (λ (d : Document). d.ending) is) ∙ complete in
    absurd cc

module _ (m : PlantModel) where
  kept_line : (c : Option ℕ) (said : Result (Option Event) ℕ) (l : List ℕ) (ls : List (List ℕ)) (pending : List Pair) (mirrored n k : ℕ) (r : Document) → c ≡ line_code (n + 1) l → said ≡ event_line m pending mirrored l → k ≤ n → r.ending ≡ Complete
      → ((after : List Pair) (mirrors j : ℕ) (d : Document) → j ≤ n + 1 → d.ending ≡ Complete → SaysScript m after mirrors (n + 1) ls d → SaysScript m after mirrors j (filter says_something ls) d)
      → SaysBy (unless_long c said) m pending mirrored (n + 1) (λ after mirrors d. SaysScript m after mirrors (n + 1) ls d) r → SaysScript m pending mirrored k (filter says_something (l ∷ ls)) r
  kept_line (Some code) said l ls pending mirrored n k r f g less complete on h = absurd (refused_never m (n + 1) code r complete h)
  kept_line None (Err code) l ls pending mirrored n k r f g less complete on h = absurd (refused_never m (n + 1) code r complete h)
  kept_line None (Ok None) l ls pending mirrored n k r f g less complete on h =
      subst (λ (x : List (List ℕ)). SaysScript m pending mirrored k x r) (sym (left_out l ls (says_none m pending mirrored l g))) (on pending mirrored k r (omega (arith, less)) complete h)
  kept_line None (Ok (Some e)) l ls pending mirrored n k r f g less complete on (after, rest, known, more, is) =
      let ended : rest.ending ≡ Complete = sym (ap (λ (d : Document). d.ending) is) ∙ complete in
      let limits = within_limits MAX_LINE (n + 1) (length l) (sym f) in
      let none : line_code (k + 1) l ≡ None = no_code MAX_LINE (k + 1) (length l) (omega (arith, limits.0, less)) limits.1 in
      let said : Ok (Some e) ≡ line_says m pending mirrored (k + 1) l = g ∙ (λ i. unless_long (sym none i) (event_line m pending mirrored l)) in
      let later = on after (mirrored_after mirrored e) (k + 1) rest (omega (arith, less)) ended more in
      subst (λ (x : List (List ℕ)). SaysScript m pending mirrored k x r) (sym (kept_first l ls (says_event m pending mirrored l e g)))
      (subst (λ (w : Result (Option Event) ℕ). SaysBy w m pending mirrored (k + 1) (λ after mirrors d. SaysScript m after mirrors (k + 1) (filter says_something ls) d) r) said (after, rest, known, later, is))

  -- the lines that say something say the same, also where they stand earlier
  pub kept_says : (ls : List (List ℕ)) (pending : List Pair) (mirrored n k : ℕ) (r : Document) → k ≤ n → r.ending ≡ Complete → SaysScript m pending mirrored n ls r → SaysScript m pending mirrored k (filter says_something ls) r
  kept_says [] pending mirrored n k r less complete h = h
  kept_says (l ∷ ls) pending mirrored n k r less complete h =
      kept_line (line_code (n + 1) l) (event_line m pending mirrored l) l ls pending mirrored n k r refl refl less complete (λ after mirrors j d near ended more. kept_says ls after mirrors (n + 1) j d near ended more) h

-- ---- the lines behind a model are lines of the input

rest_by : (P : List ℕ → Type 0) (o : LineOutcome) (s : ModelSoFar) (n : ℕ) (ls : List (List ℕ)) (m : PlantModel) (k : ℕ) (rest : List (List ℕ)) → ((t : ModelSoFar) → ReadsModel t (n + 1) ls (WholeModel m k rest) → All P rest) → All P ls
    → After o (λ t. ReadsModel t (n + 1) ls (WholeModel m k rest)) (WholeModel m k rest ≡ WholeModel s.model (n + 1) ls) (λ code. WholeModel m k rest ≡ RefusedModel s.model (n + 1) (bare code)) → All P rest
rest_by P (Reads t) s n ls m k rest on all h = on t h
rest_by P (Refuses code) s n ls m k rest on all h = absurd cc
rest_by P Finishes s n ls m k rest on all h = let same : rest ≡ ls = cc in subst (All P) (sym same) all

pub rest_all : (P : List ℕ → Type 0) (ls : List (List ℕ)) (s : ModelSoFar) (n : ℕ) (m : PlantModel) (k : ℕ) (rest : List (List ℕ)) → ReadsModel s n ls (WholeModel m k rest) → All P ls → All P rest
rest_all P [] s n m k rest h all = absurd cc
rest_all P (l ∷ ls) s n m k rest (o, leads, after) all =
    rest_by P o s n ls m k rest (λ t h. rest_all P ls t (n + 1) m k rest h (All-tail P l ls all)) (All-tail P l ls all) after
