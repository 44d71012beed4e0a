-- What the lines of a script ask for is what is kept of them: those with tokens, up to where they are read.
use Rattle.std.specs.Prelude.{◌-◌, filter, take}
use Rattle.std.proofs.Common.{◌≡◌, ℕ, ◌+◌, ◌<◌, suc, Bool, true, false, cond, List, [], ◌∷◌, map, Option, Some, None, Result, Ok, Err, refl, sym, ap, subst, ◌∙◌, arith}
use Rattle.script_reader.proofs.LinesSayItems.{none_is}
use Rattle.cca_base.specs.PlantModel.{PlantModel}
use Rattle.cca_base.specs.Refusals.{bare}
use Rattle.cca_base.specs.declared.cube.Pair.{Pair}
use Rattle.cca_base.specs.declared.events.Event.{Event}
use Rattle.model_form.specs.Limits.{line_code, unless_long}
use Rattle.model_form.specs.LinesEnds as lines
use Rattle.model_form.specs.LinesEnds.{Asked, ReadsBy, with_item}
use Rattle.run_form.specs.Document.{DocumentEnd, Complete, RefusedAt}
use Rattle.run_form.specs.ScriptReading.{Bearing, IsSaid, Follows, Reads, as_kept, behind_event, document_end}
use Rattle.run_form.proofs.ReadScripts.{code_says}
use Rattle.script_reader.specs.EventLines.{event_line, event_of, by_form, by_tokens}
use Rattle.script_reader.specs.Items.{Item}
use Rattle.text_base.specs.Tokens.{Tok, tokens_of}
use Rattle.migrate_form.specs.MigrateMachine.{kept_line}
use Rattle.migrate_form.specs.Migrated.{is_something, says_something, lines_read}
use Rattle.migrate_form.specs.declared.script.KeptLine.{KeptLine}

-- ---- a line with tokens, and one without

event_some : (says : Item → Result Event ℕ) (read : Result (List Tok) ℕ) (e : Event) → by_tokens says read ≡ Ok (Some e) → is_something read ≡ true
event_some says (Err at) e h = absurd cc
event_some says (Ok []) e h = absurd cc
event_some says (Ok (t ∷ ts)) e h = refl

some_item : (says : Item → Result Event ℕ) (form : Option Item) → by_form says form ≡ Ok None → ⊥
some_item says None h = absurd cc
some_item says (Some item) h = none_is (says item) h

event_none : (says : Item → Result Event ℕ) (read : Result (List Tok) ℕ) → by_tokens says read ≡ Ok None → is_something read ≡ false
event_none says (Err at) h = absurd cc
event_none says (Ok []) h = refl
event_none says (Ok (t ∷ ts)) h = absurd (some_item says _ h)

module _ (m : PlantModel) (pending : List Pair) (mirrored : ℕ) (l : List ℕ) where
  pub says_event : (e : Event) → Ok (Some e) ≡ event_line m pending mirrored l → says_something l ≡ true
  unfolding event_line
  says_event e h = event_some (event_of m pending mirrored) (tokens_of l) e (sym h)

  pub says_none : Ok None ≡ event_line m pending mirrored l → says_something l ≡ false
  unfolding event_line
  says_none h = event_none (event_of m pending mirrored) (tokens_of l) (sym h)

-- ---- the lines that are kept

filter_by : (t : Bool) (l : List ℕ) (ls : List (List ℕ)) → says_something l ≡ t → filter says_something (l ∷ ls) ≡ cond t (l ∷ filter says_something ls) (filter says_something ls)
filter_by t l ls e = ap (λ (b : Bool). cond b (l ∷ filter says_something ls) (filter says_something ls)) e

pub kept_first : (l : List ℕ) (ls : List (List ℕ)) → says_something l ≡ true → filter says_something (l ∷ ls) ≡ l ∷ filter says_something ls
kept_first l ls e = filter_by true l ls e

pub left_out : (l : List ℕ) (ls : List (List ℕ)) → says_something l ≡ false → filter says_something (l ∷ ls) ≡ filter says_something ls
left_out l ls e = filter_by false l ls e

-- ---- the lines that are read

-- the end comes behind so many lines
abbrev IsBehind : ℕ → DocumentEnd → Type 0
IsBehind n Complete = Unit {0}
IsBehind n (RefusedAt line r) = n < line

later : (n : ℕ) (e : DocumentEnd) → IsBehind (n + 1) e → IsBehind n e
later n Complete h = tt
later n (RefusedAt line r) h = omega (arith, h)

none_read : (n : ℕ) (code : ℕ) (ls : List (List ℕ)) → lines_read n (RefusedAt (n + 1) (bare code)) ls ≡ []
none_read n code ls = let none : n + 1 - (n + 1) ≡ 0 = omega arith in ap (λ (k : ℕ). take k ls) none

one_read : (n : ℕ) (l : List ℕ) (ls : List (List ℕ)) (e : DocumentEnd) → IsBehind (n + 1) e → lines_read n e (l ∷ ls) ≡ l ∷ lines_read (n + 1) e ls
one_read n l ls Complete h = refl
one_read n l ls (RefusedAt line r) h = let more : line - (n + 1) ≡ suc (line - (n + 1 + 1)) = omega (arith, h) in ap (λ (k : ℕ). take k (l ∷ ls)) more

-- ---- the lines that are asked for

-- the event and the line that are kept
abbrev pub its_event : KeptLine → Event
its_event k = k.event

abbrev pub its_line : KeptLine → List ℕ
its_line k = k.line

pub event_back : (l : List ℕ) (e : Event) → its_event (kept_line l e) ≡ e
event_back l e = refl

-- what lines ask for are those of them that are read and say something, and they end behind these
record AreKept (n : ℕ) (ls : List (List ℕ)) (a : Asked KeptLine) : Type 0 where
  pub behind : IsBehind n (document_end a.ending)
  pub lines : map its_line a.items ≡ filter says_something (lines_read n (document_end a.ending) ls)

refused_kept : (n code : ℕ) (ls : List (List ℕ)) (a : Asked KeptLine) → a ≡ lines.refused_at (n + 1) code → AreKept n ls a
refused_kept n code ls a is = subst (AreKept n ls) (sym is) (record { behind = (let k : n < n + 1 = omega arith in k); lines = ap (filter says_something) (sym (none_read n code ls)) })

module _ (m : PlantModel) where
  module _ (s : Bearing) (n : ℕ) (l : List ℕ) (ls : List (List ℕ)) (on : (y : Bearing) (rest : Asked KeptLine) → Reads kept_line its_event m y (n + 1) ls rest → AreKept (n + 1) ls rest) where
    -- what is said leads to what the lines ask for
    abbrev Asks : Result (Option Event) ℕ → Asked KeptLine → Type 0
    Asks said a = ReadsBy (IsSaid kept_line its_event m) (Follows kept_line its_event m) (as_kept (kept_line l) said) s (n + 1) (λ y rest. Reads kept_line its_event m y (n + 1) ls rest) a

    line_kept : (o : Option ℕ) (v : Result (Option Event) ℕ) (a : Asked KeptLine) → v ≡ event_line m s.pending s.mirrored l → Asks (unless_long o v) a → AreKept n (l ∷ ls) a
    line_kept (Some code) v a says is = refused_kept n code (l ∷ ls) a is
    line_kept None (Err code) a says is = refused_kept n code (l ∷ ls) a is
    line_kept None (Ok None) a says h =
        let p = on s a h in
        let none = ap (filter says_something) (one_read n l ls (document_end a.ending) p.behind) ∙ left_out l (lines_read (n + 1) (document_end a.ending) ls) (says_none m s.pending s.mirrored l says) in
        record { behind = later n (document_end a.ending) p.behind; lines = p.lines ∙ sym none }
    line_kept None (Ok (Some e)) a says (after, known, (rest, more, is)) =
        let p = on (behind_event s e after) rest more in
        let end = document_end rest.ending in
        let first = ap (filter says_something) (one_read n l ls end p.behind) ∙ kept_first l (lines_read (n + 1) end ls) (says_event m s.pending s.mirrored l e says) in
        subst (AreKept n (l ∷ ls)) (sym is) (record { behind = later n end p.behind; lines = ap (λ (x : List (List ℕ)). l ∷ x) p.lines ∙ sym first })

  kept : (ls : List (List ℕ)) (s : Bearing) (n : ℕ) (a : Asked KeptLine) → Reads kept_line its_event m s n ls a → AreKept n ls a
  kept [] s n a is = subst (AreKept n []) (sym is) (record { behind = tt; lines = refl })
  kept (l ∷ ls) s n a (said, says, by) =
      line_kept s n l ls (λ y rest h. kept ls y (n + 1) rest h) (line_code (n + 1) l) (event_line m s.pending s.mirrored l) a refl
      (subst (λ (z : Result (Option KeptLine) ℕ). ReadsBy (IsSaid kept_line its_event m) (Follows kept_line its_event m) z s (n + 1) (λ y rest. Reads kept_line its_event m y (n + 1) ls rest) a) (code_says kept_line its_event event_back m (line_code (n + 1) l) s l said says) by)

  pub kept_lines : (ls : List (List ℕ)) (s : Bearing) (n : ℕ) (a : Asked KeptLine) → Reads kept_line its_event m s n ls a → map its_line a.items ≡ filter says_something (lines_read n (document_end a.ending) ls)
  kept_lines ls s n a h = (kept ls s n a h).lines
