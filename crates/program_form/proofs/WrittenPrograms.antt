-- What the lines behind a model say, without a reader.
use Rattle.std.proofs.Common.{◌≡◌, ◌+◌, ℕ, List, [], ◌∷◌, ◌++◌, length, map, Option, Some, None, Result, Ok, Err, IsTrue, refl, sym, ap, subst, ◌∙◌, arith}
use Rattle.std.proofs.lemmas.Option.{same_Some}
use Rattle.std.specs.List.{AllByRecursion}
use Rattle.cca_base.specs.PlantModel.{PlantModel}
use Rattle.cca_base.specs.declared.cube.Pair.{Pair}
use Rattle.cca_base.specs.declared.events.Event.{Event}
use Rattle.cca_base.specs.declared.events.Event.TheVariants as event
use Rattle.control_syntax.proofs.OneProgram.{programs_are_read}
use Rattle.control_syntax.specs.Codes.{IsSaid}
use Rattle.control_syntax.specs.Reading.{Reading, led, nothing_read}
use Rattle.control_syntax.specs.Written.{AreRead}
use Rattle.control_syntax.specs.declared.line.Line.{Line}
use Rattle.control_syntax.specs.declared.part.Part.{Part}
use Rattle.model_form.specs.Limits.{line_code, unless_long}
use Rattle.script_reader.specs.EventLines.{as_event, by_form, by_tokens, event_here, named_event, unless}
use Rattle.script_reader.specs.Items.{Item, Goal, Clear, Observe, Fault, Mirror, Reset, Tick, item_of}
use Rattle.script_reader.specs.Named.{variable_of, stands_for, each_pair}
use Rattle.script_reader.specs.declared.named.Naming.TheVariants.{Modes, Values}
use Rattle.script_reader.specs.EventCodes.{observe_code, mirror_code}
use Rattle.text_base.specs.Lexemes.{lexeme}
use Rattle.text_base.specs.Tokens.{Tok, tokens_of}
use Rattle.trace_laws.specs.Events.{mirrored_after}
use Rattle.program_form.specs.PutInLaws.{sets_no_goal}
use Rattle.program_form.specs.Sequences.{Sequence, ProgramBy, ReadsLine, SaysBy, SaysEvents, SaysNext, SaysProgram, event_line, line_says}
use Rattle.program_form.specs.WrittenPrograms.{AreShort, LinesSetNoGoal, ProgramsAreWritten}

module _ (m : PlantModel) where
  module _ (part : Part) where
    says_by : (v : Result (Option Event) ℕ) (pending : List Pair) (mirrored n : ℕ) (ls : List (List ℕ)) (r : Sequence)
        → ((after : List Pair) (mirrors : ℕ) (r : Sequence) → SaysEvents m part after mirrors n ls r → r.program ≡ Some part)
        → SaysBy m part v pending mirrored n (λ after mirrors rest. SaysEvents m part after mirrors n ls rest) r → r.program ≡ Some part
    says_by (Err code) pending mirrored n ls r on h = ap (λ (s : Sequence). s.program) h
    says_by (Ok None) pending mirrored n ls r on h = on pending mirrored r h
    says_by (Ok (Some e)) pending mirrored n ls r on (after, rest, known, says, is) = ap (λ (s : Sequence). s.program) is ∙ on after (mirrored_after mirrored e) rest says

    -- behind a program lines say that program
    same_program : (ls : List (List ℕ)) (pending : List Pair) (mirrored n : ℕ) (r : Sequence) → SaysEvents m part pending mirrored n ls r → r.program ≡ Some part
    same_program [] pending mirrored n r h = ap (λ (s : Sequence). s.program) h
    same_program (l ∷ ls) pending mirrored n r h = says_by (line_says m pending mirrored (n + 1) l) pending mirrored (n + 1) ls r (λ after mirrors s. same_program ls after mirrors (n + 1) s) h

  -- ---- from what lines say to a program that is read

  -- from what was read before, the first lines are read to the end of the program
  record ReadFirst (x : Reading) (n : ℕ) (ls : List (List ℕ)) (part : Part) (r : Sequence) : Type 0 where
    first : List (List ℕ)
    later : List (List ℕ)
    next : Reading
    splits : ls ≡ first ++ later
    short : AreShort n first
    read : AreRead m x first next
    whole : next.whole ≡ Some part
    says : SaysEvents m part [] 0 (n + length first) later r

  -- a line before the others
  one_before : (x : Reading) (n : ℕ) (l : List ℕ) (ls : List (List ℕ)) (part : Part) (r : Sequence) (said : Option Line) → x.whole ≡ None → line_code (n + 1) l ≡ None → IsSaid m x l (Ok said)
      → ReadFirst (led x said) (n + 1) ls part r → ReadFirst x n (l ∷ ls) part r
  one_before x n l ls part r said going short is rest = record {
    first = l ∷ rest.first;
    later = rest.later;
    next = rest.next;
    splits = ap (λ (y : List (List ℕ)). l ∷ y) rest.splits;
    short = (short, rest.short);
    read = (going, (said, is, rest.read));
    whole = rest.whole;
    says = subst (λ (k : ℕ). SaysEvents m part [] 0 k rest.later r) (let e : n + 1 + length rest.first ≡ n + length (l ∷ rest.first) = omega arith in e) rest.says;
  }

  -- the last line of the program
  last_line : (x : Reading) (n : ℕ) (l : List ℕ) (ls : List (List ℕ)) (part : Part) (r : Sequence) (said : Option Line) (p : Part) → x.whole ≡ None → line_code (n + 1) l ≡ None → IsSaid m x l (Ok said)
      → (led x said).whole ≡ Some p → SaysEvents m p [] 0 (n + 1) ls r → r.program ≡ Some part → ReadFirst x n (l ∷ ls) part r
  last_line x n l ls part r said p going short is whole says program =
      let same : p ≡ part = same_Some p part (sym (same_program p ls [] 0 (n + 1) r says) ∙ program) in
      record {
        first = l ∷ [];
        later = ls;
        next = led x said;
        splits = refl;
        short = (short, tt);
        read = (going, (said, is, refl));
        whole = whole ∙ ap (λ (q : Part). Some q) same;
        says = subst (λ (q : Part). SaysEvents m q [] 0 (n + 1) ls r) same says;
      }

  module _ (part : Part) (r : Sequence) (program : r.program ≡ Some part) where
    -- there is no program where none was read
    none_read : r.program ≡ None → {P : Type 0} → P
    none_read e {P} = let never : None ≡ Some part = sym e ∙ program in absurd cc

    next_first : (o : Option Part) (x : Reading) (n : ℕ) (l : List ℕ) (ls : List (List ℕ)) (said : Option Line)
        → ((y : Reading) → y.whole ≡ None → SaysProgram m y (n + 1) ls r → ReadFirst y (n + 1) ls part r)
        → x.whole ≡ None → line_code (n + 1) l ≡ None → IsSaid m x l (Ok said) → (led x said).whole ≡ o
        → SaysNext m o (λ rest. SaysProgram m (led x said) (n + 1) ls rest) (n + 1) ls r → ReadFirst x n (l ∷ ls) part r
    next_first None x n l ls said on going short is whole h = one_before x n l ls part r said going short is (on (led x said) whole h)
    next_first (Some p) x n l ls said on going short is whole h = last_line x n l ls part r said p going short is whole h program

    said_first : (said : Result (Option Line) ℕ) (x : Reading) (n : ℕ) (l : List ℕ) (ls : List (List ℕ))
        → ((y : Reading) → y.whole ≡ None → SaysProgram m y (n + 1) ls r → ReadFirst y (n + 1) ls part r)
        → x.whole ≡ None → line_code (n + 1) l ≡ None → IsSaid m x l said → ProgramBy m said x (n + 1) ls (λ y rest. SaysProgram m y (n + 1) ls rest) r → ReadFirst x n (l ∷ ls) part r
    said_first (Err code) x n l ls on going short is h = none_read (ap (λ (s : Sequence). s.program) h)
    said_first (Ok said) x n l ls on going short is h = next_first (led x said).whole x n l ls said on going short is refl h

    line_first : (o : Option ℕ) (said : Result (Option Line) ℕ) (x : Reading) (n : ℕ) (l : List ℕ) (ls : List (List ℕ))
        → ((y : Reading) → y.whole ≡ None → SaysProgram m y (n + 1) ls r → ReadFirst y (n + 1) ls part r)
        → x.whole ≡ None → line_code (n + 1) l ≡ o → ReadsLine m o x l said → ProgramBy m said x (n + 1) ls (λ y rest. SaysProgram m y (n + 1) ls rest) r → ReadFirst x n (l ∷ ls) part r
    line_first (Some code) said x n l ls on going short is h =
        let refused = subst (λ (v : Result (Option Line) ℕ). ProgramBy m v x (n + 1) ls (λ y rest. SaysProgram m y (n + 1) ls rest) r) is h in
        none_read (ap (λ (s : Sequence). s.program) refused)
    line_first None said x n l ls on going short is h = said_first said x n l ls on going short is h

    lines_first : (ls : List (List ℕ)) (x : Reading) (n : ℕ) → x.whole ≡ None → SaysProgram m x n ls r → ReadFirst x n ls part r
    lines_first [] x n going h = none_read (ap (λ (s : Sequence). s.program) h)
    lines_first (l ∷ ls) x n going (said, reads, by) = line_first (line_code (n + 1) l) said x n l ls (λ y whole says. lines_first ls y (n + 1) whole says) going refl reads by

  -- ---- and back

  module _ (part : Part) (r : Sequence) where
    -- a whole program isn't read on
    only_end : (first later : List (List ℕ)) (x next : Reading) (n : ℕ) (p : Part) → AreRead m x first next → next.whole ≡ Some part → x.whole ≡ Some p → SaysEvents m part [] 0 (n + length first) later r
        → SaysEvents m p [] 0 n (first ++ later) r
    only_end [] later x next n p read whole at says =
        let same : part ≡ p = same_Some part p (sym whole ∙ ap (λ (y : Reading). y.whole) read ∙ at) in
        subst (λ (q : Part). SaysEvents m q [] 0 n later r) same (subst (λ (k : ℕ). SaysEvents m part [] 0 k later r) (let e : n + 0 ≡ n = omega arith in e) says)
    only_end (l ∷ first) later x next n p read whole at says = let never : None ≡ Some p = sym read.0 ∙ at in absurd cc

    next_says : (o : Option Part) (first later : List (List ℕ)) (y next : Reading) (n : ℕ) → y.whole ≡ o
        → (y.whole ≡ None → SaysProgram m y n (first ++ later) r) → AreRead m y first next → next.whole ≡ Some part → SaysEvents m part [] 0 (n + length first) later r
        → SaysNext m o (λ rest. SaysProgram m y n (first ++ later) rest) n (first ++ later) r
    next_says None first later y next n at on read whole says = on at
    next_says (Some p) first later y next n at on read whole says = only_end first later y next n p read whole at says

    says_program : (first later : List (List ℕ)) (x next : Reading) (n : ℕ) → x.whole ≡ None → AreShort n first → AreRead m x first next → next.whole ≡ Some part
        → SaysEvents m part [] 0 (n + length first) later r → SaysProgram m x n (first ++ later) r
    says_program [] later x next n going short read whole says = let never : None ≡ Some part = sym going ∙ sym (ap (λ (y : Reading). y.whole) read) ∙ whole in absurd cc
    says_program (l ∷ first) later x next n going (short, others) (none, (said, is, read)) whole says =
        let on = subst (λ (k : ℕ). SaysEvents m part [] 0 k later r) (let e : n + length (l ∷ first) ≡ n + 1 + length first = omega arith in e) says in (
          Ok said,
          subst (λ (o : Option ℕ). ReadsLine m o x l (Ok said)) (sym short) is,
          next_says (led x said).whole first later (led x said) next (n + 1) refl (λ still. says_program first later (led x said) next (n + 1) still others read whole on) read whole on,
        )

pub programs_are_written : ProgramsAreWritten
programs_are_written m n ls part r = (
  λ h. let read = lines_first m part r h.1 ls nothing_read n refl h.0 in
      let written = (programs_are_read m read.first part).0 (read.next, read.read, read.whole) in
      record { first = read.first; later = read.later; lines = written.0; splits = read.splits; short = read.short; are = written.1; is = written.2; says = read.says },
  λ w. let read = (programs_are_read m w.first part).1 (w.lines, w.are, w.is) in
      let says = says_program m part r w.first w.later nothing_read read.0 n refl w.short read.1 read.2 w.says in
      (subst (λ (y : List (List ℕ)). SaysProgram m nothing_read n y r) (sym w.splits) says, same_program m part w.later [] 0 (n + length w.first) r w.says),
)

-- ---- no line sets a goal

abbrev IsFree : Result (Option Event) ℕ → Type 0
IsFree v = (e : Event) → v ≡ Ok (Some e) → IsTrue (sets_no_goal e)

-- an event that sets no goal
freely : (d : Event) → IsTrue (sets_no_goal d) → IsFree (Ok (Some d))
freely d free e h = let same : d ≡ e = same_Some d e (let is : Some d ≡ Some e = cc in is) in subst (λ (x : Event). IsTrue (sets_no_goal x)) same free

unless_free : {X : Type 0} (says : X → Event) → ((x : X) → IsTrue (sets_no_goal (says x))) → (o : Option ℕ) (x : X) → IsFree (as_event (unless o (says x)))
unless_free says free None x e h = freely (says x) (free x) e h
unless_free says free (Some code) x e h = absurd cc

named_free : {X : Type 0} (says : X → Event) (code : X → Option ℕ) → ((x : X) → IsTrue (sets_no_goal (says x))) → (o : Option X) → IsFree (as_event (named_event says code o))
named_free says code free None e h = absurd cc
named_free says code free (Some x) e h = unless_free says free (code x) x e h

module _ (m : PlantModel) (pending : List Pair) (mirrored : ℕ) where
  item_free : (i : Item) → IsFree (as_event (event_here m pending mirrored i))
  item_free (Goal pairs) e h = absurd cc
  item_free Clear e h = absurd cc
  item_free (Observe pairs) e h = named_free event.Observe (observe_code m pending mirrored) (λ x. refl) (each_pair (stands_for Values m) pairs) e h
  item_free (Fault pair) e h = named_free event.Fault (λ p. None) (λ x. refl) (stands_for Modes m pair) e h
  item_free (Mirror name) e h = named_free event.Mirror (mirror_code m pending mirrored) (λ x. refl) (variable_of m name) e h
  item_free Reset e h = freely event.Reset refl e h
  item_free Tick e h = freely event.Tick refl e h

  form_free : (i : Option Item) → IsFree (by_form (event_here m pending mirrored) i)
  form_free None e h = absurd cc
  form_free (Some i) e h = item_free i e h

  tokens_free : (ts : Result (List Tok) ℕ) → IsFree (by_tokens (event_here m pending mirrored) ts)
  tokens_free (Err at) e h = absurd cc
  tokens_free (Ok []) e h = absurd cc
  tokens_free (Ok (t ∷ ts)) e h = form_free (item_of (map lexeme (t ∷ ts))) e h

  line_free : (line : List ℕ) → IsFree (event_line m pending mirrored line)
  unfolding event_line
  line_free line e h = tokens_free (tokens_of line) e h

long_free : (o : Option ℕ) (v : Result (Option Event) ℕ) → IsFree v → IsFree (unless_long o v)
long_free None v free e h = free e h
long_free (Some code) v free e h = absurd cc

module _ (m : PlantModel) where
  abbrev AreFree : List Event → Type 0
  AreFree events = AllByRecursion (λ e. IsTrue (sets_no_goal e)) events

  by_free : (part : Part) (v : Result (Option Event) ℕ) → IsFree v → (pending : List Pair) (mirrored n : ℕ) (ls : List (List ℕ)) (r : Sequence)
      → ((after : List Pair) (mirrors : ℕ) (r : Sequence) → SaysEvents m part after mirrors n ls r → AreFree r.events)
      → SaysBy m part v pending mirrored n (λ after mirrors rest. SaysEvents m part after mirrors n ls rest) r → AreFree r.events
  by_free part (Err code) free pending mirrored n ls r on h = subst AreFree (sym (ap (λ (s : Sequence). s.events) h)) tt
  by_free part (Ok None) free pending mirrored n ls r on h = on pending mirrored r h
  by_free part (Ok (Some e)) free pending mirrored n ls r on (after, rest, known, says, is) =
      subst AreFree (sym (ap (λ (s : Sequence). s.events) is)) (free e refl, on after (mirrored_after mirrored e) rest says)

  events_free : (part : Part) (ls : List (List ℕ)) (pending : List Pair) (mirrored n : ℕ) (r : Sequence) → SaysEvents m part pending mirrored n ls r → AreFree r.events
  events_free part [] pending mirrored n r h = subst AreFree (sym (ap (λ (s : Sequence). s.events) h)) tt
  events_free part (l ∷ ls) pending mirrored n r h =
      by_free part (line_says m pending mirrored (n + 1) l) (long_free (line_code (n + 1) l) (event_line m pending mirrored l) (line_free m pending mirrored l)) pending mirrored (n + 1) ls r
      (λ after mirrors s. events_free part ls after mirrors (n + 1) s) h

  none_free : (r : Sequence) → r.events ≡ [] → AreFree r.events
  none_free r e = subst AreFree (sym e) tt

  next_free : (o : Option Part) (y : Reading) (n : ℕ) (ls : List (List ℕ)) (r : Sequence) → (SaysProgram m y n ls r → AreFree r.events) → SaysNext m o (λ rest. SaysProgram m y n ls rest) n ls r → AreFree r.events
  next_free None y n ls r on h = on h
  next_free (Some part) y n ls r on h = events_free part ls [] 0 n r h

  said_free : (said : Result (Option Line) ℕ) (x : Reading) (n : ℕ) (ls : List (List ℕ)) (r : Sequence) → ((y : Reading) → SaysProgram m y n ls r → AreFree r.events)
      → ProgramBy m said x n ls (λ y rest. SaysProgram m y n ls rest) r → AreFree r.events
  said_free (Err code) x n ls r on h = none_free r (ap (λ (s : Sequence). s.events) h)
  said_free (Ok said) x n ls r on h = next_free (led x said).whole (led x said) n ls r (on (led x said)) h

  program_free : (ls : List (List ℕ)) (x : Reading) (n : ℕ) (r : Sequence) → SaysProgram m x n ls r → AreFree r.events
  program_free [] x n r h = none_free r (ap (λ (s : Sequence). s.events) h)
  program_free (l ∷ ls) x n r (said, reads, by) = said_free said x (n + 1) ls r (λ y says. program_free ls y (n + 1) r says) by

pub lines_set_no_goal : LinesSetNoGoal
lines_set_no_goal m n ls r h = program_free m ls nothing_read n r h
