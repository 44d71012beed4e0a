-- Lines say one thing.
use Rattle.std.proofs.Common.{◌≡◌, ℕ, ◌+◌, List, [], ◌∷◌, Option, Some, None, Result, Ok, Err, sym, ap, subst, ◌∙◌}
use Rattle.cca_base.specs.PlantModel.{PlantModel}
use Rattle.cca_base.specs.declared.cube.Pair.{Pair}
use Rattle.cca_base.specs.declared.events.Event.{Event}
use Rattle.control_syntax.proofs.OneLine.{lines_are_one}
use Rattle.control_syntax.specs.Reading.{Reading, led, nothing_read}
use Rattle.control_syntax.specs.declared.line.Line.{Line}
use Rattle.control_syntax.specs.declared.part.Part.{Part}
use Rattle.model_form.specs.Limits.{line_code}
use Rattle.trace_laws.specs.Events.{mirrored_after}
use Rattle.trace_laws.proofs.PendingKnown.{one_pending}
use Rattle.program_form.specs.Sequences.{Sequence, ProgramBy, ReadsLine, SaysBy, SaysEvents, SaysNext, SaysProgram, SaysSequence, line_says, with_event}

module _ (m : PlantModel) where
  module _ (part : Part) where
    by_one : (v : Result (Option Event) ℕ) (pending : List Pair) (mirrored n : ℕ) (ls : List (List ℕ)) (r q : Sequence)
        → ((after : List Pair) (mirrors : ℕ) (r q : Sequence) → SaysEvents m part after mirrors n ls r → SaysEvents m part after mirrors n ls q → r ≡ q)
        → SaysBy m part v pending mirrored n (λ after mirrors rest. SaysEvents m part after mirrors n ls rest) r → SaysBy m part v pending mirrored n (λ after mirrors rest. SaysEvents m part after mirrors n ls rest) q → r ≡ q
    by_one (Err code) pending mirrored n ls r q on h k = h ∙ sym k
    by_one (Ok None) pending mirrored n ls r q on h k = on pending mirrored r q h k
    by_one (Ok (Some e)) pending mirrored n ls r q on (after, rest, known, says, is) (later, others, also, too, was) =
        let same : later ≡ after = one_pending pending e after later known also in
        is ∙ ap (with_event e) (on after (mirrored_after mirrored e) rest others says (subst (λ p. SaysEvents m part p (mirrored_after mirrored e) n ls others) same too)) ∙ sym was

    events_one : (ls : List (List ℕ)) (pending : List Pair) (mirrored n : ℕ) (r q : Sequence) → SaysEvents m part pending mirrored n ls r → SaysEvents m part pending mirrored n ls q → r ≡ q
    events_one [] pending mirrored n r q h k = h ∙ sym k
    events_one (l ∷ ls) pending mirrored n r q h k = by_one (line_says m pending mirrored (n + 1) l) pending mirrored (n + 1) ls r q (λ after mirrors s t. events_one ls after mirrors (n + 1) s t) h k

  line_one : (o : Option ℕ) (x : Reading) (l : List ℕ) (a b : Result (Option Line) ℕ) → ReadsLine m o x l a → ReadsLine m o x l b → a ≡ b
  line_one (Some code) x l a b h k = h ∙ sym k
  line_one None x l a b h k = lines_are_one m x l a b h k

  next_one : (o : Option Part) (y : Reading) (n : ℕ) (ls : List (List ℕ)) (r q : Sequence) → ((r q : Sequence) → SaysProgram m y n ls r → SaysProgram m y n ls q → r ≡ q)
      → SaysNext m o (λ rest. SaysProgram m y n ls rest) n ls r → SaysNext m o (λ rest. SaysProgram m y n ls rest) n ls q → r ≡ q
  next_one None y n ls r q on h k = on r q h k
  next_one (Some part) y n ls r q on h k = events_one part ls [] 0 n r q h k

  said_one : (said : Result (Option Line) ℕ) (x : Reading) (n : ℕ) (ls : List (List ℕ)) (r q : Sequence) → ((y : Reading) (r q : Sequence) → SaysProgram m y n ls r → SaysProgram m y n ls q → r ≡ q)
      → ProgramBy m said x n ls (λ y rest. SaysProgram m y n ls rest) r → ProgramBy m said x n ls (λ y rest. SaysProgram m y n ls rest) q → r ≡ q
  said_one (Err code) x n ls r q on h k = h ∙ sym k
  said_one (Ok said) x n ls r q on h k = next_one (led x said).whole (led x said) n ls r q (on (led x said)) h k

  program_one : (ls : List (List ℕ)) (x : Reading) (n : ℕ) (r q : Sequence) → SaysProgram m x n ls r → SaysProgram m x n ls q → r ≡ q
  program_one [] x n r q h k = h ∙ sym k
  program_one (l ∷ ls) x n r q (said, reads, by) (other, also, too) =
      let same : said ≡ other = line_one (line_code (n + 1) l) x l said other reads also in
      said_one other x (n + 1) ls r q (λ y s t. program_one ls y (n + 1) s t) (subst (λ v. ProgramBy m v x (n + 1) ls (λ y rest. SaysProgram m y (n + 1) ls rest) r) same by) too

  pub sequence_one : (n : ℕ) (ls : List (List ℕ)) (r q : Sequence) → SaysSequence m n ls r → SaysSequence m n ls q → r ≡ q
  sequence_one n ls r q h k = program_one ls nothing_read n r q h k
