-- Each form of a line in bytes, a small program, and the rounds of a `repeat`.
use Rattle.std.proofs.Common.{◌≡◌, ◌≤◌, ℕ, List, ◌∷◌, All, refl, subst, sym, arith}
use Rattle.std.specs.Fmt.{digits}
use Rattle.std.proofs.lemmas.List.Elements.{All-cons, All-head, All-tail}
use Rattle.control_syntax.specs.declared.part.Part.TheOpen.{Part-F}
use Rattle.control_syntax.specs.declared.part.Part.TheFolds.{fold-roll-Part}
use Rattle.control_syntax.specs.Examples.{FormsInBytes, GoesRoundOnce, NumbersOfPrograms, OneOfEach, goal, truth}
use Rattle.control_syntax.specs.Program.{numbers_of, numbers_step}
use Rattle.control_syntax.specs.Written.{Reach, Await, Seq, Both, Choose, Either, Repeat, none, more}

pub forms_in_bytes : FormsInBytes
unfolding digits
forms_in_bytes = record { program = refl; reach = refl; await_ = refl; seq = refl; both = refl; choose = refl; otherwise_ = refl; rounds = refl; done = refl; end = refl }

pub one_of_each : OneOfEach
one_of_each = record {
  texts = more (Both (more (Reach (goal 1)) (more (Seq (more (Await truth) none)) none)))
      (more (Either truth none (more (Reach (goal 2)) none)) (more (Choose truth (more (Reach (goal 3)) none)) (more (Repeat 2 (more (Reach (goal 4)) (more (Reach (goal 5)) none))) none)));
  lines = refl;
  is = refl;
  few = omega arith;
  flat = omega arith;
}

pub numbers_of_programs : NumbersOfPrograms
numbers_of_programs = record {
  lines = refl;
  blocks = refl;
  rounds = refl;
  malformed = refl;
  name_unknown = refl;
  limit = refl;
  broken_goal = refl;
  repeated_pair = refl;
  unmatched = refl;
}

pub goes_round_once : GoesRoundOnce
goes_round_once n body =
    let Once : ℕ → Type 0 = λ k. 1 ≤ k in
    let all : numbers_of _ ≡ n ∷ numbers_of body = fold-roll-Part (List ℕ) numbers_step (Part-F.Repeat n body) in (
      λ once. let these = subst (All Once) all once in (All-head Once n (numbers_of body) these, All-tail Once n (numbers_of body) these),
      λ h. subst (All Once) (sym all) (All-cons Once n (numbers_of body) h.0 h.1),
    )
