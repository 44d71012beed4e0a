-- Programs in rounds, and an empty one, go as the examples say.
use Rattle.std.proofs.Common.{◌≡◌, ◌==◌, false, ℕ, [], ◌∷◌, ◌++◌, Option, Some, None, refl}
use Rattle.cca_base.specs.PlantModel.{PlantModel}
use Rattle.cca_base.specs.State.{Extends}
use Rattle.control_syntax.specs.Reading.{seq}
use Rattle.control_laws.specs.Examples.{pair, reach, twice, goal, rounds, RoundsTakeTurns, ResetBeginsAgain, EmptyEndsInATurn, turns_of_one}
use Rattle.control_laws.specs.Rest.{Rest as rest, Rests as rests, whole, Turn}
use Rattle.control_laws.specs.Turns.{Control, TurnWith, Reset, TurnsBy}
use Rattle.control_laws.proofs.SmallTurns.{asks, at, by, goes_so, not_there, one_more, reached, rounds_on, seq_ends, seq_goes, seq_stays, there, whole_reach, whole_seq, whole_twice}

-- where the mode isn't the goal's
other : (mode wanted : ℕ) → (mode == wanted) ≡ false → Extends (mode ∷ []) (goal wanted) → ⊥
other mode wanted differ = not_there (mode ∷ []) (pair 0 wanted) [] mode refl differ

abbrev on : rest
on = rest.Reach (goal 1)

abbrev off : rest
off = rest.Reach (goal 0)

abbrev body : rest
body = rest.Seq (rests.more on (rests.more off rests.none))

abbrev half : rest
half = rest.Seq (rests.more off rests.none)

abbrev rounds_left : ℕ → rest → rest
rounds_left n x = rest.Seq (rests.more (rest.Repeat n body x) rests.none)

rounds_whole : whole rounds ≡ rounds_left 2 body
rounds_whole =
    let inner : whole (seq (reach (goal 1) ∷ reach (goal 0) ∷ [])) ≡ body =
    whole_seq (reach (goal 1) ∷ reach (goal 0) ∷ []) (rests.more on (rests.more off rests.none))
    (one_more (reach (goal 1)) (reach (goal 0) ∷ []) on (rests.more off rests.none) (whole_reach (goal 1)) (one_more (reach (goal 0)) [] off rests.none (whole_reach (goal 0)) refl)) in
    whole_seq (twice (seq (reach (goal 1) ∷ reach (goal 0) ∷ [])) ∷ []) (rests.more (rest.Repeat 2 body body) rests.none)
    (one_more (twice (seq (reach (goal 1) ∷ reach (goal 0) ∷ []))) [] (rest.Repeat 2 body body) rests.none (whole_twice (seq (reach (goal 1) ∷ reach (goal 0) ∷ [])) body inner) refl)

module _ (m : PlantModel) where
  wants_on : (n : ℕ) → Turn m (0 ∷ []) (rounds_left n body) (goal 1) (Some (rounds_left n body))
  wants_on n = seq_stays m (0 ∷ []) (rest.Repeat n body body) (rest.Repeat n body body) rests.none (goal 1)
      (rounds_on m (0 ∷ []) n body body (goal 1) (Some body)
      (seq_stays m (0 ∷ []) on on (rests.more off rests.none) (goal 1) (asks m (0 ∷ []) (goal 1) (other 0 1 refl))))

  half_off : Turn m (1 ∷ []) half (goal 0) (Some half)
  half_off = seq_stays m (1 ∷ []) off off rests.none (goal 0) (asks m (1 ∷ []) (goal 0) (other 1 0 refl))

  then_off : (n : ℕ) → Turn m (1 ∷ []) (rounds_left n body) (goal 0) (Some (rounds_left n half))
  then_off n = seq_stays m (1 ∷ []) (rest.Repeat n body body) (rest.Repeat n body half) rests.none (goal 0)
      (rounds_on m (1 ∷ []) n body body (goal 0) (Some half)
      (seq_goes m (1 ∷ []) on (rests.more off rests.none) (goal 0) (Some half) (reached m (1 ∷ []) (goal 1) (there (1 ∷ []) (pair 0 1) refl)) half_off))

  wants_off : (n : ℕ) → Turn m (1 ∷ []) (rounds_left n half) (goal 0) (Some (rounds_left n half))
  wants_off n = seq_stays m (1 ∷ []) (rest.Repeat n body half) (rest.Repeat n body half) rests.none (goal 0)
      (rounds_on m (1 ∷ []) n body half (goal 0) (Some half) half_off)

  half_ends : Turn m (0 ∷ []) half [] None
  half_ends = seq_goes m (0 ∷ []) off rests.none [] None (reached m (0 ∷ []) (goal 0) (there (0 ∷ []) (pair 0 0) refl)) (seq_ends m (0 ∷ []))

  first_ends : Turn m (0 ∷ []) (rounds_left 2 half) [] (Some (rounds_left 1 body))
  first_ends = seq_stays m (0 ∷ []) (rest.Repeat 2 body half) (rest.Repeat 1 body body) rests.none [] (rounds_on m (0 ∷ []) 2 body half [] None half_ends)

  second_ends : Turn m (0 ∷ []) (rounds_left 1 half) [] None
  second_ends = seq_goes m (0 ∷ []) (rest.Repeat 1 body half) rests.none [] None (rounds_on m (0 ∷ []) 1 body half [] None half_ends) (seq_ends m (0 ∷ []))

  abbrev from : Option rest → Control
  from left = at (rounds_left 2 body) left

  on_by : (n : ℕ) → TurnsBy m (0 ∷ []) (from (Some (rounds_left n body))) (goal 1) (from (Some (rounds_left n body)))
  on_by n = by m (0 ∷ []) (rounds_left 2 body) (Some (rounds_left n body)) (goal 1) (Some (rounds_left n body)) (wants_on n)

  then_by : (n : ℕ) → TurnsBy m (1 ∷ []) (from (Some (rounds_left n body))) (goal 0) (from (Some (rounds_left n half)))
  then_by n = by m (1 ∷ []) (rounds_left 2 body) (Some (rounds_left n body)) (goal 0) (Some (rounds_left n half)) (then_off n)

  off_by : (n : ℕ) → TurnsBy m (1 ∷ []) (from (Some (rounds_left n half))) (goal 0) (from (Some (rounds_left n half)))
  off_by n = by m (1 ∷ []) (rounds_left 2 body) (Some (rounds_left n half)) (goal 0) (Some (rounds_left n half)) (wants_off n)

  first_by : TurnsBy m (0 ∷ []) (from (Some (rounds_left 2 half))) [] (from (Some (rounds_left 1 body)))
  first_by = by m (0 ∷ []) (rounds_left 2 body) (Some (rounds_left 2 half)) [] (Some (rounds_left 1 body)) first_ends

  second_by : TurnsBy m (0 ∷ []) (from (Some (rounds_left 1 half))) [] (from None)
  second_by = by m (0 ∷ []) (rounds_left 2 body) (Some (rounds_left 1 half)) [] None second_ends

  abbrev left : ℕ → rest → Control
  left n x = from (Some (rounds_left n x))

pub rounds_take_turns : RoundsTakeTurns
rounds_take_turns m = goes_so m rounds (rounds_left 2 body) rounds_whole (turns_of_one (0 ∷ 0 ∷ 1 ∷ 1 ∷ 0 ∷ 0 ∷ 0 ∷ 1 ∷ 1 ∷ 0 ∷ []))
    (goal 1 ∷ goal 1 ∷ goal 0 ∷ goal 0 ∷ [] ∷ goal 1 ∷ goal 1 ∷ goal 0 ∷ goal 0 ∷ [] ∷ []) None (
      left m 2 body,
      on_by m 2,
      (
        left m 2 body,
        on_by m 2,
        (
          left m 2 half,
          then_by m 2,
          (
            left m 2 half,
            off_by m 2,
            (
              left m 1 body,
              first_by m,
              (left m 1 body, on_by m 1, (left m 1 body, on_by m 1, (left m 1 half, then_by m 1, (left m 1 half, off_by m 1, (from m None, second_by m, (refl, refl)))))),
            ),
          ),
        ),
      ),
    )

pub reset_begins_again : ResetBeginsAgain
reset_begins_again m = goes_so m rounds (rounds_left 2 body) rounds_whole (turns_of_one (0 ∷ 1 ∷ 0 ∷ 0 ∷ []) ++ Reset ∷ turns_of_one (0 ∷ 1 ∷ 0 ∷ 0 ∷ 1 ∷ 0 ∷ []))
    (goal 1 ∷ goal 0 ∷ [] ∷ goal 1 ∷ goal 1 ∷ goal 0 ∷ [] ∷ goal 1 ∷ goal 0 ∷ [] ∷ []) None (
      left m 2 body,
      on_by m 2,
      (
        left m 2 half,
        then_by m 2,
        (
          left m 1 body,
          first_by m,
          (
            left m 1 body,
            on_by m 1,
            (left m 2 body, on_by m 2, (left m 2 half, then_by m 2, (left m 1 body, first_by m, (left m 1 body, on_by m 1, (left m 1 half, then_by m 1, (from m None, second_by m, (refl, refl))))))),
          ),
        ),
      ),
    )

pub empty_ends_in_a_turn : EmptyEndsInATurn
empty_ends_in_a_turn m e =
    let empty : whole (seq []) ≡ rest.Seq rests.none = whole_seq [] rests.none refl in (
      goes_so m (seq []) (rest.Seq rests.none) empty [] [] (Some (rest.Seq rests.none)) (refl, refl),
      goes_so m (seq []) (rest.Seq rests.none) empty (TurnWith e ∷ []) ([] ∷ []) None
          (at (rest.Seq rests.none) None, by m e (rest.Seq rests.none) (Some (rest.Seq rests.none)) [] None (seq_ends m e), (refl, refl)),
    )
