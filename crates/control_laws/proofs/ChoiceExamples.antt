-- Programs that choose go as the examples say.
use Rattle.std.proofs.Common.{◌≡◌, ◌==◌, Bool, false, ℕ, List, [], ◌∷◌, Some, None, slice_get, refl}
use Rattle.std.proofs.lemmas.Bool.{both_ways}
use Rattle.cca_base.specs.declared.cube.Pair.{Pair}
use Rattle.cca_base.specs.declared.formula.Formula.{Formula, roll-Formula}
use Rattle.cca_base.specs.declared.formula.Formula.TheOpen.{Formula-F}
use Rattle.cca_base.specs.declared.formula.Formula.TheFolds.{fold-roll-Formula}
use Rattle.cca_base.specs.declared.formula.Subject.TheVariants.{Component}
use Rattle.cca_base.specs.Formula.{truth_step}
use Rattle.cca_base.specs.PlantModel.{PlantModel}
use Rattle.cca_base.specs.State.{Holds, HasWorld}
use Rattle.control_laws.specs.Examples.{pair, reach, chosen, twice, choices, follows_first, goal, turns_of_one, turn_of_two, TrueTakesFirst, FalseTakesSecond, ChoosesOnceInARound}
use Rattle.control_laws.specs.Rest.{Rest as rest, whole, Turn}
use Rattle.control_laws.specs.Turns.{Control, TurnsBy}
use Rattle.control_laws.proofs.SmallTurns.{asks, at, by, goes_so, not_there, reached, rounds_on, takes_first, takes_second, there, whole_chosen, whole_reach, whole_twice}

-- a choice between two lines, and two rounds of it
abbrev choice : Formula → Pair → Pair → rest
choice f p q = rest.Choose f (rest.Reach (p ∷ [])) (rest.Reach (q ∷ []))

abbrev rounds_of : rest → rest
rounds_of x = rest.Repeat 2 x x

choice_whole : (f : Formula) (p q : Pair) → whole (twice (chosen f (reach (p ∷ [])) (reach (q ∷ [])))) ≡ rounds_of (choice f p q)
choice_whole f p q = whole_twice (chosen f (reach (p ∷ [])) (reach (q ∷ []))) (choice f p q)
    (whole_chosen f (reach (p ∷ [])) (reach (q ∷ [])) (rest.Reach (p ∷ [])) (rest.Reach (q ∷ [])) (whole_reach (p ∷ [])) (whole_reach (q ∷ [])))

module _ (m : PlantModel) (f : Formula) (p q : Pair) where
  abbrev body : rest
  body = choice f p q

  -- what is left where a round has begun, and where none has
  abbrev begun : ℕ → Pair → Control
  begun n r = at (rounds_of body) (Some (rest.Repeat n body (rest.Reach (r ∷ []))))

  abbrev waits : ℕ → Control
  waits n = at (rounds_of body) (Some (rest.Repeat n body body))

  asks_pair : (s : List ℕ) (r : Pair) (has : ℕ) → slice_get s r.item ≡ Some has → (has == r.value) ≡ false → Turn m s (rest.Reach (r ∷ [])) (r ∷ []) (Some (rest.Reach (r ∷ [])))
  asks_pair s r has at_r differ = asks m s (r ∷ []) (not_there s r [] has at_r differ)

  first_by : (n : ℕ) (s : List ℕ) (has : ℕ) → Holds m s f → slice_get s p.item ≡ Some has → (has == p.value) ≡ false → TurnsBy m s (waits n) (p ∷ []) (begun n p)
  first_by n s has h at_p differ = by m s (rounds_of body) (Some (rest.Repeat n body body)) (p ∷ []) (Some (rest.Repeat n body (rest.Reach (p ∷ []))))
      (rounds_on m s n body body (p ∷ []) (Some (rest.Reach (p ∷ [])))
      (takes_first m s f (rest.Reach (p ∷ [])) (rest.Reach (q ∷ [])) (p ∷ []) (Some (rest.Reach (p ∷ []))) h (asks_pair s p has at_p differ)))

  second_by : (n : ℕ) (s : List ℕ) (has : ℕ) → (Holds m s f → ⊥) → slice_get s q.item ≡ Some has → (has == q.value) ≡ false → TurnsBy m s (waits n) (q ∷ []) (begun n q)
  second_by n s has h at_q differ = by m s (rounds_of body) (Some (rest.Repeat n body body)) (q ∷ []) (Some (rest.Repeat n body (rest.Reach (q ∷ []))))
      (rounds_on m s n body body (q ∷ []) (Some (rest.Reach (q ∷ [])))
      (takes_second m s f (rest.Reach (p ∷ [])) (rest.Reach (q ∷ [])) (q ∷ []) (Some (rest.Reach (q ∷ []))) h (asks_pair s q has at_q differ)))

  on_by : (n : ℕ) (s : List ℕ) (r : Pair) (has : ℕ) → slice_get s r.item ≡ Some has → (has == r.value) ≡ false → TurnsBy m s (begun n r) (r ∷ []) (begun n r)
  on_by n s r has at_r differ =
      by m s (rounds_of body) (Some (rest.Repeat n body (rest.Reach (r ∷ [])))) (r ∷ []) (Some (rest.Repeat n body (rest.Reach (r ∷ []))))
      (rounds_on m s n body (rest.Reach (r ∷ [])) (r ∷ []) (Some (rest.Reach (r ∷ []))) (asks_pair s r has at_r differ))

  next_by : (s : List ℕ) (r : Pair) → slice_get s r.item ≡ Some r.value → TurnsBy m s (begun 2 r) [] (waits 1)
  next_by s r at_r = by m s (rounds_of body) (Some (rest.Repeat 2 body (rest.Reach (r ∷ [])))) [] (Some (rest.Repeat 1 body body))
      (rounds_on m s 2 body (rest.Reach (r ∷ [])) [] None (reached m s (r ∷ []) (there s r at_r)))

  last_by : (s : List ℕ) (r : Pair) → slice_get s r.item ≡ Some r.value → TurnsBy m s (begun 1 r) [] (at (rounds_of body) None)
  last_by s r at_r = by m s (rounds_of body) (Some (rest.Repeat 1 body (rest.Reach (r ∷ [])))) [] None
      (rounds_on m s 1 body (rest.Reach (r ∷ [])) [] None (reached m s (r ∷ []) (there s r at_r)))

abbrev yes_formula : Formula
yes_formula = roll-Formula Formula-F.True

abbrev no_formula : Formula
no_formula = roll-Formula Formula-F.False

abbrev first_off : Formula
first_off = roll-Formula (Formula-F.Among (Component 0) 1)

true_holds : (m : PlantModel) (s : List ℕ) → Holds m s yes_formula
true_holds m s w is = fold-roll-Formula Bool (truth_step s w) Formula-F.True

false_fails : (m : PlantModel) (s : List ℕ) → HasWorld m s → Holds m s no_formula → ⊥
false_fails m s world h = both_ways _ (fold-roll-Formula Bool (truth_step s world.0) Formula-F.False) (h world.0 world.1)

off_holds : (m : PlantModel) (b : ℕ) → Holds m (0 ∷ b ∷ []) first_off
off_holds m b w is = fold-roll-Formula Bool (truth_step (0 ∷ b ∷ []) w) (Formula-F.Among (Component 0) 1)

off_fails : (m : PlantModel) (b : ℕ) → HasWorld m (1 ∷ b ∷ []) → Holds m (1 ∷ b ∷ []) first_off → ⊥
off_fails m b world h = both_ways _ (fold-roll-Formula Bool (truth_step (1 ∷ b ∷ []) world.0) (Formula-F.Among (Component 0) 1)) (h world.0 world.1)

pub true_takes_first : TrueTakesFirst
true_takes_first m = goes_so m (choices yes_formula) (rounds_of (choice yes_formula (pair 0 1) (pair 0 0))) (choice_whole yes_formula (pair 0 1) (pair 0 0))
    (turns_of_one (0 ∷ 1 ∷ 0 ∷ 1 ∷ [])) (goal 1 ∷ [] ∷ goal 1 ∷ [] ∷ []) None (
      _,
      first_by m yes_formula (pair 0 1) (pair 0 0) 2 (0 ∷ []) 0 (true_holds m (0 ∷ [])) refl refl,
      (
        _,
        next_by m yes_formula (pair 0 1) (pair 0 0) (1 ∷ []) (pair 0 1) refl,
        (
          _,
          first_by m yes_formula (pair 0 1) (pair 0 0) 1 (0 ∷ []) 0 (true_holds m (0 ∷ [])) refl refl,
          (_, last_by m yes_formula (pair 0 1) (pair 0 0) (1 ∷ []) (pair 0 1) refl, (refl, refl)),
        ),
      ),
    )

pub false_takes_second : FalseTakesSecond
false_takes_second m world = goes_so m (choices no_formula) (rounds_of (choice no_formula (pair 0 1) (pair 0 0))) (choice_whole no_formula (pair 0 1) (pair 0 0))
    (turns_of_one (1 ∷ 0 ∷ 1 ∷ 0 ∷ [])) (goal 0 ∷ [] ∷ goal 0 ∷ [] ∷ []) None (
      _,
      second_by m no_formula (pair 0 1) (pair 0 0) 2 (1 ∷ []) 1 (false_fails m (1 ∷ []) world) refl refl,
      (
        _,
        next_by m no_formula (pair 0 1) (pair 0 0) (0 ∷ []) (pair 0 0) refl,
        (
          _,
          second_by m no_formula (pair 0 1) (pair 0 0) 1 (1 ∷ []) 1 (false_fails m (1 ∷ []) world) refl refl,
          (_, last_by m no_formula (pair 0 1) (pair 0 0) (0 ∷ []) (pair 0 0) refl, (refl, refl)),
        ),
      ),
    )

pub chooses_once_in_a_round : ChoosesOnceInARound
chooses_once_in_a_round m world =
    goes_so m follows_first (rounds_of (choice first_off (pair 1 1) (pair 1 0))) (choice_whole first_off (pair 1 1) (pair 1 0))
    (turn_of_two 0 0 ∷ turn_of_two 1 0 ∷ turn_of_two 1 1 ∷ turn_of_two 1 1 ∷ turn_of_two 0 1 ∷ turn_of_two 0 0 ∷ [])
    ((pair 1 1 ∷ []) ∷ (pair 1 1 ∷ []) ∷ [] ∷ (pair 1 0 ∷ []) ∷ (pair 1 0 ∷ []) ∷ [] ∷ []) None (
      _,
      first_by m first_off (pair 1 1) (pair 1 0) 2 (0 ∷ 0 ∷ []) 0 (off_holds m 0) refl refl,
      (
        _,
        on_by m first_off (pair 1 1) (pair 1 0) 2 (1 ∷ 0 ∷ []) (pair 1 1) 0 refl refl,
        (
          _,
          next_by m first_off (pair 1 1) (pair 1 0) (1 ∷ 1 ∷ []) (pair 1 1) refl,
          (
            _,
            second_by m first_off (pair 1 1) (pair 1 0) 1 (1 ∷ 1 ∷ []) 1 (off_fails m 1 world) refl refl,
            (
              _,
              on_by m first_off (pair 1 1) (pair 1 0) 1 (0 ∷ 1 ∷ []) (pair 1 0) 1 refl refl,
              (_, last_by m first_off (pair 1 1) (pair 1 0) (0 ∷ 0 ∷ []) (pair 1 0) refl, (refl, refl)),
            ),
          ),
        ),
      ),
    )
