-- Calls are steps one after the other, and keep the program.
use Rattle.std.proofs.Common.{◌≡◌, ◌↔◌, ℕ, List, [], ◌∷◌, ◌++◌, Contains, refl, sym, ap, subst, ◌∙◌}
use Rattle.cca_base.specs.declared.cube.Pair.{Pair}
use Rattle.cca_base.specs.Cube.{IsCube, Lacks}
use Rattle.cca_base.specs.PlantModel.{PlantModel}
use Rattle.control_laws.specs.Laws.{OneCall, ControlsOn, ProgramStays, GoalOfTurn}
use Rattle.control_laws.specs.Turns.{Control, TurnWith, Reset, Controls, TurnsBy, firsts, fresh}
use Rattle.control_laws.proofs.Controlled.{one_turning}
use Rattle.control_laws.proofs.FirstPairs.{first_of_each, goals_are_cubes}

abbrev OneTurnOnly : PlantModel → Control → List ℕ → List (List Pair) → Control → Type 0
OneTurnOnly m x e goals y = (goal : List Pair) × (goals ≡ goal ∷ []) × TurnsBy m e x goal y

turn_only : (m : PlantModel) (x y : Control) (e : List ℕ) (goals : List (List Pair)) → Controls m x (TurnWith e ∷ []) goals y → OneTurnOnly m x e goals y
turn_only m x y e [] h = absurd h
turn_only m x y e (g ∷ gs) (z, t, last) = (g, ap (λ l. g ∷ l) last.0, subst (TurnsBy m e x g) (sym last.1) t)

only_turn : (m : PlantModel) (x y : Control) (e : List ℕ) (goals : List (List Pair)) → OneTurnOnly m x e goals y → Controls m x (TurnWith e ∷ []) goals y
only_turn m x y e goals (goal, is, t) = subst (λ l. Controls m x (TurnWith e ∷ []) l y) (sym is) (y, t, (refl, refl))

pub one_call : OneCall
one_call m x y e goals = ((turn_only m x y e goals, only_turn m x y e goals), (λ h. h, λ h. h))

pub controls_on : ControlsOn
controls_on m x y z [] more goals others h k =
    subst (λ l. Controls m x more (l ++ others) z) (sym h.0) (subst (λ w. Controls m w more others z) h.1 k)
controls_on m x y z (TurnWith e ∷ calls) more [] others h k = absurd h
controls_on m x y z (TurnWith e ∷ calls) more (g ∷ goals) others (w, t, on) k = (w, t, controls_on m w y z calls more goals others on k)
controls_on m x y z (Reset ∷ calls) more goals others h k = controls_on m (fresh x.program) y z calls more goals others h k

pub program_stays : ProgramStays
program_stays m x y [] goals h = ap (λ (c : Control). c.program) h.1
program_stays m x y (TurnWith e ∷ calls) [] h = absurd h
program_stays m x y (TurnWith e ∷ calls) (g ∷ goals) (z, t, on) = program_stays m z y calls goals on ∙ ap (λ (c : Control). c.program) t.after
program_stays m x y (Reset ∷ calls) goals h = program_stays m (fresh x.program) y calls goals h

abbrev IsFirst : List Pair → Pair → Type 0
IsFirst asked p = (before after : List Pair) × (asked ≡ before ++ p ∷ after) × Lacks p.item before

pub goal_of_turn : GoalOfTurn
goal_of_turn m e x y goal asked next h turn =
    let is : goal ≡ firsts asked = h.goals ∙ ap firsts (one_turning m e x.left h.asked asked h.next next h.turn turn).0 in (
      subst IsCube (sym is) (goals_are_cubes asked),
      λ p. subst (λ l. Contains l p ↔ IsFirst asked p) (sym is) (first_of_each asked p),
    )
