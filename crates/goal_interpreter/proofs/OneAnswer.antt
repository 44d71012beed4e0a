-- A wish has one answer.
use Rattle.std.proofs.Common.{◌≡◌, ℕ, List, refl, sym, ap, subst, ◌∙◌}
use Rattle.cca_base.specs.declared.cube.Pair.{Pair}
use Rattle.cca_base.specs.declared.formula.Formula.{Formula}
use Rattle.cca_base.specs.PlantModel.{PlantModel}
use Rattle.cca_base.specs.Accepted.{CompiledModel, IsCompiled}
use Rattle.cca_laws.proofs.OneOrder.{ordered_same, compiled_none_twice}
use Rattle.guard_compiler.specs.Wishes.{HasFewImplicants, HasManyImplicants}
use Rattle.guard_compiler.proofs.WishMeaning.{not_many_implicants}
use Rattle.wish_laws.specs.Settled.{IsGoalOf, weight_of}
use Rattle.wish_laws.proofs.Weighing.{one_target}
use Rattle.goal_interpreter.specs.declared.target.Target.{Target}
use Rattle.goal_interpreter.specs.declared.target.Target.TheVariants.{Found, Nowhere, Many}
use Rattle.goal_interpreter.specs.declared.target.TheConstants.{MAX_IMPLICANTS}
use Rattle.goal_interpreter.specs.Targets.{IsTargetFor}

-- there are not both few implicants and many
pub few_or_many : (m : PlantModel) (f : Formula) (most : ℕ) → HasFewImplicants m f most → HasManyImplicants m f most → ⊥
few_or_many m f most (cubes, are, few) many = not_many_implicants m f most cubes are few many

-- a state has one goal
one_goal : (b : CompiledModel) (t : List ℕ) (x y : List Pair) → IsCompiled b → IsGoalOf b t x → IsGoalOf b t y → x ≡ y
one_goal b t x y compiled h k = ordered_same b.order x y (compiled_none_twice b compiled) h.in_order k.in_order (
  λ p among. (k.each p).1 ((h.each p).0 among),
  λ p among. (h.each p).1 ((k.each p).0 among),
)

module _ (b : CompiledModel) (weights : List (List ℕ)) (s : List ℕ) (f : Formula) (compiled : IsCompiled b) where
  pub one_answer : (x y : Target) → IsTargetFor b weights s f x → IsTargetFor b weights s f y → x ≡ y
  one_answer (Found state weight goal) (Found other weight2 goal2) h k =
      let same : state.modes ≡ other.modes = one_target b.model weights s f state.modes other.modes h.target k.target in
      let heavy : weight ≡ weight2 = h.weight ∙ ap (weight_of weights) same ∙ sym k.weight in
      let goals : goal.pairs ≡ goal2.pairs = one_goal b other.modes goal.pairs goal2.pairs compiled (subst (λ t. IsGoalOf b t goal.pairs) same h.goal) k.goal in
      λ i. Found (record { modes = same i }) (heavy i) (record { pairs = goals i })
  one_answer (Found state weight goal) Nowhere h k = absurd (k.1 state.modes h.target.settled h.target.holds)
  one_answer (Found state weight goal) Many h k = absurd (few_or_many b.model f MAX_IMPLICANTS h.few k)
  one_answer Nowhere (Found state weight goal) h k = absurd (h.1 state.modes k.target.settled k.target.holds)
  one_answer Nowhere Nowhere h k = refl
  one_answer Nowhere Many h k = absurd (few_or_many b.model f MAX_IMPLICANTS h.0 k)
  one_answer Many (Found state weight goal) h k = absurd (few_or_many b.model f MAX_IMPLICANTS k.few h)
  one_answer Many Nowhere h k = absurd (few_or_many b.model f MAX_IMPLICANTS k.0 h)
  one_answer Many Many h k = refl
