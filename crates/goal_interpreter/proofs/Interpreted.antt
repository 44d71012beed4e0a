-- The chosen state is the target, and its goal can be planned for.
use Rattle.std.proofs.Common.{◌≡◌, ◌≤◌, ℕ, false, List, length, Option, None, Some, All, sym, ap, subst, ◌∙◌, arith}
use Rattle.std.proofs.lemmas.List.Elements.{All-contains}
use Rattle.std.proofs.lemmas.Option.{slice_get-get_or}
use Rattle.list_laws.proofs.Members.{all_from}
use Rattle.cca_base.specs.declared.cube.Pair.{Pair}
use Rattle.cca_base.specs.declared.formula.Formula.{Formula}
use Rattle.cca_base.specs.PlantModel.{PlantModel}
use Rattle.cca_base.specs.Accepted.{CompiledModel}
use Rattle.cca_base.specs.Model.{HasMode, is_broken}
use Rattle.cca_base.specs.State.{IsState}
use Rattle.cca_base.specs.Steps.{Reach, AreReached}
use Rattle.reach_laws.specs.Classes.{Test}
use Rattle.prime_implicants.specs.Primes.{IfEvery}
use Rattle.prime_implicants.specs.declared.answer.Primes.{Primes}
use Rattle.prime_implicants.specs.declared.answer.Primes.TheVariants.{Every}
use Rattle.reversibility.specs.ClassParts.{ClassParts, CoversState, in_row}
use Rattle.policy_tables.specs.Tables.{TableParts, IsTables}
use Rattle.planner_step.specs.Planning.{IsGoal, cells_of, member_of}
use Rattle.planner_step.proofs.Covered.{setting}
use Rattle.guard_compiler.specs.Wishes.{AreImplicants, HasFewImplicants}
use Rattle.wish_laws.specs.Settled.{IsGoalOf, IsTarget, NoneHolds, PlansEndIn, Settled}
use Rattle.wish_laws.specs.Lightest.{IsBarred}
use Rattle.wish_laws.proofs.Settling.{plans_end}
use Rattle.wish_laws.proofs.Weighing.{lightest_of_all, none_settled}
use Rattle.goal_interpreter.specs.declared.candidate.Weighed.{Weighed}
use Rattle.goal_interpreter.specs.Choosing.{IsLightestAmong, IsUpTo}
use Rattle.goal_interpreter.specs.Weights.{AreWeights}
use Rattle.goal_interpreter.proofs.WeightLaws.{rows_full}

-- the modes of all implicants are the model's
pub modes_in : (m : PlantModel) (f : Formula) (cubes : List (List Pair)) → AreImplicants m f cubes → All (All (λ p. HasMode m p.item p.value)) cubes
modes_in m f cubes are = all_from (All (λ p. HasMode m p.item p.value)) cubes (λ cube among. ((are.each cube).0 among).modes)

-- the implicants that are answered
pub implicants_from : (m n : PlantModel) (f : Formula) (r : Primes) (cubes : List (List Pair)) → n ≡ m → r ≡ Every cubes → IfEvery r (AreImplicants n f) → AreImplicants m f cubes
implicants_from m n f r cubes e is h = subst (λ z. AreImplicants z f cubes) e (subst (λ z. IfEvery z (AreImplicants n f)) is h)

pub few_from : (m : PlantModel) (f : Formula) (r : Primes) (cubes : List (List Pair)) (most : ℕ) → AreImplicants m f cubes → r ≡ Every cubes → IfEvery r (λ cubes. length cubes ≤ most)
    → HasFewImplicants m f most
few_from m f r cubes most are is h = (cubes, are, subst (λ z. IfEvery z (λ cubes. length cubes ≤ most)) is h)

-- what is the lightest by one value of the classes is so by the other
pub among_from : (p q : ClassParts) (weights : List (List ℕ)) (s : List ℕ) (cubes : List (List Pair)) (o x : Option Weighed) → q ≡ p → o ≡ x
    → IsLightestAmong q.compiled.model (in_row q.rows) weights s cubes o → IsLightestAmong p.compiled.model (in_row p.rows) weights s cubes x
among_from p q weights s cubes o x e f h =
    subst (λ z. IsLightestAmong z.compiled.model (in_row z.rows) weights s cubes x) e (subst (IsLightestAmong q.compiled.model (in_row q.rows) weights s cubes) f h)

module _ (t : TableParts) (is : IsTables t) (s : List ℕ) (cov : CoversState t.classes s) where
  abbrev b : CompiledModel
  b = t.classes.compiled

  abbrev member : Test
  member = member_of t

  -- ---- the target, by its implicants

  module _ (f : Formula) (cubes : List (List Pair)) (are : AreImplicants b.model f cubes) (weights : List (List ℕ)) where
    pub none_holds : IsLightestAmong b.model member weights s cubes None → NoneHolds b.model s f
    none_holds all =
        none_settled b t.classes.base member (cells_of t) is.classes.compiled is.cells.policy s (setting t is s cov) f
        (λ cube its. All-contains (IsBarred member s) cubes cube all ((are.each cube).1 its))

    pub target_is : AreWeights b.model weights → (x : Weighed) → IsLightestAmong b.model member weights s cubes (Some x) → IsTarget b.model weights s f x.state.modes
    target_is its x ((cube, among, lightest), upto) =
        lightest_of_all b t.classes.base member (cells_of t) is.classes.compiled is.cells.policy s (setting t is s cov) weights (rows_full b.model weights its) f x.state.modes
        (cube, (are.each cube).0 among, lightest.0)
        (λ other implicant. All-contains (IsUpTo b.model member weights s x.state.modes) cubes other upto ((are.each other).1 implicant))

  -- ---- what plans ask of its goal

  module _ (u : List ℕ) (settled : Settled b.model s u) (goal : List Pair) (its : IsGoalOf b u goal) where
    pub ends_in : PlansEndIn b s goal u
    ends_in = plans_end b t.classes.base member s (setting t is s cov) u settled goal its

    pub reached : IsState b.model u → AreReached b.model s goal
    reached state = all_from (λ p. Reach b.model s p.item p.value) goal (λ p among.
        let (within, value, sound) = (its.each p).0 among in
        let full = state.full in
        (settled.commands, u, settled.plan, slice_get-get_or u p.item 0 (omega (arith, within, full)) ∙ ap Some (sym value)))

    pub goal_for_plans : IsState b.model u → IsGoal b goal
    goal_for_plans state = record {
      in_order = its.in_order;
      modes = all_from (λ p. HasMode b.model p.item p.value) goal (λ p among.
          let (within, value, sound) = (its.each p).0 among in
          subst (HasMode b.model p.item) (sym value) (state.modes p.item within));
      sound = all_from (λ p. is_broken b.model.moves p.item p.value ≡ false) goal (λ p among. ((its.each p).0 among).2);
    }
