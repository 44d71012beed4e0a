-- Laws of settled states and of targets.
use Rattle.std.specs.Prelude.{◌≡◌, ◌⊎◌, ◌↔◌, ℕ, List, [], ◌∷◌, length}
use Rattle.cca_base.specs.declared.cube.Pair.{Pair}
use Rattle.cca_base.specs.declared.formula.Formula.{Formula}
use Rattle.cca_base.specs.PlantModel.{PlantModel}
use Rattle.cca_base.specs.Accepted.{CompiledModel, IsCompiled}
use Rattle.cca_base.specs.State.{IsState, Extends, Holds}
use Rattle.guard_compiler.specs.Wishes.{IsImplicant}
use Rattle.reach_laws.specs.Classes.{Test}
use Rattle.reach_laws.specs.Laws.{Setting}
use Rattle.reach_laws.specs.Cells.{Cells, IsPolicy}
use Rattle.wish_laws.specs.Settled.{Settled, IsTarget, IsGoalOf, NoneHolds, PlansEndIn, weight_of}
use Rattle.wish_laws.specs.Lightest.{StandsWhereItMay, IsBarred, IsLighter, IsLightestOf}

-- a state is settled exactly where each component stands where it may
abbrev pub SettledByClasses : Type 0
SettledByClasses = (b : CompiledModel) (base : List ℕ) (member : Test) (cells : Cells) → IsCompiled b → IsPolicy b base member cells
    → (s : List ℕ) → Setting b.model b.order base member s → (t : List ℕ) → Settled b.model s t ↔ StandsWhereItMay b.model member s t

-- each whole plan for the goal of a settled state ends in exactly this state
abbrev pub PlansEndThere : Type 0
PlansEndThere = (b : CompiledModel) (base : List ℕ) (member : Test) (s : List ℕ) → Setting b.model b.order base member s
    → (t : List ℕ) → Settled b.model s t → (goal : List Pair) → IsGoalOf b t goal → PlansEndIn b s goal t

-- a state holds a wish exactly where one of the wish's implicants stands in it
abbrev pub HoldsByImplicant : Type 0
HoldsByImplicant = (m : PlantModel) (f : Formula) (t : List ℕ) → IsState m t
    → Holds m t f ↔ ((cube : List Pair) × IsImplicant m f cube × Extends t cube)

-- the lightest state of a cube is lighter than each that stands where it may and extends the cube
abbrev pub LightestOfCube : Type 0
LightestOfCube = (m : PlantModel) (member : Test) (weights : List (List ℕ)) (s : List ℕ) (cube : List Pair) (t : List ℕ)
    → length weights ≡ length m.components → IsLightestOf m member weights s cube t
    → (u : List ℕ) → StandsWhereItMay m member s u → Extends u cube → IsLighter weights t u

-- the lightest state of one implicant is the target, if it is lighter than the lightest of each implicant that is not barred
abbrev pub LightestOfAll : Type 0
LightestOfAll = (b : CompiledModel) (base : List ℕ) (member : Test) (cells : Cells) → IsCompiled b → IsPolicy b base member cells
    → (s : List ℕ) → Setting b.model b.order base member s
    → (weights : List (List ℕ)) → length weights ≡ length b.model.components → (f : Formula) (t : List ℕ)
    → ((cube : List Pair) × IsImplicant b.model f cube × IsLightestOf b.model member weights s cube t)
    → ((cube : List Pair) → IsImplicant b.model f cube
    → IsBarred member s cube ⊎ ((u : List ℕ) × IsLightestOf b.model member weights s cube u × IsLighter weights t u))
    → IsTarget b.model weights s f t

-- where each implicant is barred, no settled state holds the wish
abbrev pub NoneIsSettled : Type 0
NoneIsSettled = (b : CompiledModel) (base : List ℕ) (member : Test) (cells : Cells) → IsCompiled b → IsPolicy b base member cells
    → (s : List ℕ) → Setting b.model b.order base member s → (f : Formula)
    → ((cube : List Pair) → IsImplicant b.model f cube → IsBarred member s cube) → NoneHolds b.model s f

-- there is one target at most
abbrev pub OneTarget : Type 0
OneTarget = (m : PlantModel) (weights : List (List ℕ)) (s : List ℕ) (f : Formula) (t u : List ℕ)
    → IsTarget m weights s f t → IsTarget m weights s f u → t ≡ u

-- of two components the first stands in its second mode, of weight 5, and the second in its first mode, of weight 2
abbrev pub WeightsAddUp : Type 0
WeightsAddUp = weight_of ((1 ∷ 5 ∷ []) ∷ (2 ∷ 7 ∷ []) ∷ []) (1 ∷ 0 ∷ []) ≡ 7
