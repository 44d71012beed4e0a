-- The lightest modes, and the lightest states of cubes.
use Rattle.std.specs.Prelude.{◌≡◌, ◌⊎◌, ◌<◌, ℕ, true, List, [], length, slice_index, slice_index_or, All, Contains, Option, None, Some}
use Rattle.cca_base.specs.declared.cube.Pair.{Pair}
use Rattle.cca_base.specs.PlantModel.{PlantModel}
use Rattle.cca_base.specs.Model.{HasMode}
use Rattle.cca_base.specs.Sets.{has}
use Rattle.cca_base.specs.Estimates.{IsEarlier}
use Rattle.reach_laws.specs.Classes.{Test}
use Rattle.wish_laws.specs.Settled.{weight_of}
use Rattle.wish_laws.specs.Lightest.{MayStand, IsBarred, IsLighter, IsLighterMode, IsLightestOf}
use Rattle.goal_interpreter.specs.declared.candidate.Weighed.{Weighed}

-- none of the set's modes is below this, or it is the lightest of these
abbrev pub IsLightestBelow : List ℕ → ℕ → ℕ → Option ℕ → Type 0
IsLightestBelow row set bound None = (m : ℕ) → m < bound → has set m ≡ true → ⊥
IsLightestBelow row set bound (Some x) =
    (x < bound) × (has set x ≡ true) × ((m : ℕ) → m < bound → has set m ≡ true → IsLighterMode row x m)

-- the component may stand in the mode, and no mode in which it may is lighter
pub record IsFreeMode (m : PlantModel) (member : Test) (weights : List (List ℕ)) (s : List ℕ) (c mode : ℕ) : Type 0 where
  pub of_model : HasMode m c mode
  pub stands : MayStand member s c mode
  pub lightest : (other : ℕ) → MayStand member s c other → IsLighterMode (slice_index_or weights c []) mode other

-- the free modes of the first components
abbrev pub AreFreeModes : PlantModel → Test → List (List ℕ) → List ℕ → List ℕ → Type 0
AreFreeModes m member weights s modes = (c : ℕ) → c < length modes → IsFreeMode m member weights s c (slice_index modes c)

-- the lightest state of a cube and its weight; or None, where the cube is barred
abbrev pub IsLightest : PlantModel → Test → List (List ℕ) → List ℕ → List Pair → Option Weighed → Type 0
IsLightest m member weights s cube None = IsBarred member s cube
IsLightest m member weights s cube (Some x) =
    IsLightestOf m member weights s cube x.state.modes × (x.weight ≡ weight_of weights x.state.modes)

-- the cube is barred, or the state is lighter than the lightest of the cube
abbrev pub IsUpTo : PlantModel → Test → List (List ℕ) → List ℕ → List ℕ → List Pair → Type 0
IsUpTo m member weights s t cube =
    IsBarred member s cube ⊎ ((u : List ℕ) × IsLightestOf m member weights s cube u × IsLighter weights t u)

-- the lightest of the cubes' lightest states; or None, where all of them are barred
abbrev pub IsLightestAmong : PlantModel → Test → List (List ℕ) → List ℕ → List (List Pair) → Option Weighed → Type 0
IsLightestAmong m member weights s cubes None = All (IsBarred member s) cubes
IsLightestAmong m member weights s cubes (Some x) =
    ((cube : List Pair) × Contains cubes cube × IsLightest m member weights s cube (Some x))
    × All (IsUpTo m member weights s x.state.modes) cubes

-- the first weighs less, or as much while its state is the same or earlier
abbrev pub IsNoHeavier : Weighed → Weighed → Type 0
IsNoHeavier x y = (x.weight < y.weight)
    ⊎ ((x.weight ≡ y.weight) × ((x.state.modes ≡ y.state.modes) ⊎ IsEarlier x.state.modes y.state.modes))

-- the lighter of two, or the one that there is
abbrev pub IsLighterOne : Option Weighed → Option Weighed → Option Weighed → Type 0
IsLighterOne None next one = one ≡ next
IsLighterOne (Some x) None one = one ≡ Some x
IsLighterOne (Some x) (Some y) one = ((one ≡ Some x) × IsNoHeavier x y) ⊎ ((one ≡ Some y) × IsNoHeavier y x)
