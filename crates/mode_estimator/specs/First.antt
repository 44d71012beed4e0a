-- The first of the states that may be chosen and that agree with what is seen.
use Rattle.std.specs.Prelude.{ℕ, List, Option, None, Some}
use Rattle.cca_base.specs.declared.cube.Pair.{Pair}
use Rattle.cca_base.specs.PlantModel.{PlantModel}
use Rattle.cca_base.specs.Shown.{CanShow}
use Rattle.cca_base.specs.declared.choice.Choice.{Choice}
use Rattle.cca_base.specs.declared.state.State.{State}
use Rattle.cost_search.specs.Search.{IsPicked, IsUpTo}
use Rattle.mode_estimator.specs.declared.answer.Estimate.{Estimate}
use Rattle.mode_estimator.specs.declared.answer.Estimate.TheVariants.{Found, Unexplained}

-- a state of this cost that may be chosen, with a world that agrees with what is seen
pub record Shows (m : PlantModel) (rows : List (List Choice)) (seen : List Pair) (s : List ℕ) (cost : ℕ) : Type 0 where
  pub chosen : IsPicked rows s cost
  pub shows : CanShow m s seen

-- the first such state by cost and then in mode order, or there is none
abbrev pub IsFirstShown : PlantModel → List (List Choice) → List Pair → Estimate → Type 0
IsFirstShown m rows seen (Found state cost) =
    Shows m rows seen state.modes cost × ((t : List ℕ) (more : ℕ) → Shows m rows seen t more → IsUpTo cost state.modes more t)
IsFirstShown m rows seen Unexplained = (s : List ℕ) (cost : ℕ) → Shows m rows seen s cost → ⊥

-- a found state with what it costs, or that none was found
abbrev pub found_in : Option ℕ → State → Estimate
found_in None found = Unexplained
found_in (Some cost) found = Found found cost
