-- Which models are accepted, and what is compiled from them.
use Rattle.std.specs.Prelude.{◌≡◌, ℕ, ◌≤◌, ◌↔◌, List, length, sum, slice_get, Some, All, Contains}
use Rattle.cca_base.specs.declared.cube.Pair.{Pair}
use Rattle.cca_base.specs.declared.model.Move.{Move}
use Rattle.cca_base.specs.declared.limits.TheConstants.{MAX_WAYS, MAX_BOUND}
use Rattle.cca_base.specs.PlantModel.{PlantModel}
use Rattle.cca_base.specs.Model.{WellFormed, IsComplete}
use Rattle.cca_base.specs.State.{HasWorlds}
use Rattle.cca_base.specs.Cube.{AreInCubeOrder}
use Rattle.cca_base.specs.Implicants.{PrimeImplicant, IsAcyclic}
use Rattle.cca_base.specs.Orders.{IsEffectsFirst}
use Rattle.cca_base.specs.Bounds.{AreBounds}

-- exactly the prime implicants of the move, in cube order
pub record AreWays (m : PlantModel) (move : Move) (cubes : List (List Pair)) : Type 0 where
  pub in_order : AreInCubeOrder cubes
  pub each : (cube : List Pair) → Contains cubes cube ↔ PrimeImplicant m move cube

-- a list that is not too long has all prime implicants of the move
abbrev pub HasFewWays : PlantModel → Move → Type 0
HasFewWays m move = (cubes : List (List Pair)) × ((cube : List Pair) → PrimeImplicant m move cube → Contains cubes cube) × (length cubes ≤ MAX_WAYS)

-- all bounds together are not too large
abbrev pub SumFits : List ℕ → Type 0
SumFits bounds = sum bounds ≤ MAX_BOUND

-- well formed and complete, with a world for every state, few prime implicants, no cycle of needs, and bounds that are not too large
pub record Accepted (m : PlantModel) : Type 0 where
  pub well_formed : WellFormed m
  pub complete : IsComplete m
  pub worlds : HasWorlds m
  pub few_ways : All (HasFewWays m) m.moves
  pub acyclic : IsAcyclic m
  pub bounded : (bounds : List ℕ) × AreBounds m bounds × SumFits bounds

-- a model with its moves' prime implicants, its components in order, and their bounds
pub record CompiledModel : Type 0 where
  pub model : PlantModel
  pub ways : List (List (List Pair))
  pub order : List ℕ
  pub bounds : List ℕ

-- the model with these prime implicants, this order and these bounds
abbrev pub compiled_model : PlantModel → List (List (List Pair)) → List ℕ → List ℕ → CompiledModel
compiled_model model ways order bounds = record { model = model; ways = ways; order = order; bounds = bounds }

-- the model is accepted, and the other parts are what they are called
pub record IsCompiled (b : CompiledModel) : Type 0 where
  pub accepted : Accepted b.model
  pub ways_full : length b.ways ≡ length b.model.moves
  pub ways : (i : ℕ) (move : Move) (cubes : List (List Pair)) → slice_get b.model.moves i ≡ Some move → slice_get b.ways i ≡ Some cubes
      → AreWays b.model move cubes
  pub order : IsEffectsFirst b.model b.order
  pub bounds : AreBounds b.model b.bounds
  pub sum_fits : SumFits b.bounds
