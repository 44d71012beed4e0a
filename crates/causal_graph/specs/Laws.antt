-- What is answered about the rows of a model.
use Rattle.std.specs.Prelude.{◌≡◌, ◌<◌, ℕ, List, [], length, slice_index_or}
use Rattle.cca_base.specs.PlantModel.{PlantModel}
use Rattle.cca_base.specs.Bounds.{AreNeeds}
use Rattle.cca_base.specs.Implicants.{Ancestor, IsAcyclic}
use Rattle.cca_base.specs.Model.{WellFormed}
use Rattle.cca_base.specs.Orders.{IsEffectsFirst}
use Rattle.cca_base.specs.Relations.{AreExactly}
use Rattle.cca_base.specs.Shown.{IsShownCycle}
use Rattle.causal_graph.specs.declared.answer.Order.TheVariants.{Effects, Cycle}
use Rattle.causal_graph.specs.Needs.{AreRows, AreAncestors}
use Rattle.causal_graph.specs.Answers.{IsOrder}

-- each component has a row, which lists exactly what it needs
pub record AreNeedsOf (m : PlantModel) (rows : List (List ℕ)) : Type 0 where
  pub full : length rows ≡ length m.components
  pub each : (c : ℕ) → c < length rows → AreNeeds m c (slice_index_or rows c [])

-- the rows of a model may be asked about
abbrev pub ModelsHaveRows : Type 0
ModelsHaveRows = (m : PlantModel) (rows : List (List ℕ)) → AreNeedsOf m rows → AreRows rows

-- where an order is answered, the model has no cycle, and the order is its own
abbrev pub OrdersAreOfModels : Type 0
OrdersAreOfModels = (m : PlantModel) (rows : List (List ℕ)) (list : List ℕ) → WellFormed m → AreNeedsOf m rows → IsOrder rows (Effects list) → IsAcyclic m × IsEffectsFirst m list

-- where a cycle is answered, it is the model's shown cycle
abbrev pub CyclesAreOfModels : Type 0
CyclesAreOfModels = (m : PlantModel) (rows : List (List ℕ)) (list : List ℕ) → WellFormed m → AreNeedsOf m rows → IsOrder rows (Cycle list) → IsShownCycle m list

-- the ancestors that are answered are the model's
abbrev pub AncestorsAreOfModels : Type 0
AncestorsAreOfModels = (m : PlantModel) (rows : List (List ℕ)) (c : ℕ) (list : List ℕ) → WellFormed m → AreNeedsOf m rows → AreAncestors rows c list → AreExactly (Ancestor m c) list
