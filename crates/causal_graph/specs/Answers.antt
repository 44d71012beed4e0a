-- What is answered about rows of needs.
use Rattle.std.specs.Prelude.{ℕ, ⊤, List, length}
use Rattle.cca_base.specs.Relations.{IsAcyclicBy, IsEffectsFirstBy, IsShownCycleBy}
use Rattle.causal_graph.specs.declared.answer.Order.{Order}
use Rattle.causal_graph.specs.declared.answer.Order.TheVariants.{Effects, Cycle}
use Rattle.causal_graph.specs.Needs.{RowNeeds}

-- the answer is an order
abbrev pub IsEffects : Order → Type 0
IsEffects (Effects list) = ⊤
IsEffects (Cycle list) = ⊥

-- all numbers with effects before their causes, where none is its own ancestor, or the shown cycle
abbrev pub IsOrder : List (List ℕ) → Order → Type 0
IsOrder rows (Effects list) = IsAcyclicBy (RowNeeds rows) × IsEffectsFirstBy (RowNeeds rows) (length rows) list
IsOrder rows (Cycle list) = IsShownCycleBy (RowNeeds rows) list
