-- Which states have a world, by clauses over the components.
use Rattle.std.specs.Prelude.{◌≡◌, ◌↔◌, ℕ, IsTrue, List}
use Rattle.cca_base.specs.PlantModel.{PlantModel}
use Rattle.cca_base.specs.Model.{mode_counts}
use Rattle.cca_base.specs.State.{IsState, HasWorld}
use Rattle.clause_form.specs.declared.clause.Clauses.{Clauses}
use Rattle.clause_form.specs.Clauses.{AreClauses, all_met}

-- clauses over the components, which are all true of a state exactly where it has a world
pub record AreStateClauses (m : PlantModel) (states : Clauses) : Type 0 where
  pub sizes : states.sizes ≡ mode_counts m
  pub proper : AreClauses states
  pub meaning : (s : List ℕ) → IsState m s → IsTrue (all_met s states.clauses) ↔ HasWorld m s
