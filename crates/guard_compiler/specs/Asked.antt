-- Clauses that speak of a move's guard.
use Rattle.std.specs.Prelude.{◌≡◌, ℕ, ◌↔◌, IsTrue, List, ◌++◌, None, Some}
use Rattle.cca_base.specs.PlantModel.{PlantModel}
use Rattle.cca_base.specs.Model.{mode_counts, value_counts}
use Rattle.cca_base.specs.declared.formula.Formula.{Formula}
use Rattle.clause_form.specs.declared.clause.Clauses.{Clauses}
use Rattle.clause_form.specs.Clauses.{AreClauses, AreValues, all_met}
use Rattle.clause_form.specs.Formulas.{is_asked}

-- some values of the variables make all clauses true exactly where some make every rule true and the guard false
pub record AreAskedOf (m : PlantModel) (guard : Formula) (c : Clauses) : Type 0 where
  pub sizes : c.sizes ≡ mode_counts m ++ value_counts m
  pub proper : AreClauses c
  pub meaning : (s : List ℕ) → AreValues (mode_counts m) s → ((w : List ℕ) × AreValues (value_counts m) w × IsTrue (all_met (s ++ w) c.clauses))
      ↔ ((w : List ℕ) × AreValues (value_counts m) w × IsTrue (is_asked m None (Some guard) s w))
