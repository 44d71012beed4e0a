-- What is made once of a model, for all questions of its worlds.
use Rattle.std.specs.Prelude.{None}
use Rattle.cca_base.specs.PlantModel.{PlantModel}
use Rattle.clause_form.specs.declared.clause.Clauses.{Clauses}
use Rattle.clause_form.specs.Formulas.{AreClausesOf}

-- the clauses are all true exactly where the model's rules are
abbrev pub AreWorldsOf : PlantModel → Clauses → Type 0
AreWorldsOf m worlds = AreClausesOf m None None worlds
