-- What lines keep of a model.
use Rattle.std.specs.Prelude.{ℕ, List}
use Rattle.cca_base.specs.PlantModel.{PlantModel}
use Rattle.cca_base.specs.Model.{WellFormed, IsComplete}
use Rattle.model_syntax.specs.Lines.{ModelSoFar, Reads, LineLeads}

-- well formed, and each command is used
pub record IsGood (m : PlantModel) : Type 0 where
  pub well_formed : WellFormed m
  pub complete : IsComplete m

-- what a line makes of a good model is good
abbrev pub LinesKeepModelsGood : Type 0
LinesKeepModelsGood = (s t : ModelSoFar) (line : List ℕ) → IsGood s.model → LineLeads s line (Reads t) → IsGood t.model
