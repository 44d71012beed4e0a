-- A model of concurrent components, as its parts.
use Rattle.std.specs.Prelude.{ℕ, List}
use Rattle.cca_base.specs.declared.formula.Formula.{Formula}
use Rattle.cca_base.specs.declared.model.Component.{Component}
use Rattle.cca_base.specs.declared.model.Variable.{Variable}
use Rattle.cca_base.specs.declared.model.Move.{Move}
use Rattle.cca_base.specs.declared.model.Failure.{Failure}

-- components, variables and moves are numbered by their places in these lists; the version says which rules hold for repairs
pub record PlantModel : Type 0 where
  pub version : ℕ
  pub components : List Component
  pub variables : List Variable
  pub rules : List Formula
  pub commands : List (List ℕ)
  pub moves : List Move
  pub failures : List Failure

-- the model of these parts
abbrev pub plant_model : ℕ → List Component → List Variable → List Formula → List (List ℕ) → List Move → List Failure → PlantModel
plant_model version components variables rules commands moves failures = record {
  version = version;
  components = components;
  variables = variables;
  rules = rules;
  commands = commands;
  moves = moves;
  failures = failures;
}
