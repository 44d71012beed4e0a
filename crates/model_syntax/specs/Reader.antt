-- What a reader of a model keeps.
use Rattle.std.specs.Prelude.{◌≡◌, ℕ, ◌≤◌, true, List, length, nat_eq}
use Rattle.std.specs.Cmp.Lexicographic.{pointwise}
use Rattle.indexmap.specs.IndexMap.{IndexMap, get}
use Rattle.std.specs.declared.hash.FoldHasher.{FoldHasher}
use Rattle.std.specs.declared.hash.BuildHasherDefault.{BuildHasherDefault}
use Rattle.cca_base.specs.declared.formula.Subject.{Subject}
use Rattle.cca_base.specs.PlantModel.{PlantModel}
use Rattle.cca_base.specs.declared.model.Move.{Move}
use Rattle.cca_base.specs.Model.{IsComplete, IsFormula, HasMode}
use Rattle.formula_syntax.specs.Lookups.{place_of, NamesFit}
use Rattle.model_syntax.specs.Codes.{command_number}
use Rattle.model_syntax.specs.Lines.{is_bare_name}

-- the map has each command's number
abbrev pub NumbersFit : IndexMap (List ℕ) ℕ (BuildHasherDefault FoldHasher) → List (List ℕ) → Type 0
NumbersFit numbers commands = (name : List ℕ) → get (pointwise nat_eq) numbers name ≡ place_of commands name

-- the maps have the model's names and commands, and each command is used
pub record IsIndexed (m : PlantModel) (names : IndexMap (List ℕ) Subject (BuildHasherDefault FoldHasher)) (numbers : IndexMap (List ℕ) ℕ (BuildHasherDefault FoldHasher)) : Type 0 where
  pub named : NamesFit names m
  pub numbered : NumbersFit numbers m.commands
  pub complete : IsComplete m
  pub few : length m.commands ≤ length m.moves

-- a move between the model's modes, with a guard of the model and the number of its command, whose name is a word that is not reserved
pub record IsDeclared (m : PlantModel) (x : Move) (command : List ℕ) : Type 0 where
  pub guard : IsFormula m x.guard
  pub source : HasMode m x.component x.source
  pub target : HasMode m x.component x.target
  pub number : x.command ≡ command_number m command
  pub bare : is_bare_name command ≡ true
