-- Names of a model's parts, as they are printed.
use Rattle.std.specs.Prelude.{ℕ, List, [], ◌∷◌, ◌++◌, map, slice_get, flat_map, All}
use Rattle.std.specs.Option.{option_map_or}
use Rattle.cca_base.specs.declared.cube.Pair.{Pair}
use Rattle.cca_base.specs.declared.model.Component.{Component}
use Rattle.cca_base.specs.declared.model.Move.{Move}
use Rattle.cca_base.specs.declared.model.Variable.{Variable}
use Rattle.cca_base.specs.PlantModel.{PlantModel}
use Rattle.cca_base.specs.Model.{AreChoices, IsComponent}
use Rattle.trace_text.specs.declared.read_parts.Rows.{Rows}
use Rattle.trace_text.specs.declared.read_parts.Rows.TheVariants.{Modes, Values}
pub use Rattle.model_syntax.specs.Printing.{name_at}

-- NAME=CHOICE, by a name and the names of its choices
abbrev pub choice_text : List ℕ → List (List ℕ) → ℕ → List ℕ
choice_text name choices k = name ++ 61 ∷ name_at choices k

-- a name with the names of its choices
pub record Row : Type 0 where
  pub name : List ℕ
  pub choices : List (List ℕ)

-- a component with its modes
abbrev pub mode_row : Component → Row
mode_row c = record { name = c.name; choices = c.modes }

-- a variable with its values
abbrev pub value_row : Variable → Row
value_row v = record { name = v.name; choices = v.values }

-- the rows of components or of variables
abbrev pub rows_of : Rows → List Row
rows_of (Modes components) = map mode_row components.now
rows_of (Values variables) = map value_row variables.now

-- each of them has choices, and not too many
abbrev pub HaveChoices : Rows → Type 0
HaveChoices (Modes components) = All IsComponent components.now
HaveChoices (Values variables) = All (λ v. AreChoices v.values) variables.now

-- a component with one of its modes, and a byte between them
abbrev pub mode_text : ℕ → Component → ℕ → List ℕ
mode_text between component mode = component.name ++ between ∷ name_at component.modes mode

-- the text of a mode of a component of the model
abbrev pub mode_text_at : ℕ → List Component → ℕ → ℕ → List ℕ
mode_text_at between components c mode = option_map_or (λ x. mode_text between x mode) (slice_get components c) []

-- NAME=MODE
abbrev pub pair_text : Component → ℕ → List ℕ
pair_text component mode = mode_text 61 component mode

-- the pair of a component of the model
abbrev pub pair_text_at : List Component → ℕ → ℕ → List ℕ
pair_text_at components c mode = mode_text_at 61 components c mode

-- some pairs, each behind a space
abbrev pub pairs_text : List Component → List Pair → List ℕ
pairs_text components pairs = flat_map (λ p. 32 ∷ pair_text_at components p.item p.value) pairs

-- the name of a component of the model
abbrev pub component_name : List Component → ℕ → List ℕ
component_name components c = option_map_or (λ x. x.name) (slice_get components c) []

-- the name of a mode of a component of the model
abbrev pub mode_name : List Component → ℕ → ℕ → List ℕ
mode_name components c mode = option_map_or (λ x. name_at x.modes mode) (slice_get components c) []

-- some components' names, each behind a space
abbrev pub components_text : List Component → List ℕ → List ℕ
components_text components list = flat_map (λ c. 32 ∷ component_name components c) list

-- COMPONENT SOURCE COMMAND
abbrev pub move_text : PlantModel → Move → List ℕ
move_text m move = mode_text_at 32 m.components move.component move.source ++ 32 ∷ name_at m.commands move.command

-- the move at a place of a list, behind a space
abbrev pub move_text_at : PlantModel → List Move → ℕ → List ℕ
move_text_at m moves k = option_map_or (λ move. 32 ∷ move_text m move) (slice_get moves k) []
