-- What is printed of a compiled model, behind the model's own lines.
use Rattle.std.specs.Prelude.{ℕ, List, [], ◌∷◌, ◌++◌, length, codes, flat_map}
use Rattle.std.specs.Fmt.{decimal}
use Rattle.cca_base.specs.declared.cube.Pair.{Pair}
use Rattle.cca_base.specs.declared.model.Component.{Component}
use Rattle.cca_base.specs.declared.model.Move.{Move}
use Rattle.cca_base.specs.Accepted.{CompiledModel}
use Rattle.cca_base.specs.PlantModel.{PlantModel}
use Rattle.model_syntax.specs.Printing.{printed_model}
use Rattle.trace_text.specs.Names.{pairs_text, components_text, move_text}

-- the components in order
abbrev pub order_line : List Component → List ℕ → List ℕ
order_line components order = codes "order" ++ components_text components order ++ 10 ∷ []

-- a component with its bound
abbrev pub bound_line : Component → ℕ → List ℕ
bound_line component bound = codes "bound " ++ component.name ++ 32 ∷ decimal bound ++ 10 ∷ []

-- each component with its bound
abbrev pub bound_lines : List Component → List ℕ → List ℕ
bound_lines [] bounds = []
bound_lines (c ∷ cs) [] = []
bound_lines (c ∷ cs) (b ∷ bs) = bound_line c b ++ bound_lines cs bs

-- the pairs of a cube
abbrev pub cube_line : List Component → List Pair → List ℕ
cube_line components cube = codes "cube" ++ pairs_text components cube ++ 10 ∷ []

-- a move, the number of its prime implicants, and then each of them
unfoldable pub move_lines : PlantModel → Move → List (List Pair) → List ℕ
move_lines m move cubes = codes "ways " ++ move_text m move ++ 32 ∷ decimal (length cubes) ++ 10 ∷ flat_map (cube_line m.components) cubes

-- each move with its prime implicants
abbrev pub ways_lines : PlantModel → List Move → List (List (List Pair)) → List ℕ
ways_lines m [] ways = []
ways_lines m (x ∷ xs) [] = []
ways_lines m (x ∷ xs) (w ∷ ws) = move_lines m x w ++ ways_lines m xs ws

-- the order, the bounds and the prime implicants
abbrev pub compiled_lines : CompiledModel → List ℕ
compiled_lines b = order_line b.model.components b.order ++ bound_lines b.model.components b.bounds ++ ways_lines b.model b.model.moves b.ways

-- what is shown of a compiled model: its text, and what was computed from it
abbrev pub show_text : CompiledModel → List ℕ
show_text b = printed_model b.model ++ compiled_lines b
