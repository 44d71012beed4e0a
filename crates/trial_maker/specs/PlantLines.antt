-- The lines of components, variables and rules, which draw nothing.
use Rattle.std.specs.Prelude.{ℕ, List, ◌∷◌, ◌++◌, map, codes}
use Rattle.trial_maker.specs.declared.chains.Link.{Link}
use Rattle.trial_maker.specs.declared.plant.Declared.{Declared}
use Rattle.trial_maker.specs.declared.plant.Declared.TheVariants.{Component, Variable, Rule}
use Rattle.trial_maker.specs.Chains.{component_name, variable_name}

-- the line of a component
unfoldable pub component_line : Link → List ℕ
component_line link = codes "component " ++ component_name link ++ codes "=a,b,c,x start a"

-- the line of its variable
unfoldable pub variable_line : Link → List ℕ
variable_line link = codes "var " ++ variable_name link ++ codes "=ok,off sensed"

-- the variable shows whether the component is broken
unfoldable pub rule_line : Link → List ℕ
rule_line link = codes "rule " ++ variable_name link ++ codes "=off iff " ++ component_name link ++ codes "=x"

-- the line that declares this of a component
abbrev pub line_of : Declared → Link → List ℕ
line_of Component link = component_line link
line_of Variable link = variable_line link
line_of Rule link = rule_line link

-- the first line, and then all components, all variables and all rules
unfoldable pub plant_lines : List Link → List (List ℕ)
plant_lines links = codes "titan 1" ∷ map component_line links ++ map variable_line links ++ map rule_line links
