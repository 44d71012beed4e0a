-- What the names of an event line stand for.
use Rattle.std.specs.Prelude.{ℕ, List, [], ◌∷◌, Option, Some}
use Rattle.text_base.specs.Chain.{◌>>=◌}
use Rattle.text_base.specs.Pairs.{NamedPair}
use Rattle.cca_base.specs.declared.cube.Pair.{Pair}
use Rattle.cca_base.specs.declared.formula.Subject.TheVariants.{Component, Variable}
use Rattle.cca_base.specs.PlantModel.{PlantModel}
use Rattle.script_reader.specs.declared.named.Naming.{Naming}
use Rattle.script_reader.specs.declared.named.Naming.TheVariants.{Modes, Values}
use Rattle.formula_syntax.specs.Lookups.{subject_of, value_of, as_component, as_variable}

-- the component of this name
abbrev pub component_of : PlantModel → List ℕ → Option ℕ
component_of m name = as_component (subject_of m name)

-- the variable of this name
abbrev pub variable_of : PlantModel → List ℕ → Option ℕ
variable_of m name = as_variable (subject_of m name)

-- the component of the first name with its mode of the second
abbrev pub mode_pair : PlantModel → NamedPair → Option Pair
mode_pair m p = component_of m p.name >>= λ c. value_of m (Component c) p.value >>= λ mode. Some (record { item = c; value = mode })

-- the variable of the first name with its value of the second
abbrev pub value_pair : PlantModel → NamedPair → Option Pair
value_pair m p = variable_of m p.name >>= λ v. value_of m (Variable v) p.value >>= λ value. Some (record { item = v; value = value })

-- what a pair stands for
abbrev pub stands_for : Naming → PlantModel → NamedPair → Option Pair
stands_for Modes m p = mode_pair m p
stands_for Values m p = value_pair m p

-- what each of the pairs stands for, if each stands for something
abbrev pub each_pair : (NamedPair → Option Pair) → List NamedPair → Option (List Pair)
each_pair stands_for [] = Some []
each_pair stands_for (p ∷ ps) = stands_for p >>= λ q. each_pair stands_for ps >>= λ qs. Some (q ∷ qs)
