-- What the names of a model stand for.
use Rattle.std.specs.Prelude.{◌≡◌, ℕ, List, [], Option, Some, None, position, nat_eq, slice_get}
use Rattle.std.specs.Option.{option_map, option_map_or}
use Rattle.std.specs.Str.{bytes_eq}
use Rattle.std.specs.Cmp.Lexicographic.{pointwise}
use Rattle.indexmap.specs.IndexMap.{IndexMap, get}
use Rattle.std.specs.declared.hash.FoldHasher.{FoldHasher}
use Rattle.std.specs.declared.hash.BuildHasherDefault.{BuildHasherDefault}
use Rattle.cca_base.specs.declared.formula.Subject.{Subject}
use Rattle.cca_base.specs.declared.formula.Subject.TheVariants.{Component, Variable}
use Rattle.cca_base.specs.PlantModel.{PlantModel}

-- the place of a name in a list
abbrev pub place_of : List (List ℕ) → List ℕ → Option ℕ
place_of names text = position (λ name. bytes_eq name text) names

-- the first, or else the second
abbrev pub or_else : {A : Type 0} → Option A → Option A → Option A
or_else None o = o
or_else (Some x) o = Some x

-- the component or the variable of this name
abbrev pub subject_of : PlantModel → List ℕ → Option Subject
subject_of m name =
    or_else (option_map Component (position (λ c. bytes_eq c.name name) m.components)) (option_map Variable (position (λ v. bytes_eq v.name name) m.variables))

-- the number of a component
abbrev pub as_component : Option Subject → Option ℕ
as_component None = None
as_component (Some (Component c)) = Some c
as_component (Some (Variable v)) = None

-- the number of a variable
abbrev pub as_variable : Option Subject → Option ℕ
as_variable None = None
as_variable (Some (Variable v)) = Some v
as_variable (Some (Component c)) = None

-- the names of the subject's modes or values
abbrev pub choices_of : PlantModel → Subject → List (List ℕ)
choices_of m (Component c) = option_map_or (λ x. x.modes) (slice_get m.components c) []
choices_of m (Variable v) = option_map_or (λ x. x.values) (slice_get m.variables v) []

-- the number of the subject's mode or value of this name
abbrev pub value_of : PlantModel → Subject → List ℕ → Option ℕ
value_of m subject text = place_of (choices_of m subject) text

-- the map has each name's subject
abbrev pub NamesFit : IndexMap (List ℕ) Subject (BuildHasherDefault FoldHasher) → PlantModel → Type 0
NamesFit names m = (name : List ℕ) → get (pointwise nat_eq) names name ≡ subject_of m name
