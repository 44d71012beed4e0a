-- The number of a component or a variable is that of the subject of its name.
use Rattle.std.proofs.Common.{◌≡◌, ◌≢◌, ℕ, List, [], map, slice_get, Option, Some, None, refl, ◌∙◌}
use Rattle.std.specs.Prelude.{position}
use Rattle.std.specs.Str.{bytes_eq}
use Rattle.std.specs.Option.{option_map, option_map_or, option_and_then}
use Rattle.list_laws.proofs.Places.{all_at}
use Rattle.cca_base.specs.declared.formula.Subject.TheVariants as subject
use Rattle.cca_base.specs.declared.model.Component.{Component}
use Rattle.cca_base.specs.declared.model.Variable.{Variable}
use Rattle.cca_base.specs.PlantModel.{PlantModel}
use Rattle.cca_base.specs.Model.{WellFormed}
use Rattle.formula_syntax.specs.Lookups.{place_of, or_else, as_component, as_variable, subject_of}
use Rattle.formula_syntax.proofs.FirstPlaces.{position_map}
use Rattle.model_syntax.proofs.PrintedNames.{pairs_across}
use Rattle.model_numbers.specs.NumberLaws.{NamesAreReadAlike}
use Rattle.model_numbers.proofs.FoundPlaces.{found_there}

abbrev component_place : PlantModel → List ℕ → Option ℕ
component_place m name = position (λ (c : Component). bytes_eq c.name name) m.components

abbrev variable_place : PlantModel → List ℕ → Option ℕ
variable_place m name = position (λ (v : Variable). bytes_eq v.name name) m.variables

component_first : (a b : Option ℕ) → a ≡ as_component (or_else (option_map subject.Component a) (option_map subject.Variable b))
component_first (Some c) b = refl
component_first None (Some v) = refl
component_first None None = refl

pub component_by_name : (m : PlantModel) (name : List ℕ) → place_of (map (λ c. c.name) m.components) name ≡ as_component (subject_of m name)
component_by_name m name =
    position_map (λ x. bytes_eq x name) (λ (c : Component). c.name) m.components ∙ component_first (component_place m name) (variable_place m name)

variable_alone : (a b : Option ℕ) → ((c v : ℕ) → a ≡ Some c → b ≡ Some v → ⊥) → b ≡ as_variable (or_else (option_map subject.Component a) (option_map subject.Variable b))
variable_alone (Some c) (Some v) apart = absurd (apart c v refl refl)
variable_alone (Some c) None apart = refl
variable_alone None (Some v) apart = refl
variable_alone None None apart = refl

-- a component and a variable have different names
apart : (m : PlantModel) (name : List ℕ) → WellFormed m → (c v : ℕ) → component_place m name ≡ Some c → variable_place m name ≡ Some v → ⊥
apart m name h c v one two =
    let components : List (List ℕ) = map (λ (x : Component). x.name) m.components in
    let variables : List (List ℕ) = map (λ (x : Variable). x.name) m.variables in
    let here = found_there components c name (position_map (λ x. bytes_eq x name) (λ (x : Component). x.name) m.components ∙ one) in
    let there = found_there variables v name (position_map (λ x. bytes_eq x name) (λ (x : Variable). x.name) m.variables ∙ two) in
    all_at (λ x. x ≢ name) components c name (pairs_across (λ a b. a ≢ b) components variables v name h.names.different there) here refl

pub variable_by_name : (m : PlantModel) (name : List ℕ) → WellFormed m → place_of (map (λ v. v.name) m.variables) name ≡ as_variable (subject_of m name)
variable_by_name m name h =
    position_map (λ x. bytes_eq x name) (λ (v : Variable). v.name) m.variables ∙ variable_alone (component_place m name) (variable_place m name) (apart m name h)

by_part : {X : Type 0} (names_in : X → List (List ℕ)) (name : List ℕ) (part : Option X)
    → option_and_then (λ names. place_of names name) (option_map names_in part) ≡ place_of (option_map_or names_in part []) name
by_part names_in name None = refl
by_part names_in name (Some x) = refl

pub names_are_read_alike : NamesAreReadAlike
names_are_read_alike m h name = record {
  component = component_by_name m name;
  mode = λ c. by_part (λ (x : Component). x.modes) name (slice_get m.components c);
  variable = variable_by_name m name h;
  value = λ v. by_part (λ (x : Variable). x.values) name (slice_get m.variables v);
}
