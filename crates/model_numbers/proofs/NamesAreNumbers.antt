-- In a well-formed model a number has a name exactly where the name has that number.
use Rattle.std.proofs.Common.{◌≡◌, ◌≢◌, ◌↔◌, ℕ, List, map, slice_get, Option, Some, None, refl}
use Rattle.std.specs.Option.{option_and_then}
use Rattle.std.proofs.lemmas.List.Elements.{All-weaker}
use Rattle.list_laws.proofs.Pairwise.{AllPairs-right}
use Rattle.cca_base.specs.declared.model.Component.{Component}
use Rattle.cca_base.specs.declared.model.Variable.{Variable}
use Rattle.cca_base.specs.PlantModel.{PlantModel}
use Rattle.cca_base.specs.Names.{AreDifferent}
use Rattle.cca_base.specs.Model.{AreChoices, IsComponent, WellFormed}
use Rattle.formula_syntax.specs.Lookups.{place_of}
use Rattle.model_syntax.proofs.PrintedNames.{pairs_left, place_found}
use Rattle.model_numbers.specs.KindNames.{names_of_kind}
use Rattle.model_numbers.specs.NumberLaws.{NamesAreNumbers}
use Rattle.model_numbers.proofs.EachKind.{HoldsOfLists, each_kind}
use Rattle.model_numbers.proofs.FoundPlaces.{found_there}

module _ (m : PlantModel) (h : WellFormed m) where
  abbrev component_names : List (List ℕ)
  component_names = map (λ (c : Component). c.name) m.components

  abbrev variable_names : List (List ℕ)
  variable_names = map (λ (v : Variable). v.name) m.variables

  lists_are_different : HoldsOfLists AreDifferent m
  lists_are_different = record {
    components = pairs_left (λ a b. a ≢ b) component_names variable_names h.names.different;
    modes = All-weaker IsComponent (λ c. AreDifferent c.modes) (λ c is. is.modes.names.different) m.components h.components;
    variables = AllPairs-right (λ a b. a ≢ b) component_names variable_names h.names.different;
    values = All-weaker (λ (v : Variable). AreChoices v.values) (λ v. AreDifferent v.values) (λ v are. are.names.different) m.variables h.variables;
    commands = h.command_names.different;
  }

in_a_list : (o : Option (List (List ℕ))) (number : ℕ) (name : List ℕ) → ((names : List (List ℕ)) → o ≡ Some names → AreDifferent names)
    → (option_and_then (λ names. slice_get names number) o ≡ Some name) ↔ (option_and_then (λ names. place_of names name) o ≡ Some number)
in_a_list None number name differ = ((λ e. absurd cc), (λ e. absurd cc))
in_a_list (Some names) number name differ = ((λ e. place_found names number name (differ names refl) e), (λ e. found_there names number name e))

pub names_are_numbers : NamesAreNumbers
names_are_numbers m h kind of number name = in_a_list (names_of_kind m kind of) number name (each_kind AreDifferent m (lists_are_different m h) kind of)
