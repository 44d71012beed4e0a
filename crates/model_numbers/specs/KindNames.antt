-- The names of a model by their kinds and numbers.
use Rattle.std.specs.Prelude.{ℕ, ◌==◌, if◌then◌else◌, List, Option, Some, None, length, map, slice_get}
use Rattle.std.specs.Option.{option_map, option_and_then}
use Rattle.cca_base.specs.PlantModel.{PlantModel}
use Rattle.formula_syntax.specs.Lookups.{place_of}
use Rattle.model_numbers.specs.declared.kind.Kind.{Kind}
use Rattle.model_numbers.specs.declared.kind.Kind.TheVariants.{Component, Mode, Variable, Value, Command}

-- names of the whole model: no part has names of this kind
abbrev pub of_whole : ℕ → List (List ℕ) → Option (List (List ℕ))
of_whole of names = if of == 0 then Some names else None

-- the names of a kind as they are numbered: modes are those of a component, values those of a variable
abbrev pub names_of_kind : PlantModel → Kind → ℕ → Option (List (List ℕ))
names_of_kind m Component of = of_whole of (map (λ c. c.name) m.components)
names_of_kind m Mode of = option_map (λ c. c.modes) (slice_get m.components of)
names_of_kind m Variable of = of_whole of (map (λ v. v.name) m.variables)
names_of_kind m Value of = option_map (λ v. v.values) (slice_get m.variables of)
names_of_kind m Command of = of_whole of m.commands

-- how many names of the kind there are
abbrev pub count_of : PlantModel → Kind → ℕ → Option ℕ
count_of m kind of = option_map length (names_of_kind m kind of)

-- the name that stands at the number
abbrev pub name_of_number : PlantModel → Kind → ℕ → ℕ → Option (List ℕ)
name_of_number m kind of number = option_and_then (λ names. slice_get names number) (names_of_kind m kind of)

-- the number at which the name stands
abbrev pub number_of_name : PlantModel → Kind → ℕ → List ℕ → Option ℕ
number_of_name m kind of name = option_and_then (λ names. place_of names name) (names_of_kind m kind of)
