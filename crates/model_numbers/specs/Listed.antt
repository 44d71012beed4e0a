-- Names where they stand in a model, as one list.
use Rattle.std.specs.Prelude.{ℕ, List, map}
use Rattle.model_numbers.specs.declared.listed.Listed.{Listed}
use Rattle.model_numbers.specs.declared.listed.Listed.TheVariants.{Components, Variables, Names}

-- the names
abbrev pub listed : Listed → List (List ℕ)
listed (Components components) = map (λ c. c.name) components.now
listed (Variables variables) = map (λ v. v.name) variables.now
listed (Names names) = names.now
