-- Chains of components, and their names.
use Rattle.std.specs.Prelude.{ℕ, ◌/◌, ◌%◌, List, [], ◌∷◌, ◌++◌, map, flat_map, codes, slice_get, unwrap_or}
use Rattle.std.specs.Fmt.{decimal}
use Rattle.std.specs.List.{range_with_len}
use Rattle.trial_maker.specs.declared.chains.Link.{Link}
use Rattle.trial_maker.specs.Sizes.{chain_count, chain_length}

-- a component of a chain, by the chain's number and its place there
abbrev pub link : ℕ → ℕ → Link
link chain place = record { chain = chain; place = place }

-- the component of a number, counted chain by chain
abbrev pub link_at : ℕ → Link
link_at number = link (number / chain_length) (number % chain_length)

-- all components, chain by chain
unfoldable pub links : List Link
links = flat_map (λ chain. map (link chain) (range_with_len 0 chain_length)) (range_with_len 0 chain_count)

-- the two digits that stand in the names of a component
unfoldable pub digits_text : Link → List ℕ
digits_text link = decimal link.chain ++ codes "_" ++ decimal link.place

-- the name of a component
abbrev pub component_name : Link → List ℕ
component_name link = codes "c" ++ digits_text link

-- the name of its variable
abbrev pub variable_name : Link → List ℕ
variable_name link = codes "s" ++ digits_text link

-- the name of its command of a number
abbrev pub command_name : Link → ℕ → List ℕ
command_name link number = codes "k" ++ digits_text link ++ codes "_" ++ decimal number

-- the modes a, b and c have the numbers 0, 1 and 2
unfoldable pub mode_name : ℕ → List ℕ
mode_name mode = unwrap_or (slice_get (codes "a" ∷ codes "b" ∷ codes "c" ∷ []) mode) []

-- a component with one of its modes
abbrev pub pair_text : Link → ℕ → List ℕ
pair_text link mode = component_name link ++ codes "=" ++ mode_name mode
