-- A name stands at the place at which it is found.
use Rattle.std.proofs.Common.{◌≡◌, ℕ, List, get_or, slice_get, Some, ap, ◌∙◌}
use Rattle.std.specs.Str.{bytes_eq}
use Rattle.std.proofs.lemmas.List.Quantifiers.{position-Some}
use Rattle.std.proofs.lemmas.Option.{slice_get-get_or}
use Rattle.std.proofs.lemmas.Slice.Eq.{bytes_eq-Decides}
use Rattle.formula_syntax.specs.Lookups.{place_of}

pub found_there : (names : List (List ℕ)) (k : ℕ) (name : List ℕ) → place_of names name ≡ Some k → slice_get names k ≡ Some name
found_there names k name h =
    let found = position-Some (λ x. bytes_eq x name) names k name h in
    let same : get_or names k name ≡ name = (bytes_eq-Decides (get_or names k name) name).0 found.1 in
    slice_get-get_or names k name found.0 ∙ ap Some same
