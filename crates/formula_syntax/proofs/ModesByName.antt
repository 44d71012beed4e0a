-- Modes and values that are found by their names.
use Rattle.std.proofs.Common.{◌≡◌, ℕ, ◌<◌, List, [], map, length, Option, Some, None, slice_get, slice_index, refl, sym, ap, subst, ◌∙◌, arith}
use Rattle.std.specs.Option.{option_map_or}
use Rattle.std.specs.Str.{bytes_eq}
use Rattle.std.proofs.lemmas.Option.{slice_get_within, get_or_from_slice_get}
use Rattle.std.proofs.lemmas.List.{get_or-map}
use Rattle.std.proofs.lemmas.List.Quantifiers.{position-Some}
use Rattle.cca_base.specs.declared.formula.Subject.TheVariants as subjects
use Rattle.cca_base.specs.declared.model.Component.{Component}
use Rattle.cca_base.specs.declared.model.Variable.{Variable}
use Rattle.cca_base.specs.PlantModel.{PlantModel}
use Rattle.cca_base.specs.Model.{HasMode}
use Rattle.cca_base.specs.State.{HasValue}
use Rattle.formula_syntax.specs.Lookups.{place_of, value_of}

-- a place among the names of the part with this number is below their count
found_within : {X : Type 0} (names : X → List (List ℕ)) (xs : List X) (i k : ℕ) (text : List ℕ) (o : Option X) → slice_get xs i ≡ o → place_of (option_map_or names o []) text ≡ Some k
    → k < slice_index (map (λ x. length (names x)) xs) i
found_within names xs i k text None e h =
    let none : List ℕ = [] in
    let p = position-Some (λ name. bytes_eq name text) [] k none h in
    absurd (omega (arith, p.0))
found_within names xs i k text (Some x) e h =
    let none : List ℕ = [] in
    let p = position-Some (λ name. bytes_eq name text) (names x) k none h in
    let count : slice_index (map (λ y. length (names y)) xs) i ≡ length (names x) =
    get_or-map (λ y. length (names y)) xs i x 0 (slice_get_within xs i x e)
    ∙ ap (λ y. length (names y)) (get_or_from_slice_get xs i x x e)
    in
    subst (λ n. k < n) (sym count) p.0

pub mode_of_component : (m : PlantModel) (c mode : ℕ) (text : List ℕ) → value_of m (subjects.Component c) text ≡ Some mode → HasMode m c mode
mode_of_component m c mode text h = found_within (λ (x : Component). x.modes) m.components c mode text (slice_get m.components c) refl h

pub value_of_variable : (m : PlantModel) (v value : ℕ) (text : List ℕ) → value_of m (subjects.Variable v) text ≡ Some value → HasValue m v value
value_of_variable m v value text h = found_within (λ (x : Variable). x.values) m.variables v value text (slice_get m.variables v) refl h
