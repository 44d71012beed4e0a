-- Pairs of a component and one of its modes are told apart.
use Rattle.std.proofs.Common.{◌≡◌, ◌≢◌, ◌<◌, ℕ, List, [], ◌∷◌, length, map, slice_get, Option, Some, refl, sym, ap, ◌∙◌, subst, arith}
use Rattle.std.specs.Option.{option_map, option_map_or}
use Rattle.std.proofs.lemmas.List.{length-map}
use Rattle.std.proofs.lemmas.Option.{slice_get-map}
use Rattle.list_laws.proofs.Places.{some_at, value_at, place_inside, all_at}
use Rattle.cca_base.specs.declared.model.Component.{Component}
use Rattle.cca_base.specs.declared.model.Variable.{Variable}
use Rattle.cca_base.specs.PlantModel.{PlantModel}
use Rattle.cca_base.specs.Names.{AreNames, AreDifferent}
use Rattle.cca_base.specs.Model.{WellFormed, HasMode, IsComponent, mode_counts}
use Rattle.formula_syntax.specs.Lookups.{place_of}
use Rattle.model_syntax.proofs.PrintedNames.{pairs_left, place_found}
use Rattle.trace_text.specs.Names.{name_at, choice_text, pair_text_at}
use Rattle.trace_text.proofs.ChosenRows.{name_at_injective}
use Rattle.cca_base.proofs.ModelNames.{IsName, HasNames, word_bytes, model_names}
use Rattle.trace_text.proofs.WordsApart.{first_word, name_lacks}

-- a component that is there, with its name and its modes
record IsThere (m : PlantModel) (c mode : ℕ) : Type 0 where
  component : Component
  at : slice_get m.components c ≡ Some component
  inside : mode < length component.modes
  named : IsName component.name
  modes : AreNames component.modes

there : (m : PlantModel) → WellFormed m → (c mode : ℕ) → HasMode m c mode → IsThere m c mode
there m h c mode has =
    let inside : c < length m.components = omega (arith, place_inside (mode_counts m) c mode has, length-map m.components (λ (x : Component). length x.modes)) in
    let x = some_at m.components c inside in
    let count : slice_get (mode_counts m) c ≡ Some (length x.0.modes) = slice_get-map (λ (y : Component). length y.modes) m.components c ∙ ap (λ o. option_map (λ (y : Component). length y.modes) o) x.1 in
    record {
      component = x.0;
      at = x.1;
      inside = subst (λ n. mode < n) (value_at (mode_counts m) c (length x.0.modes) count) has;
      named = (all_at HasNames m.components c x.0 (model_names m h) x.1).0;
      modes = (all_at IsComponent m.components c x.0 h.components x.1).modes.names;
    }

component_one : (m : PlantModel) → WellFormed m → (b c : ℕ) (x y : Component) → slice_get m.components b ≡ Some x → slice_get m.components c ≡ Some y → x.name ≡ y.name → b ≡ c
component_one m h b c x y p q e =
    let name : Component → List ℕ = λ z. z.name in
    let differ : AreDifferent (map name m.components) = pairs_left (λ s t. s ≢ t) (map name m.components) (map (λ (v : Variable). v.name) m.variables) h.names.different in
    let one : place_of (map name m.components) x.name ≡ Some b = place_found (map name m.components) b x.name differ (slice_get-map name m.components b ∙ ap (option_map name) p) in
    let two : place_of (map name m.components) y.name ≡ Some c = place_found (map name m.components) c y.name differ (slice_get-map name m.components c ∙ ap (option_map name) q) in
    let same : place_of (map name m.components) x.name ≡ place_of (map name m.components) y.name = ap (place_of (map name m.components)) e in
    cc

pub pair_one : (m : PlantModel) → WellFormed m → (b j c k : ℕ) → HasMode m b j → HasMode m c k → pair_text_at m.components b j ≡ pair_text_at m.components c k → (b ≡ c) × (j ≡ k)
pair_one m h b j c k p q e =
    let x = there m h b j p in
    let y = there m h c k q in
    let texts : choice_text x.component.name x.component.modes j ≡ choice_text y.component.name y.component.modes k =
    sym (ap (λ o. option_map_or (λ (z : Component). choice_text z.name z.modes j) o []) x.at) ∙ e ∙ ap (λ o. option_map_or (λ (z : Component). choice_text z.name z.modes k) o []) y.at in
    let parts = first_word 61 x.component.name y.component.name (61 ∷ name_at x.component.modes j) (61 ∷ name_at y.component.modes k)
    (name_lacks 61 refl x.component.name (word_bytes x.component.name x.named)) (name_lacks 61 refl y.component.name (word_bytes y.component.name y.named)) refl refl texts in
    let names : x.component.name ≡ y.component.name = parts.0 in
    let same : b ≡ c = component_one m h b c x.component y.component x.at y.at names in
    let one : ◌≡◌ {A = Option Component} (Some x.component) (Some y.component) = sym x.at ∙ ap (slice_get m.components) same ∙ y.at in
    let is : x.component ≡ y.component = cc in
    let inside : k < length x.component.modes = subst (λ (z : Component). k < length z.modes) (sym is) y.inside in
    let rest : name_at x.component.modes j ≡ name_at y.component.modes k = let t : 61 ∷ name_at x.component.modes j ≡ 61 ∷ name_at y.component.modes k = parts.1 in cc in
    (same, name_at_injective x.component.modes j k x.modes x.inside inside (rest ∙ ap (λ (z : Component). name_at z.modes k) (sym is)))
