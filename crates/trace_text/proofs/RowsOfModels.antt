-- States and values of a model are choices of its rows.
use Rattle.std.proofs.Common.{◌≡◌, ◌≢◌, ℕ, ◌<◌, List, [], ◌∷◌, length, map, All, slice_index, Option, Some, None, sym, ◌∙◌, subst}
use Rattle.std.specs.declared.alloc.AllocError.{AllocError}
use Rattle.std.specs.Prelude.{Result, Ok, Err, IfOk}
use Rattle.std.proofs.lemmas.Simd.{map-map}
use Rattle.std.proofs.lemmas.List.{length-map}
use Rattle.std.proofs.lemmas.List.Elements.{All-cons, All-head, All-nil, All-tail}
use Rattle.list_laws.proofs.Elements.{all_left, all_right}
use Rattle.cca_base.specs.declared.model.Component.{Component}
use Rattle.cca_base.specs.declared.model.Variable.{Variable}
use Rattle.cca_base.specs.PlantModel.{PlantModel}
use Rattle.cca_base.specs.Names.{AreNames}
use Rattle.cca_base.specs.Model.{WellFormed, IsComponent, AreChoices}
use Rattle.cca_base.specs.State.{IsState}
use Rattle.trace_text.specs.Names.{Row, mode_row, value_row}
use Rattle.trace_text.specs.TraceLines.{HasValues}
use Rattle.trace_text.specs.LineWords.{AreChosen, IsReadFrom, mode_words, choice_words, value_words}
use Rattle.cca_base.proofs.ModelNames.{IsName}
use Rattle.trace_text.proofs.ChosenRows.{chosen_at_places, chosen_from_places, too_many_or_few}

-- choices of the rows of some parts, by place
module _ {X : Type 0} (row_of : X → Row) (xs : List X) (ks : List ℕ) where
  abbrev counts : List ℕ
  counts = map (λ x. length (row_of x).choices) xs

  sizes : map (λ (row : Row). length row.choices) (map row_of xs) ≡ counts
  sizes = map-map (λ (row : Row). length row.choices) row_of xs

  chosen_from : length ks ≡ length xs → ((i : ℕ) → i < length xs → slice_index ks i < slice_index counts i) → AreChosen (map row_of xs) ks
  chosen_from full each =
      let many : length (map row_of xs) ≡ length xs = length-map xs row_of in
      chosen_from_places (map row_of xs) ks (full ∙ sym many)
      (λ i lt. subst (λ (ns : List ℕ). slice_index ks i < slice_index ns i) (sym sizes) (each i (subst (λ n. i < n) many lt)))

  chosen_at : AreChosen (map row_of xs) ks → (length ks ≡ length xs) × ((i : ℕ) → i < length xs → slice_index ks i < slice_index counts i)
  chosen_at h =
      let many : length (map row_of xs) ≡ length xs = length-map xs row_of in
      let parts = chosen_at_places (map row_of xs) ks h in
      (parts.0 ∙ many, λ i lt. subst (λ (ns : List ℕ). slice_index ks i < slice_index ns i) sizes (parts.1 i (subst (λ n. i < n) (sym many) lt)))

pub state_is_chosen : (m : PlantModel) (s : List ℕ) → IsState m s → AreChosen (map mode_row m.components) s
state_is_chosen m s h = chosen_from mode_row m.components s h.full h.modes

chosen_is_state : (m : PlantModel) (s : List ℕ) → AreChosen (map mode_row m.components) s → IsState m s
chosen_is_state m s h = let at = chosen_at mode_row m.components s h in record { full = at.0; modes = at.1 }

pub values_are_chosen : (m : PlantModel) (w : List ℕ) → HasValues m w → AreChosen (map value_row m.variables) w
values_are_chosen m w h = chosen_from value_row m.variables w h.full h.each

chosen_are_values : (m : PlantModel) (w : List ℕ) → AreChosen (map value_row m.variables) w → HasValues m w
chosen_are_values m w h = let at = chosen_at value_row m.variables w h in record { full = at.0; each = at.1 }

-- a row's name and those of its choices
pub record HasRowNames (row : Row) : Type 0 where
  pub name : IsName row.name
  pub choices : AreNames row.choices

component_row : (c : Component) → IsName c.name × IsComponent c → HasRowNames (mode_row c)
component_row c h = record { name = h.0; choices = h.1.modes.names }

variable_row : (v : Variable) → IsName v.name × AreChoices v.values → HasRowNames (value_row v)
variable_row v h = record { name = h.0; choices = h.1.names }

pub mode_rows : (m : PlantModel) → WellFormed m → All HasRowNames (map mode_row m.components)
mode_rows m h =
    let names : All IsName (map (λ (c : Component). c.name) m.components) = all_left IsName (map (λ (c : Component). c.name) m.components) (map (λ (v : Variable). v.name) m.variables) h.names.each in
    go m.components names h.components
  where
    go : (cs : List Component) → All IsName (map (λ (c : Component). c.name) cs) → All IsComponent cs → All HasRowNames (map mode_row cs)
    go [] p q = All-nil HasRowNames
    go (c ∷ cs) p q =
        All-cons HasRowNames (mode_row c) (map mode_row cs) (component_row c (All-head IsName c.name (map (λ (x : Component). x.name) cs) p, All-head IsComponent c cs q))
        (go cs (All-tail IsName c.name (map (λ (x : Component). x.name) cs) p) (All-tail IsComponent c cs q))

pub value_rows : (m : PlantModel) → WellFormed m → All HasRowNames (map value_row m.variables)
value_rows m h =
    let names : All IsName (map (λ (v : Variable). v.name) m.variables) = all_right IsName (map (λ (c : Component). c.name) m.components) (map (λ (v : Variable). v.name) m.variables) h.names.each in
    go m.variables names h.variables
  where
    go : (vs : List Variable) → All IsName (map (λ (v : Variable). v.name) vs) → All (λ (v : Variable). AreChoices v.values) vs → All HasRowNames (map value_row vs)
    go [] p q = All-nil HasRowNames
    go (v ∷ vs) p q =
        All-cons HasRowNames (value_row v) (map value_row vs) (variable_row v (All-head IsName v.name (map (λ (x : Variable). x.name) vs) p, All-head (λ (x : Variable). AreChoices x.values) v vs q))
        (go vs (All-tail IsName v.name (map (λ (x : Variable). x.name) vs) p) (All-tail (λ (x : Variable). AreChoices x.values) v vs q))

-- ---- what is read as choices is read as a state, or as the values of a world

pub state_is_read : (m : PlantModel) (cs : List Component) (ws : List (List ℕ)) (r : Result (Option (List ℕ)) AllocError) → cs ≡ m.components
    → IfOk r (IsReadFrom ws (AreChosen (map mode_row cs)) (choice_words (map mode_row cs))) → IfOk r (IsReadFrom ws (IsState m) (mode_words m.components))
state_is_read m cs ws (Ok (Some s)) is h = let k = rw is at h in (chosen_is_state m s k.0, k.1)
state_is_read m cs ws (Ok None) is h = λ s fits e. (rw is at h) s (state_is_chosen m s fits) e
state_is_read m cs ws (Err x) is h = tt

pub values_are_read : (m : PlantModel) (vs : List Variable) (ws : List (List ℕ)) (r : Result (Option (List ℕ)) AllocError) → vs ≡ m.variables
    → IfOk r (IsReadFrom ws (AreChosen (map value_row vs)) (choice_words (map value_row vs))) → IfOk r (IsReadFrom ws (HasValues m) (value_words m.variables))
values_are_read m vs ws (Ok (Some s)) is h = let k = rw is at h in (chosen_are_values m s k.0, k.1)
values_are_read m vs ws (Ok None) is h = λ s fits e. (rw is at h) s (values_are_chosen m s fits) e
values_are_read m vs ws (Err x) is h = tt

pub other_count : (m : PlantModel) (ws : List (List ℕ)) → (length ws ≡ length m.variables → ⊥) → (values : List ℕ) → HasValues m values → value_words m.variables values ≢ ws
other_count m ws differ values h e =
    let many : length (map value_row m.variables) ≡ length m.variables = length-map m.variables value_row in
    too_many_or_few (map value_row m.variables) ws (λ k. differ (k ∙ many)) values (values_are_chosen m values h) e
