-- The start modes are a state, and are taken one component after the other.
use Rattle.std.proofs.Common.{◌≡◌, ◌<◌, ◌≤◌, ◌+◌, ℕ, List, [], ◌∷◌, ◌++◌, length, map, get_or, take, sym, ap, ◌∙◌, arith}
use Rattle.std.proofs.lemmas.List.{length-map, get_or-map, take_all, take_more}
use Rattle.cca_base.specs.PlantModel.{PlantModel}
use Rattle.cca_base.specs.declared.model.Component.{Component}
use Rattle.cca_base.specs.Model.{WellFormed}
use Rattle.cca_base.specs.State.{IsState, start_modes}

pub start_state : (m : PlantModel) → WellFormed m → IsState m (start_modes m)
start_state m good = record {
  full = length-map m.components (λ (x : Component). x.start);
  modes = λ c within.
      let none : Component = record { name = []; modes = []; start = 0 } in
      let start = get_or-map (λ (x : Component). x.start) m.components c none 0 within in
      let count = get_or-map (λ (x : Component). length x.modes) m.components c none 0 within in
      omega (arith, start, count, (good.components c none within).start);
}

-- one more start mode
pub starts_more : (cs : List Component) (i : ℕ) (modes : List ℕ) (x : Component) → i < length cs → x ≡ get_or cs i x → modes ≡ take i (map (λ c. c.start) cs)
    → modes ++ x.start ∷ [] ≡ take (i + 1) (map (λ c. c.start) cs)
starts_more cs i modes x within is h =
    let starts : List ℕ = map (λ c. c.start) cs in
    ap (λ l. l ++ x.start ∷ []) h
    ∙ (ap (λ n. take i starts ++ n ∷ []) (ap (λ (y : Component). y.start) is ∙ sym (get_or-map (λ (y : Component). y.start) cs i x 0 within))
    ∙ sym (take_more starts i 0 (omega (arith, within, length-map cs (λ (y : Component). y.start)))))

-- all of them, behind the last component
pub starts_all : (m : PlantModel) (modes : List ℕ) (i : ℕ) → length m.components ≤ i → modes ≡ take i (start_modes m) → modes ≡ start_modes m
starts_all m modes i past h = h ∙ take_all i (start_modes m) (omega (arith, past, length-map m.components (λ (x : Component). x.start)))
