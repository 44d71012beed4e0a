-- What fits the counts of modes and of values speaks only of components and variables that there are.
use Rattle.std.proofs.Common.{◌≡◌, ℕ, ◌<◌, ◌&&◌, zero, suc, Bool, true, IsTrue, List, [], ◌∷◌, length, map, slice_index, refl, sym, ap, ap₂, subst, ◌∙◌, arith}
use Rattle.std.specs.Prelude.{nat_le, nat_lt, ◌^◌}
use Rattle.std.specs.List.{list_all}
use Rattle.std.proofs.lemmas.Bool.{ltb-true, lt-ltb, and_parts}
use Rattle.std.proofs.lemmas.List.{length-map}
use Rattle.std.proofs.lemmas.List.Elements.{All-contains}
use Rattle.cca_base.specs.declared.cube.Pair.{Pair}
use Rattle.cca_base.specs.PlantModel.{PlantModel}
use Rattle.cca_base.specs.Implicants.{Needs}
use Rattle.cca_base.specs.Formula.{fits, fits_step, is_within, within_step, is_choice_of, subject_value, subject_within}
use Rattle.cca_base.specs.Model.{IsFormula, HasMode, mode_counts, value_counts}
use Rattle.cca_base.specs.State.{IsState, IsWorld, HasValue}
use Rattle.cca_base.specs.declared.formula.Subject.{Subject}
use Rattle.cca_base.specs.declared.formula.Subject.TheVariants.{Component, Variable}
use Rattle.cca_base.specs.declared.formula.Formula.{Formula}
use Rattle.cca_base.specs.declared.formula.Formula.TheOpen.{Formula-F}
use Rattle.cca_base.specs.declared.formula.Formula.TheFolds.{fold-Formula, fold-roll-Formula, ind-Formula, map-Formula}

-- a number that is not 0 stands at a place of the list
pub place_within : (xs : List ℕ) (k : ℕ) → 0 < slice_index xs k → k < length xs
place_within [] k h = absurd (omega arith)
place_within (x ∷ xs) zero h = omega arith
place_within (x ∷ xs) (suc k) h = omega (arith, place_within xs k h)

-- what has a mode is a component, and what has a value a variable
pub mode_within : (m : PlantModel) (c mode : ℕ) → HasMode m c mode → c < length m.components
mode_within m c mode h = omega (arith, place_within (mode_counts m) c (omega (arith, h)), length-map m.components (λ component. length component.modes))

pub value_within : (m : PlantModel) (v value : ℕ) → HasValue m v value → v < length m.variables
value_within m v value h = omega (arith, place_within (value_counts m) v (omega (arith, h)), length-map m.variables (λ variable. length variable.values))

-- what a component needs is a component
pub needed_component : (m : PlantModel) (c u : ℕ) → Needs m c u → u < length m.components
needed_component m c u h =
    let p : Pair = record { item = u; value = h.mode } in
    mode_within m u h.mode (All-contains (λ (q : Pair). HasMode m q.item q.value) h.cube p h.prime.modes h.occurs)

-- a choice of none holds nothing
pub choice_positive : (n set : ℕ) → is_choice_of n set ≡ true → 0 < n
choice_positive zero set h = let parts = and_parts (nat_lt 0 set) (nat_lt set (2 ^ 0)) h in absurd (omega (arith, ltb-true 0 set parts.0, ltb-true set (2 ^ 0) parts.1))
choice_positive (suc n) set h = omega arith

-- what fits meets every test that asks no more of a layer: where a formula fits, both say the same of each part
module _ (modes values : List ℕ) (test : Formula-F Bool → Bool) (no_more : (x : Formula-F Bool) → fits_step modes values x ≡ true → test x ≡ true) where
  abbrev tested : Formula → Bool
  tested = fold-Formula Bool test

  abbrev Part : Type 0
  Part = (f : Formula) × (fits modes values f ≡ true → tested f ≡ true)

  abbrev firsts : List Part → List Formula
  firsts parts = map (λ (e : Part). e.0) parts

  -- one layer of a formula, with what is said of each part in its place
  abbrev layer : (Formula → Bool) → Formula-F Formula → Formula-F Bool
  layer said x = map-Formula Formula Bool said x

  same : (e : Part) → fits modes values e.0 ≡ true → tested e.0 ≡ fits modes values e.0
  same e h = e.1 h ∙ sym h

  same_parts : (parts : List Part) → list_all (λ b. b) (map (fits modes values) (firsts parts)) ≡ true → map tested (firsts parts) ≡ map (fits modes values) (firsts parts)
  same_parts [] h = refl
  same_parts (e ∷ parts) h = let each = and_parts (fits modes values e.0) _ h in ap₂ (λ b rest. b ∷ rest) (same e each.0) (same_parts parts each.1)

  all_same : (parts : List Part) → fits_step modes values (Formula-F.All (map (fits modes values) (firsts parts))) ≡ true
      → map tested (firsts parts) ≡ map (fits modes values) (firsts parts)
  all_same parts h = same_parts parts (and_parts (nat_le 2 (length (map (fits modes values) (firsts parts)))) _ h).1

  abbrev Same : Formula-F Formula → Type 0
  Same x = fits_step modes values (layer (fits modes values) x) ≡ true → layer tested x ≡ layer (fits modes values) x

  pair : (make : Bool → Bool → Formula-F Bool) (a b : Part) → (fits modes values a.0 && fits modes values b.0) ≡ true
      → make (tested a.0) (tested b.0) ≡ make (fits modes values a.0) (fits modes values b.0)
  pair make a b h = let each = and_parts (fits modes values a.0) (fits modes values b.0) h in ap₂ make (same a each.0) (same b each.1)

  same_layer : (y : Formula-F Part) → Same (map-Formula Part Formula (λ e. e.0) y)
  same_layer Formula-F.True h = refl
  same_layer Formula-F.False h = refl
  same_layer (Formula-F.Among k set) h = refl
  same_layer (Formula-F.Not a) h = ap (λ b. Formula-F.Not b) (same a h)
  same_layer (Formula-F.All parts) h = ap (λ bs. Formula-F.All bs) (all_same parts h)
  same_layer (Formula-F.Any parts) h = ap (λ bs. Formula-F.Any bs) (all_same parts h)
  same_layer (Formula-F.Implies a b) h = pair (λ x y. Formula-F.Implies x y) a b h
  same_layer (Formula-F.Iff a b) h = pair (λ x y. Formula-F.Iff x y) a b h

  pub fits_meets : (f : Formula) → fits modes values f ≡ true → tested f ≡ true
  fits_meets = ind-Formula (λ f. fits modes values f ≡ true → tested f ≡ true) (λ x y is h.
      let fit : fits_step modes values (layer (fits modes values) x) ≡ true = sym (fold-roll-Formula Bool (fits_step modes values) x) ∙ h in
      fold-roll-Formula Bool test x ∙ ap test (subst Same is (same_layer y) fit) ∙ no_more (layer (fits modes values) x) fit)

module _ (modes values : List ℕ) where
  subject : (k : Subject) → 0 < subject_value k modes values → subject_within (length modes) (length values) k ≡ true
  subject (Component k) h = lt-ltb k (length modes) (place_within modes k h)
  subject (Variable k) h = lt-ltb k (length values) (place_within values k h)

  layer_within : (x : Formula-F Bool) → fits_step modes values x ≡ true → within_step (length modes) (length values) x ≡ true
  layer_within Formula-F.True h = h
  layer_within Formula-F.False h = h
  layer_within (Formula-F.Among k set) h = subject k (choice_positive (subject_value k modes values) set h)
  layer_within (Formula-F.Not a) h = h
  layer_within (Formula-F.All parts) h = (and_parts (nat_le 2 (length parts)) _ h).1
  layer_within (Formula-F.Any parts) h = (and_parts (nat_le 2 (length parts)) _ h).1
  layer_within (Formula-F.Implies a b) h = h
  layer_within (Formula-F.Iff a b) h = h

  pub fits_within : (f : Formula) → fits modes values f ≡ true → is_within (length modes) (length values) f ≡ true
  fits_within = fits_meets modes values (within_step (length modes) (length values)) layer_within

-- so a formula of a model can be tried at each of its states and worlds
pub formula_within : (m : PlantModel) (s w : List ℕ) (f : Formula) → IsFormula m f → IsState m s → IsWorld m s w → IsTrue (is_within (length s) (length w) f)
formula_within m s w f h state world =
    let modes : length (mode_counts m) ≡ length s = length-map m.components (λ c. length c.modes) ∙ sym state.full in
    let values : length (value_counts m) ≡ length w = length-map m.variables (λ v. length v.values) ∙ sym world.full in
    subst (λ n. is_within n (length w) f ≡ true) modes (subst (λ n. is_within (length (mode_counts m)) n f ≡ true) values (fits_within (mode_counts m) (value_counts m) f h.fits))
