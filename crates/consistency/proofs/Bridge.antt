-- Solutions of a model's clauses are states with worlds that fit.
use Rattle.std.proofs.Common.{◌≡◌, ◌==◌, ℕ, ◌+◌, ◌<◌, ◌≤◌, ◌&&◌, ◌||◌, ◌++◌, Bool, true, false, not, List, Option, None, Some, length, slice_index, slice_index_or, take, drop, All, refl, sym, ap, subst, ◌∙◌, inl, inr, arith}
use Rattle.std.specs.Prelude.{nat_lt}
use Rattle.std.specs.List.{list_all, slice_get}
use Rattle.std.proofs.lemmas.Bool.{and_parts, and_from, or_left, or_right, ltb-true, lt-ltb, eqb-true, eq-eqb, cases_eq, ne_eqb, not_from_false}
use Rattle.std.proofs.lemmas.List.{length-map, length-append, length-take-le, take-append-drop, get_or_append_left, get_or-append-add}
use Rattle.std.proofs.lemmas.List.Elements.{All-weaker}
use Rattle.std.proofs.lemmas.Option.{slice_get_within}
use Rattle.std.proofs.lemmas.List.Sums.{AllPass-from_list_all, list_all-from_AllPass}
use Rattle.std.proofs.Math.Bool.{and-true}
use Rattle.list_laws.proofs.Places.{value_at, get_at}
use Rattle.cca_base.specs.declared.limits.TheConstants.{MAX_CHOICES}
use Rattle.cca_base.specs.declared.cube.Pair.{Pair}
use Rattle.cca_base.specs.declared.formula.Formula.{Formula}
use Rattle.cca_base.specs.PlantModel.{PlantModel}
use Rattle.cca_base.specs.Sets.{has}
use Rattle.cca_base.specs.Formula.{truth}
use Rattle.cca_base.specs.Model.{WellFormed, HasMode, mode_counts, value_counts}
use Rattle.cca_base.specs.State.{IsState, IsWorld, Extends, HasValue}
use Rattle.cca_base.proofs.Within.{mode_within, value_within}
use Rattle.clause_form.specs.declared.clause.Clauses.{Clauses}
use Rattle.clause_form.specs.Clauses.{AreValues, meets, all_met}
use Rattle.clause_form.specs.Formulas.{AreClausesOf, is_denied}
use Rattle.clause_form.proofs.ModelSizes.{both_values, state_values, counts_few, subjects_counted}
use Rattle.consistency.specs.Base.{allows, ArePairs, IsBase}
use Rattle.world_search.specs.Assumed.{AreAsked}
use Rattle.world_search.specs.Worlds.{IsSolution}
use Rattle.consistency.specs.Found.{FitsSeen, FitsAndDenies}

sizes_few : (m : PlantModel) (sizes : List ℕ) → sizes ≡ mode_counts m ++ value_counts m → WellFormed m → All (λ n. n ≤ MAX_CHOICES) sizes
sizes_few m sizes same good = subst (All (λ n. n ≤ MAX_CHOICES)) (sym same) (counts_few m good)

-- modes are of the first subjects, so a question may have them
pub asked_modes : (m : PlantModel) (sizes : List ℕ) (modes : List Pair) → sizes ≡ mode_counts m ++ value_counts m → WellFormed m
    → All (λ p. HasMode m p.item p.value) modes → AreAsked (length sizes) modes
asked_modes m sizes modes s good h =
    All-weaker (λ p. HasMode m p.item p.value) (λ p. (p.item < length sizes) × (p.value < MAX_CHOICES))
    (λ p k.
    let inside : p.item < length m.components = mode_within m p.item p.value k in
    let here : p.item < length sizes = omega (arith, subjects_counted m, ap length s) in
    let full : p.item < length (mode_counts m) = omega (arith, length-map m.components (λ c. length c.modes)) in
    let count : slice_index sizes p.item ≡ slice_index (mode_counts m) p.item = ap (λ (xs : List ℕ). slice_index xs p.item) s ∙ get_or_append_left (mode_counts m) (value_counts m) 0 p.item full in
    let most : slice_index sizes p.item ≤ MAX_CHOICES = sizes_few m sizes s good p.item 0 here in
    (here, omega (arith, k, most, count)))
    modes h

-- what is seen is of subjects behind the components
pub seen_pairs : (m : PlantModel) (sizes : List ℕ) (components : ℕ) (seen : List Pair) → sizes ≡ mode_counts m ++ value_counts m → WellFormed m → components ≡ length m.components
    → All (λ p. HasValue m p.item p.value) seen → ArePairs (length sizes) components seen
seen_pairs m sizes components seen s good n h =
    All-weaker (λ p. HasValue m p.item p.value) (λ p. (components + p.item < length sizes) × (p.value < MAX_CHOICES))
    (λ p k.
    let inside : p.item < length m.variables = value_within m p.item p.value k in
    let here : components + p.item < length sizes = omega (arith, subjects_counted m, ap length s) in
    let full : components ≡ length (mode_counts m) = n ∙ sym (length-map m.components (λ c. length c.modes)) in
    let count : slice_index sizes (components + p.item) ≡ slice_index (value_counts m) p.item =
    ap (λ (xs : List ℕ). slice_index xs (components + p.item)) s
    ∙ (ap (λ (j : ℕ). slice_index (mode_counts m ++ value_counts m) (j + p.item)) full ∙ get_or-append-add (mode_counts m) (value_counts m) p.item 0) in
    let most : slice_index sizes (components + p.item) ≤ MAX_CHOICES = sizes_few m sizes s good (components + p.item) 0 here in
    (here, omega (arith, k, most, count)))
    seen h

true_or : (a b : Bool) → (not a || b) ≡ true → a ≡ true → b ≡ true
true_or true b h e = h
true_or false b h e = absurd (cc)

-- a pair that its subject's value meets
pair_met : (subject d v value : ℕ) → (subject ≡ d → v ≡ value) → (not (subject == d) || value == v) ≡ true
pair_met subject d v value h = elim (cases_eq subject d) [
  | inl e ↦ or_right (not (subject == d)) (value == v) (eq-eqb value v (sym (h e)))
  | inr ne ↦ or_left (not (subject == d)) (value == v) (not_from_false (subject == d) (ne_eqb subject d ne))
]

-- allowed values have each pair's value at its subject
allowed_pairs : (xs : List ℕ) (first : ℕ) (pairs : List Pair) (d : ℕ) → allows first pairs d (slice_index xs d) ≡ true → All (λ p. first + p.item ≡ d → slice_index xs d ≡ p.value) pairs
allowed_pairs xs first pairs d h =
    All-weaker (λ p. (not (first + p.item == d) || p.value == slice_index xs d) ≡ true) (λ p. first + p.item ≡ d → slice_index xs d ≡ p.value)
    (λ p k e. sym (eqb-true p.value (slice_index xs d) (true_or (first + p.item == d) (p.value == slice_index xs d) k (eq-eqb (first + p.item) d e))))
    pairs (AllPass-from_list_all (λ p. not (first + p.item == d) || p.value == slice_index xs d) pairs h)

pairs_allowed : (xs : List ℕ) (first : ℕ) (pairs : List Pair) (d : ℕ) → All (λ p. first + p.item ≡ d → slice_index xs d ≡ p.value) pairs → allows first pairs d (slice_index xs d) ≡ true
pairs_allowed xs first pairs d h =
    list_all-from_AllPass (λ p. not (first + p.item == d) || p.value == slice_index xs d) pairs
    (All-weaker (λ p. first + p.item ≡ d → slice_index xs d ≡ p.value) (λ p. (not (first + p.item == d) || p.value == slice_index xs d) ≡ true)
    (λ p k. pair_met (first + p.item) d (slice_index xs d) p.value k) pairs h)

module _ (m : PlantModel) where
  abbrev n : ℕ
  n = length m.components

  counted : length (mode_counts m) ≡ n
  counted = length-map m.components (λ c. length c.modes)

  counted_values : length (value_counts m) ≡ length m.variables
  counted_values = length-map m.variables (λ v. length v.values)

  pub at_mode : (s w : List ℕ) (i : ℕ) → i < length s → slice_index (s ++ w) i ≡ slice_index s i
  at_mode s w i h = get_or_append_left s w 0 i h

  pub at_value : (s w : List ℕ) (i : ℕ) → length s ≡ n → slice_index (s ++ w) (n + i) ≡ slice_index w i
  at_value s w i h = ap (λ (k : ℕ). slice_index (s ++ w) (k + i)) (sym h) ∙ get_or-append-add s w i 0

  values_state : (s w : List ℕ) → length s ≡ n → AreValues (mode_counts m ++ value_counts m) (s ++ w) → IsState m s
  values_state s w e h = record {
    full = e;
    modes = λ c k.
        (let here : c < length s = omega arith in
        let there : c < length (mode_counts m) = omega (arith, counted) in
        let all : c < length (mode_counts m ++ value_counts m) = omega (arith, length-append (mode_counts m) (value_counts m)) in
        let less = h.values c all in
        omega (arith, less, at_mode s w c here, get_or_append_left (mode_counts m) (value_counts m) 0 c there));
  }

  values_world : (s w : List ℕ) → length s ≡ n → AreValues (mode_counts m ++ value_counts m) (s ++ w) → (length w ≡ length m.variables) × ((v : ℕ) → v < length m.variables → HasValue m v (slice_index w v))
  values_world s w e h = (
    let full = h.full in omega (arith, full, length-append s w, subjects_counted m),
    λ v k.
        (let all : n + v < length (mode_counts m ++ value_counts m) = omega (arith, subjects_counted m) in
        let less = h.values (n + v) all in
        let count : slice_index (mode_counts m ++ value_counts m) (n + v) ≡ slice_index (value_counts m) v =
        ap (λ (j : ℕ). slice_index (mode_counts m ++ value_counts m) (j + v)) (sym counted) ∙ get_or-append-add (mode_counts m) (value_counts m) v 0 in
        omega (arith, less, at_value s w v e, count)),
  )

  -- a world's values are values of the variables
  pub world_values : (s w : List ℕ) → IsWorld m s w → AreValues (value_counts m) w
  world_values s w h = record { full = h.full ∙ sym counted_values; values = λ v k. h.values v (subst (λ j. v < j) counted_values k) }

module _ (m : PlantModel) (modes seen : List Pair) (denied : Option Formula) (c : Clauses) (base : List ℕ)
    (of : AreClausesOf m None denied c) (b : IsBase c.sizes (length m.components) modes seen base)
    (modes_in : All (λ p. HasMode m p.item p.value) modes) (seen_in : All (λ p. HasValue m p.item p.value) seen)
    (s w : List ℕ) (full : length s ≡ length m.components) where
  abbrev xs : List ℕ
  xs = s ++ w

  parts : IsSolution c.clauses base xs → (d : ℕ) → d < length c.sizes
      → (nat_lt (slice_index xs d) (slice_index c.sizes d) ≡ true) × (allows 0 modes d (slice_index xs d) ≡ true) × (allows (length m.components) seen d (slice_index xs d) ≡ true)
  parts h d k =
      let k' : d < length base = subst (λ j. d < j) (sym b.full) k in
      let outer = and_parts (nat_lt (slice_index xs d) (slice_index c.sizes d) && allows 0 modes d (slice_index xs d)) _ (sym (b.values d (slice_index xs d) k) ∙ h.within d k') in
      let inner = and_parts (nat_lt (slice_index xs d) (slice_index c.sizes d)) _ outer.0 in
      (inner.0, inner.1, outer.1)

  values_of : IsSolution c.clauses base xs → AreValues (mode_counts m ++ value_counts m) xs
  values_of h = subst (λ sizes. AreValues sizes xs) of.sizes (record {
    full = h.full ∙ b.full;
    values = λ d k. ltb-true (slice_index xs d) (slice_index c.sizes d) (parts h d k).0;
  })

  met_of : IsSolution c.clauses base xs → all_met xs c.clauses ≡ true
  met_of h = list_all-from_AllPass (meets xs) c.clauses h.met

  -- the meaning of the clauses, by its parts
  asked : AreValues (mode_counts m) s → AreValues (value_counts m) w → all_met xs c.clauses ≡ (list_all (truth s w) m.rules && is_denied s w denied)
  asked h k = of.meaning s w h k ∙ ap (λ (x : Bool). x && is_denied s w denied) (and-true (list_all (truth s w) m.rules))

  sizes_length : length c.sizes ≡ length m.components + length m.variables
  sizes_length = ap length of.sizes ∙ subjects_counted m

  found_modes : IsSolution c.clauses base xs → Extends s modes
  found_modes h k d i =
      let p = slice_index_or modes k d in
      let item : p.item < length m.components = mode_within m p.item p.value (modes_in k d i) in
      let here : p.item < length s = omega arith in
      let inside : p.item < length c.sizes = omega (arith, sizes_length) in
      let at : 0 + p.item ≡ p.item = omega arith in
      let value = allowed_pairs xs 0 modes p.item (parts h p.item inside).1 k d i at in
      get_at s p.item p.value here (sym (at_mode m s w p.item here) ∙ value)

  found_seen : IsSolution c.clauses base xs → length w ≡ length m.variables → Extends w seen
  found_seen h e k d i =
      let p = slice_index_or seen k d in
      let item : p.item < length m.variables = value_within m p.item p.value (seen_in k d i) in
      let here : p.item < length w = omega arith in
      let inside : length m.components + p.item < length c.sizes = omega (arith, sizes_length) in
      let value = allowed_pairs xs (length m.components) seen (length m.components + p.item) (parts h (length m.components + p.item) inside).2 k d i refl in
      get_at w p.item p.value here (sym (at_value m s w p.item full) ∙ value)

  pub solution_fits : IsSolution c.clauses base xs → FitsAndDenies m modes seen denied s w
  solution_fits h =
      let values = values_of h in
      let state = values_state m s w full values in
      let world = values_world m s w full values in
      let value_of : AreValues (value_counts m) w = record { full = world.0 ∙ sym (counted_values m); values = λ v k. world.1 v (subst (λ j. v < j) (counted_values m) k) } in
      let both = and_parts (list_all (truth s w) m.rules) (is_denied s w denied) (sym (asked (state_values m s state) value_of) ∙ met_of h) in
      record {
        fits = record {
          state = state;
          extends = found_modes h;
          world = record { full = world.0; values = world.1; rules = AllPass-from_list_all (truth s w) m.rules both.0 };
          agrees = found_seen h world.0;
        };
        denies = both.1;
      }

  kept_modes : Extends s modes → (d : ℕ) → All (λ p. 0 + p.item ≡ d → slice_index xs d ≡ p.value) modes
  kept_modes h d =
      All-weaker (λ p. slice_get s p.item ≡ Some p.value) (λ p. 0 + p.item ≡ d → slice_index xs d ≡ p.value)
      (λ p k e.
      let at : d ≡ p.item = omega arith in
      let here : p.item < length s = slice_get_within s p.item p.value k in
      ap (slice_index xs) at ∙ (at_mode m s w p.item here ∙ value_at s p.item p.value k))
      modes h

  kept_seen : Extends w seen → (d : ℕ) → All (λ p. length m.components + p.item ≡ d → slice_index xs d ≡ p.value) seen
  kept_seen h d =
      All-weaker (λ p. slice_get w p.item ≡ Some p.value) (λ p. length m.components + p.item ≡ d → slice_index xs d ≡ p.value)
      (λ p k e. ap (slice_index xs) (sym e) ∙ (at_value m s w p.item full ∙ value_at w p.item p.value k))
      seen h

  all_values : IsState m s → IsWorld m s w → AreValues c.sizes xs
  all_values state world = subst (λ sizes. AreValues sizes xs) (sym of.sizes) (both_values (mode_counts m) (value_counts m) s w (state_values m s state) (world_values m s w world))

  -- values with which the rules are true meet the clauses
  world_met : IsState m s → IsWorld m s w → is_denied s w denied ≡ true → All (λ clause. meets xs clause ≡ true) c.clauses
  world_met state world denies =
      AllPass-from_list_all (meets xs) c.clauses
      (asked (state_values m s state) (world_values m s w world) ∙ and_from _ _ (list_all-from_AllPass (truth s w) m.rules world.rules) denies)

  -- a value that all pairs allow is in the set
  allowed_in : IsState m s → IsWorld m s w → (d : ℕ) → d < length base → allows 0 modes d (slice_index xs d) ≡ true → allows (length m.components) seen d (slice_index xs d) ≡ true → has (slice_index base d) (slice_index xs d) ≡ true
  allowed_in state world d k by_modes by_seen =
      let k' : d < length c.sizes = subst (λ j. d < j) b.full k in
      b.values d (slice_index xs d) k' ∙ and_from _ _ (and_from _ _ (lt-ltb (slice_index xs d) (slice_index c.sizes d) ((all_values state world).values d k')) by_modes) by_seen

  seen_allowed : Extends w seen → (d : ℕ) → allows (length m.components) seen d (slice_index xs d) ≡ true
  seen_allowed h d = pairs_allowed xs (length m.components) seen d (kept_seen h d)

  pub fits_solution : FitsAndDenies m modes seen denied s w → IsSolution c.clauses base xs
  fits_solution h = record {
    full = (all_values h.fits.state h.fits.world).full ∙ sym b.full;
    within = λ d k. allowed_in h.fits.state h.fits.world d k (pairs_allowed xs 0 modes d (kept_modes h.fits.extends d)) (seen_allowed h.fits.agrees d);
    met = world_met h.fits.state h.fits.world h.denies;
  }

-- a solution's parts are a state and a world that fit
pub parts_fit : (m : PlantModel) (modes seen : List Pair) (c : Clauses) (base : List ℕ) → AreClausesOf m None None c → IsBase c.sizes (length m.components) modes seen base
    → All (λ p. HasMode m p.item p.value) modes → All (λ p. HasValue m p.item p.value) seen
    → (xs : List ℕ) → IsSolution c.clauses base xs → FitsSeen m modes seen (take (length m.components) xs) (drop (length m.components) xs)
parts_fit m modes seen c base of b modes_in seen_in xs h =
    let n = length m.components in
    let full = h.full in
    let counted : length base ≡ n + length m.variables = b.full ∙ (ap length of.sizes ∙ subjects_counted m) in
    let e : length (take n xs) ≡ n = length-take-le n xs (omega arith) in
    (solution_fits m modes seen None c base of b modes_in seen_in (take n xs) (drop n xs) e (subst (IsSolution c.clauses base) (sym (take-append-drop n xs)) h)).fits
