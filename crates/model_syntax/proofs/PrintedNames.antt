-- The names of a model stand for what they name.
use Rattle.std.proofs.Common.{◌≡◌, ◌≢◌, ℕ, zero, suc, ◌+◌, ◌<◌, ◌^◌, Bool, true, false, cond, not, ◌&&◌, ◌||◌, List, [], ◌∷◌, ◌++◌, length, map, Option, Some, None, IsTrue, All, AllPairs, slice_get, slice_index, inl, inr, refl, sym, ap, subst, ◌∙◌, arith, add-one, eqb, ltb}
use Rattle.std.specs.Prelude.{position, is_some, unwrap_or, nat_lt}
use Rattle.std.specs.List.{list_all, list_any}
use Rattle.std.specs.Option.{option_map, option_map_or}
use Rattle.std.specs.Str.{bytes_eq}
use Rattle.std.specs.Int.{bit_at}
use Rattle.std.proofs.Math.Seq.{take-append_seam}
use Rattle.std.proofs.lemmas.Bool.{and_parts, and_from, ltb-true, lt-ltb, le-ltb, cases_lt}
use Rattle.std.proofs.lemmas.Bool.Decides.{nat_tests}
use Rattle.std.proofs.lemmas.Nat.Bits.{same_from_bits, bit_at-lt}
use Rattle.std.proofs.lemmas.Option.{unwrap_or-slice_get, slice_get-map}
use Rattle.std.proofs.lemmas.List.Elements.{All-head, All-tail, All-cons, All-nil}
use Rattle.list_laws.proofs.Elements.{all_left, all_right}
use Rattle.cca_base.specs.declared.formula.Subject.{Subject}
use Rattle.cca_base.specs.declared.formula.Subject.TheVariants as subjects
use Rattle.cca_base.specs.declared.model.Component.{Component}
use Rattle.cca_base.specs.declared.model.Variable.{Variable}
use Rattle.cca_base.specs.PlantModel.{PlantModel}
use Rattle.cca_base.specs.Names.{is_name, AreNames, AreDifferent}
use Rattle.cca_base.specs.Sets.{has, with_number}
use Rattle.cca_base.specs.Formula.{is_choice_of, subject_value}
use Rattle.cca_base.specs.Model.{AreChoices, IsComponent, mode_counts, value_counts, names_of}
use Rattle.list_laws.proofs.Pairwise.{AllPairs-tail, AllPairs-head, AllPairs-take, AllPairs-right}
use Rattle.list_laws.proofs.Places.{all_at}
use Rattle.cca_base.proofs.SetLaws.{has-with_number, has-empty, has_above}
use Rattle.formula_syntax.specs.Lookups.{place_of, subject_of, value_of, choices_of, or_else}
use Rattle.formula_syntax.specs.Meanings.{has_twice, with_found, with_numbers}
use Rattle.model_syntax.specs.Printing.{name_of, names_in}
use Rattle.formula_syntax.proofs.UnknownNames.{position_none, different_text}
use Rattle.formula_syntax.proofs.FirstPlaces.{position_map, position_cons}
use Rattle.formula_syntax.proofs.Comparisons.{same_text}
use Rattle.model_syntax.proofs.PrintedParts.{IsAtom}

-- ---- elements of lists

pub pairs_left : {X : Type 0} (R : X → X → Type 0) (xs ys : List X) → AllPairs R (xs ++ ys) → AllPairs R xs
pairs_left R xs ys h = subst (AllPairs R) (take-append_seam xs ys) (AllPairs-take R (length xs) (xs ++ ys) h)

-- each of the first is related to an element of the others
pub pairs_across : {X : Type 0} (R : X → X → Type 0) (xs ys : List X) (k : ℕ) (y : X) → AllPairs R (xs ++ ys) → slice_get ys k ≡ Some y → All (λ x. R x y) xs
pairs_across R [] ys k y h e = All-nil (λ x. R x y)
pairs_across R (x ∷ xs) ys k y h e =
    All-cons (λ z. R z y) x xs (all_at (R x) ys k y (all_right (R x) xs ys (AllPairs-head R x (xs ++ ys) h)) e) (pairs_across R xs ys k y (AllPairs-tail R x (xs ++ ys) h) e)

-- ---- places of names

-- a name is found at its own place
pub place_found : (names : List (List ℕ)) (k : ℕ) (x : List ℕ) → AreDifferent names → slice_get names k ≡ Some x → place_of names x ≡ Some k
place_found [] k x h e = absurd cc
place_found (y ∷ ys) zero x h e =
    let same : y ≡ x = cc in
    position_cons (λ n. bytes_eq n x) y ys ∙ ap (λ b. cond b (Some 0) (option_map (λ n. n + 1) (place_of ys x))) (ap (λ n. bytes_eq n x) same ∙ same_text x)
place_found (y ∷ ys) (suc k) x h e =
    let other : bytes_eq y x ≡ false = different_text y x (all_at (λ z. y ≢ z) ys k x (AllPairs-head (λ a b. a ≢ b) y ys h) e) in
    position_cons (λ n. bytes_eq n x) y ys
    ∙ ap (λ b. cond b (Some 0) (option_map (λ n. n + 1) (place_of ys x))) other
    ∙ ap (λ o. option_map (λ n. n + 1) o) (place_found ys k x (AllPairs-tail (λ a b. a ≢ b) y ys h) e)
    ∙ ap (λ n. Some n) (add-one k)

pub not_first : (xs : List Component) (x : List ℕ) → All (λ n. n ≢ x) (map (λ (c : Component). c.name) xs) → All (λ (c : Component). bytes_eq c.name x ≡ false) xs
not_first [] x h = All-nil (λ (c : Component). bytes_eq c.name x ≡ false)
not_first (c ∷ cs) x h =
    All-cons (λ (d : Component). bytes_eq d.name x ≡ false) c cs (different_text c.name x (All-head (λ n. n ≢ x) c.name (map (λ (d : Component). d.name) cs) h)) (not_first cs x (All-tail (λ n. n ≢ x) c.name (map (λ (d : Component). d.name) cs) h))

-- a model's components and variables, and their names, as far as formulas speak of them
pub record HasNames (m : PlantModel) : Type 0 where
  pub names : AreNames (names_of m)
  pub components : All IsComponent m.components
  pub variables : All (λ v. AreChoices v.values) m.variables

module _ (m : PlantModel) (h : HasNames m) where
  abbrev component_names : List (List ℕ)
  component_names = map (λ c. c.name) m.components

  abbrev variable_names : List (List ℕ)
  variable_names = map (λ v. v.name) m.variables

  named_at : {X : Type 0} (f : X → List ℕ) (xs : List X) (k : ℕ) (x : X) → slice_get xs k ≡ Some x → slice_get (map f xs) k ≡ Some (f x)
  named_at f xs k x e = slice_get-map f xs k ∙ ap (option_map f) e

  component_found : (c : ℕ) (x : Component) → slice_get m.components c ≡ Some x → subject_of m x.name ≡ Some (subjects.Component c)
  component_found c x e =
      let different = pairs_left (λ a b. a ≢ b) component_names variable_names h.names.different in
      let found = sym (position_map (λ n. bytes_eq n x.name) (λ (p : Component). p.name) m.components) ∙ place_found component_names c x.name different (named_at (λ (p : Component). p.name) m.components c x e) in
      ap (λ (o : Option ℕ). or_else (option_map subjects.Component o) (option_map subjects.Variable (position (λ v. bytes_eq v.name x.name) m.variables))) found

  variable_found : (v : ℕ) (x : Variable) → slice_get m.variables v ≡ Some x → subject_of m x.name ≡ Some (subjects.Variable v)
  variable_found v x e =
      let at = named_at (λ (q : Variable). q.name) m.variables v x e in
      let different = AllPairs-right (λ a b. a ≢ b) component_names variable_names h.names.different in
      let found = sym (position_map (λ n. bytes_eq n x.name) (λ (q : Variable). q.name) m.variables) ∙ place_found variable_names v x.name different at in
      let none = position_none (λ c. bytes_eq c.name x.name) m.components (not_first m.components x.name (pairs_across (λ a b. a ≢ b) component_names variable_names v x.name h.names.different at)) in
      ap (λ (o : Option ℕ). or_else (option_map subjects.Component o) (option_map subjects.Variable (position (λ v. bytes_eq v.name x.name) m.variables))) none
      ∙ ap (λ (o : Option ℕ). or_else None (option_map subjects.Variable o)) found

  -- a subject that is there: its name is read as it, and it has these choices
  pub record IsThere (s : Subject) (n : ℕ) : Type 0 where
    pub name : is_name (name_of m s) ≡ true
    pub subject : subject_of m (name_of m s) ≡ Some s
    pub choices : AreChoices (choices_of m s)
    pub count : length (choices_of m s) ≡ n

  counted : {X : Type 0} (f : X → ℕ) (xs : List X) (k : ℕ) (o : Option X) → slice_get xs k ≡ o → slice_index (map f xs) k ≡ unwrap_or (option_map f o) 0
  counted f xs k o e = sym (unwrap_or-slice_get (map f xs) k 0) ∙ ap (λ x. unwrap_or x 0) (slice_get-map f xs k) ∙ ap (λ x. unwrap_or (option_map f x) 0) e

  -- a subject that is a part of the model with this name and these choices
  part_there : {X : Type 0} (choices : X → List (List ℕ)) (parts : List X) (k n : ℕ) (s : Subject) (x : X) (name : List ℕ) → slice_get parts k ≡ Some x → name_of m s ≡ name → choices_of m s ≡ choices x
      → IsTrue (is_name name) → subject_of m name ≡ Some s → AreChoices (choices x) → slice_index (map (λ y. length (choices y)) parts) k ≡ n → IsThere s n
  part_there choices parts k n s x name e called values word found good counts = record {
    name = rw called word;
    subject = ap (subject_of m) called ∙ found;
    choices = subst AreChoices (sym values) good;
    count = ap length values ∙ sym (counted (λ y. length (choices y)) parts k (Some x) e) ∙ counts;
  }

  component_there : (c n : ℕ) (o : Option Component) → slice_get m.components c ≡ o → slice_index (mode_counts m) c ≡ n → 0 < n → IsThere (subjects.Component c) n
  component_there c n None e k some = let zero_count = counted (λ (p : Component). length p.modes) m.components c None e in absurd (omega (arith, k, some, zero_count))
  component_there c n (Some x) e k some =
      part_there (λ (p : Component). p.modes) m.components c n (subjects.Component c) x x.name e (ap (λ o. option_map_or (λ (p : Component). p.name) o []) e) (ap (λ o. option_map_or (λ (p : Component). p.modes) o []) e)
      (all_at (λ name. IsTrue (is_name name)) component_names c x.name (all_left (λ name. IsTrue (is_name name)) component_names variable_names h.names.each) (named_at (λ (p : Component). p.name) m.components c x e))
      (component_found c x e) (all_at IsComponent m.components c x h.components e).modes k

  variable_there : (v n : ℕ) (o : Option Variable) → slice_get m.variables v ≡ o → slice_index (value_counts m) v ≡ n → 0 < n → IsThere (subjects.Variable v) n
  variable_there v n None e k some = let zero_count = counted (λ (q : Variable). length q.values) m.variables v None e in absurd (omega (arith, k, some, zero_count))
  variable_there v n (Some x) e k some =
      part_there (λ (q : Variable). q.values) m.variables v n (subjects.Variable v) x x.name e (ap (λ o. option_map_or (λ (q : Variable). q.name) o []) e) (ap (λ o. option_map_or (λ (q : Variable). q.values) o []) e)
      (all_at (λ name. IsTrue (is_name name)) variable_names v x.name (all_right (λ name. IsTrue (is_name name)) component_names variable_names h.names.each) (named_at (λ (q : Variable). q.name) m.variables v x e))
      (variable_found v x e) (all_at (λ (q : Variable). AreChoices q.values) m.variables v x h.variables e) k

  pub there : (s : Subject) → 0 < subject_value s (mode_counts m) (value_counts m) → IsThere s (subject_value s (mode_counts m) (value_counts m))
  there (subjects.Component c) some = component_there c _ (slice_get m.components c) refl refl some
  there (subjects.Variable v) some = variable_there v _ (slice_get m.variables v) refl refl some

-- ---- sets of names

bits_more : (i k : ℕ) (b : Bool) → (i ≡ k → b ≡ true) → (eqb i k || (ltb i k && b)) ≡ (ltb i (k + 1) && b)
bits_more i k b h = grind (arith, nat_tests)

bits_same : (i k : ℕ) (b : Bool) → (i ≡ k → b ≡ false) → (ltb i k && b) ≡ (ltb i (k + 1) && b)
bits_same i k b h = grind (arith, nat_tests)

one_bit : (a b : ℕ) → a < 2 → b < 2 → eqb a 1 ≡ eqb b 1 → a ≡ b
one_bit a b h k e = grind (arith, nat_tests)

-- sets with the same members are one
same_set : (a b : ℕ) → ((i : ℕ) → has a i ≡ has b i) → a ≡ b
same_set a b h = same_from_bits a b (λ i. one_bit (bit_at a i) (bit_at b i) (bit_at-lt a i) (bit_at-lt b i) (h i))

module _ (m : PlantModel) (s : Subject) (set : ℕ) where
  -- each of the names is found at its place, counted from here
  abbrev ArePlaced : ℕ → List (List ℕ) → Type 0
  ArePlaced k [] = Unit {0}
  ArePlaced k (y ∷ ys) = (value_of m s y ≡ Some k) × ArePlaced (k + 1) ys

  placed : (k : ℕ) (names : List (List ℕ)) → ((i : ℕ) (x : List ℕ) → slice_get names i ≡ Some x → value_of m s x ≡ Some (k + i)) → ArePlaced k names
  placed k [] h = tt
  placed k (y ∷ ys) h = (
    h 0 y refl ∙ ap (λ n. Some n) (let e : k + 0 ≡ k = omega arith in e),
    placed (k + 1) ys (λ i x e. h (suc i) x e ∙ ap (λ n. Some n) (let e : k + suc i ≡ k + 1 + i = omega arith in e)),
  )

  abbrev HasBelow : ℕ → ℕ → Type 0
  HasBelow acc k = (i : ℕ) → has acc i ≡ (ltb i k && has set i)

  -- what the names give, whose set has been gathered up to a number
  gathered : (k : ℕ) (names : List (List ℕ)) (acc : ℕ) → ArePlaced k names → HasBelow acc k → HasBelow (with_numbers m s acc (names_in k names set)) (k + length names)
  gathered k [] acc p h = let e : k ≡ k + 0 = omega arith in subst (HasBelow acc) e h
  gathered k (y ∷ ys) acc p h =
      let n : k + 1 + length ys ≡ k + suc (length ys) = omega arith in
      elim (has set k) as (λ b. has set k ≡ b → HasBelow (with_numbers m s acc (cond b (y ∷ names_in (k + 1) ys set) (names_in (k + 1) ys set))) (k + suc (length ys))) [
        | true ↦ (λ e.
            let found : with_found acc (value_of m s y) ≡ with_number acc k = ap (with_found acc) p.0 in
            let more : HasBelow (with_found acc (value_of m s y)) (k + 1) =
            λ i. ap (λ a. has a i) found ∙ has-with_number acc k i ∙ ap (λ b. eqb i k || b) (h i) ∙ bits_more i k (has set i) (λ w. ap (has set) w ∙ e)
            in
            subst (HasBelow (with_numbers m s (with_found acc (value_of m s y)) (names_in (k + 1) ys set))) n (gathered (k + 1) ys (with_found acc (value_of m s y)) p.1 more))
        | false ↦ (λ e.
            let same : HasBelow acc (k + 1) = λ i. h i ∙ bits_same i k (has set i) (λ w. ap (has set) w ∙ e) in
            subst (HasBelow (with_numbers m s acc (names_in (k + 1) ys set))) n (gathered (k + 1) ys acc p.1 same))
      ] refl

  abbrev is_lost : List ℕ → Bool
  is_lost v = not (is_some (value_of m s v))

  none_lost : (k : ℕ) (names : List (List ℕ)) → ArePlaced k names → list_any is_lost (names_in k names set) ≡ false
  none_lost k [] p = refl
  none_lost k (y ∷ ys) p =
      elim (has set k) as (λ b. list_any is_lost (cond b (y ∷ names_in (k + 1) ys set) (names_in (k + 1) ys set)) ≡ false) [
        | true ↦ ap (λ o. not (is_some o) || list_any is_lost (names_in (k + 1) ys set)) p.0 ∙ none_lost (k + 1) ys p.1
        | false ↦ none_lost (k + 1) ys p.1
      ]

  all_names : (k : ℕ) (names : List (List ℕ)) → All (λ name. IsTrue (is_name name)) names → list_all is_name (names_in k names set) ≡ true
  all_names k [] h = refl
  all_names k (y ∷ ys) h =
      let rest = all_names (k + 1) ys (All-tail (λ name. IsTrue (is_name name)) y ys h) in
      elim (has set k) as (λ b. list_all is_name (cond b (y ∷ names_in (k + 1) ys set) (names_in (k + 1) ys set)) ≡ true) [
        | true ↦ and_from (is_name y) _ (All-head (λ name. IsTrue (is_name name)) y ys h) rest
        | false ↦ rest
      ]

  not_again : (y : List ℕ) (k : ℕ) (names : List (List ℕ)) → All (λ z. y ≢ z) names → list_any (bytes_eq y) (names_in k names set) ≡ false
  not_again y k [] h = refl
  not_again y k (z ∷ zs) h =
      let rest = not_again y (k + 1) zs (All-tail (λ x. y ≢ x) z zs h) in
      elim (has set k) as (λ b. list_any (bytes_eq y) (cond b (z ∷ names_in (k + 1) zs set) (names_in (k + 1) zs set)) ≡ false) [
        | true ↦ ap (λ b. b || list_any (bytes_eq y) (names_in (k + 1) zs set)) (different_text y z (All-head (λ x. y ≢ x) z zs h)) ∙ rest
        | false ↦ rest
      ]

  none_twice : (k : ℕ) (names : List (List ℕ)) → AreDifferent names → has_twice (names_in k names set) ≡ false
  none_twice k [] h = refl
  none_twice k (y ∷ ys) h =
      let rest = none_twice (k + 1) ys (AllPairs-tail (λ a b. a ≢ b) y ys h) in
      elim (has set k) as (λ b. has_twice (cond b (y ∷ names_in (k + 1) ys set) (names_in (k + 1) ys set)) ≡ false) [
        | true ↦ ap (λ b. b || has_twice (names_in (k + 1) ys set)) (not_again y (k + 1) ys (AllPairs-head (λ a b. a ≢ b) y ys h)) ∙ rest
        | false ↦ rest
      ]

choice_some : (n set : ℕ) → is_choice_of n set ≡ true → (0 < n) × (0 < set) × (set < 2 ^ n)
choice_some zero set h = let parts = and_parts (nat_lt 0 set) (nat_lt set (2 ^ 0)) h in absurd (omega (arith, ltb-true 0 set parts.0, ltb-true set (2 ^ 0) parts.1))
choice_some (suc n) set h = let parts = and_parts (nat_lt 0 set) (nat_lt set (2 ^ suc n)) h in (omega arith, ltb-true 0 set parts.0, ltb-true set (2 ^ suc n) parts.1)

within_only : (set n i : ℕ) → set < 2 ^ n → (ltb i n && has set i) ≡ has set i
within_only set n i h = elim (cases_lt i n) [
  | inl l ↦ ap (λ b. b && has set i) (lt-ltb i n l)
  | inr g ↦ ap (λ b. b && has set i) (le-ltb i n g) ∙ sym (le-ltb i n g) ∙ has_above n set i h g
]

-- a set of a formula that fits is read from its names
pub atom_read : (m : PlantModel) → HasNames m → (s : Subject) (set : ℕ) → is_choice_of (subject_value s (mode_counts m) (value_counts m)) set ≡ true → IsAtom m s set (names_in 0 (choices_of m s) set)
atom_read m h s set fit =
    let n = subject_value s (mode_counts m) (value_counts m) in
    let some = choice_some n set fit in
    let t = there m h s some.0 in
    let names = choices_of m s in
    let places = placed m s set 0 names (λ i x e. place_found names i x t.choices.names.different e ∙ ap (λ k. Some k) (let e : i ≡ 0 + i = omega arith in e)) in
    let all = gathered m s set 0 names 0 places (λ i. has-empty i ∙ ap (λ b. b && has set i) (sym (le-ltb i 0 (omega arith)))) in
    record {
      some = some.1;
      name = t.name;
      subject = t.subject;
      named = all_names m s set 0 names t.choices.names.each;
      known = none_lost m s set 0 names places;
      once = none_twice m s set 0 names t.choices.names.different;
      gives = same_set _ set (λ i. all i ∙ within_only set (0 + length names) i (let e : 0 + length names ≡ n = let c = t.count in omega (arith, c) in rw e some.2));
    }
