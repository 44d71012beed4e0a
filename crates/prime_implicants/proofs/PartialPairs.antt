-- Partial values as the pairs of subjects with their values.
use Rattle.std.proofs.Common.{◌≡◌, ℕ, zero, suc, ◌+◌, ◌<◌, ◌≤◌, Bool, true, false, cond, eqb, List, [], ◌∷◌, length, Option, Some, None, refl, sym, ◌∙◌, ap, subst, arith, get_or, ◌⊎◌, inl, inr, eq-eqb, All, Contains, slice_get, ◌↔◌}
use Rattle.std.specs.Prelude.{MatchOption}
use Rattle.std.proofs.lemmas.List.Kept.{AllPairs-cons}
use Rattle.std.proofs.lemmas.List.{get_or_past}
use Rattle.std.proofs.lemmas.Bool.{eqb-true, cases_lt}
use Rattle.std.proofs.lemmas.List.Elements.{All-contains}
use Rattle.std.proofs.lemmas.Option.{same_Some}
use Rattle.cca_base.specs.declared.cube.Pair.{Pair}
use Rattle.cca_base.specs.Cube.{IsRising}
use Rattle.cca_base.specs.State.{Extends}
use Rattle.list_laws.proofs.Pairwise.{AllPairs-head, AllPairs-tail}
use Rattle.list_laws.proofs.Members.{all_from, contains_cases, contains_here, contains_there, contains_none}
use Rattle.prime_implicants.specs.Partial.{IsWithin, given}
use Rattle.prime_implicants.specs.Found.{Covers, CoversAt}

-- the pair of a subject and its value
abbrev pub pair_of : ℕ → ℕ → Pair
pair_of i v = record { item = i; value = v }

-- ---- the pairs of a partial value

-- each subject from k on that has a value, with its value
abbrev pub given_pairs : ℕ → List (Option ℕ) → List Pair
given_pairs k [] = []
given_pairs k (None ∷ q) = given_pairs (suc k) q
given_pairs k (Some v ∷ q) = record { item = k; value = v } ∷ given_pairs (suc k) q

-- the cube has a pair exactly where the subject has the value
abbrev pub Matches : List (Option ℕ) → List Pair → Type 0
Matches q cube = (p : Pair) → Contains cube p ↔ (get_or q p.item None ≡ Some p.value)

nothing_there : (v : ℕ) → let a : Option ℕ = None in let b : Option ℕ = Some v in a ≡ b → ⊥
nothing_there v e = cc

to_given : (k i : ℕ) (q : List (Option ℕ)) (p : Pair) → p.item ≡ k + i → get_or q i None ≡ Some p.value → Contains (given_pairs k q) p
to_given k i [] p e h = absurd (nothing_there p.value h)
to_given k zero (None ∷ q) p e h = absurd (nothing_there p.value h)
to_given k (suc i) (None ∷ q) p e h = to_given (suc k) i q p (omega arith) h
to_given k zero (Some v ∷ q) p e h =
    let item : k ≡ p.item = omega arith in
    contains_here (pair_of k v) p (given_pairs (suc k) q) (λ d. record { item = item d; value = same_Some v p.value h d })
to_given k (suc i) (Some v ∷ q) p e h = contains_there (pair_of k v) p (given_pairs (suc k) q) (to_given (suc k) i q p (omega arith) h)

of_given : (k : ℕ) (q : List (Option ℕ)) (p : Pair) → Contains (given_pairs k q) p → (i : ℕ) × (p.item ≡ k + i) × (get_or q i None ≡ Some p.value)
of_given k [] p m = absurd (contains_none p m)
of_given k (None ∷ q) p m = let r = of_given (suc k) q p m in (suc r.0, omega (arith, r.1), r.2)
of_given k (Some v ∷ q) p m = elim (contains_cases (pair_of k v) p (given_pairs (suc k) q) m) [
  | inl e ↦ (zero, omega (arith, ap (λ r. r.item) e), ap (λ r. Some r.value) e)
  | inr there ↦ let r = of_given (suc k) q p there in (suc r.0, omega (arith, r.1), r.2)
]

pub matches_given : (q : List (Option ℕ)) → Matches q (given_pairs 0 q)
matches_given q p = (
  (λ m. let r = of_given 0 q p m in let e : r.0 ≡ p.item = omega (arith, r.1) in subst (λ i. get_or q i None ≡ Some p.value) e r.2),
  (λ h. to_given 0 p.item q p (omega arith) h),
)

from_given : (k : ℕ) (q : List (Option ℕ)) (p : Pair) → Contains (given_pairs k q) p → k ≤ p.item
from_given k q p m = let r = of_given k q p m in omega (arith, r.1)

pub rising_given : (k : ℕ) (q : List (Option ℕ)) → IsRising (given_pairs k q)
rising_given k [] = λ i j d before within. absurd (omega arith)
rising_given k (None ∷ q) = rising_given (suc k) q
rising_given k (Some v ∷ q) = AllPairs-cons (λ p r. p.item < r.item) (pair_of k v) (given_pairs (suc k) q)
    (all_from (λ r. k < r.item) (given_pairs (suc k) q) (λ r m. from_given (suc k) q r m)) (rising_given (suc k) q)

-- ---- a partial value of pairs

-- the value of the first pair of the subject
abbrev pub value_in : ℕ → List Pair → Option ℕ
value_in i [] = None
value_in i (p ∷ ps) = cond (eqb p.item i) (Some p.value) (value_in i ps)

-- the values of so many subjects from k on
abbrev pub values_in : ℕ → ℕ → List Pair → List (Option ℕ)
values_in k zero ps = []
values_in k (suc n) ps = value_in k ps ∷ values_in (suc k) n ps

pub length-values_in : (k n : ℕ) (ps : List Pair) → length (values_in k n ps) ≡ n
length-values_in k zero ps = refl
length-values_in k (suc n) ps = ap suc (length-values_in (suc k) n ps)

get-values_in : (k n i : ℕ) (ps : List Pair) → i < n → get_or (values_in k n ps) i None ≡ value_in (k + i) ps
get-values_in k zero i ps h = absurd (omega arith)
get-values_in k (suc n) zero ps h = ap (λ z. value_in z ps) (omega arith)
get-values_in k (suc n) (suc i) ps h = get-values_in (suc k) n i ps (omega arith) ∙ ap (λ z. value_in z ps) (omega arith)

in_case : (i v : ℕ) (p : Pair) (ps : List Pair) (b : Bool) → eqb p.item i ≡ b → cond b (Some p.value) (value_in i ps) ≡ Some v
    → (value_in i ps ≡ Some v → Contains ps (pair_of i v)) → Contains (p ∷ ps) (pair_of i v)
in_case i v p ps true e h f = let item = eqb-true p.item i e in contains_here p (pair_of i v) ps (λ d. record { item = item d; value = same_Some p.value v h d })
in_case i v p ps false e h f = contains_there p (pair_of i v) ps (f h)

in_pairs : (i v : ℕ) (ps : List Pair) → value_in i ps ≡ Some v → Contains ps (pair_of i v)
in_pairs i v [] h = absurd (nothing_there v h)
in_pairs i v (p ∷ ps) h = in_case i v p ps (eqb p.item i) refl h (in_pairs i v ps)

some_case : (p r : Pair) (ps : List Pair) (b : Bool) → eqb p.item r.item ≡ b → (p ≡ r) ⊎ ((v : ℕ) × (value_in r.item ps ≡ Some v)) → (v : ℕ) × (cond b (Some p.value) (value_in r.item ps) ≡ Some v)
some_case p r ps true e c = (p.value, refl)
some_case p r ps false e (inr c) = c
some_case p r ps false e (inl s) = let same : eqb p.item r.item ≡ true = eq-eqb p.item r.item (ap (λ z. z.item) s) in cc

has_value : (r : Pair) (ps : List Pair) → Contains ps r → (v : ℕ) × (value_in r.item ps ≡ Some v)
has_value r [] m = absurd (contains_none r m)
has_value r (p ∷ ps) m = elim (contains_cases p r ps m) [
  | inl e ↦ some_case p r ps (eqb p.item r.item) refl (inl e)
  | inr there ↦ some_case p r ps (eqb p.item r.item) refl (inr (has_value r ps there))
]

-- pairs of which each subject has one value at most
abbrev pub AgreeInPairs : List Pair → Type 0
AgreeInPairs ps = (i v w : ℕ) → Contains ps (record { item = i; value = v }) → Contains ps (record { item = i; value = w }) → v ≡ w

value_of_pair : (ps : List Pair) (r : Pair) → AgreeInPairs ps → Contains ps r → value_in r.item ps ≡ Some r.value
value_of_pair ps r one m =
    let s = has_value r ps m in
    s.1 ∙ ap (λ v. Some v) (one r.item s.0 r.value (in_pairs r.item s.0 ps s.1) m)

pub some_inside : (q : List (Option ℕ)) (i v : ℕ) → get_or q i None ≡ Some v → i < length q
some_inside q i v h = elim (cases_lt i (length q)) [ inl l ↦ l | inr past ↦ absurd (nothing_there v (sym (get_or_past q i None past) ∙ h)) ]

pub matches_values : (n : ℕ) (ps : List Pair) → AgreeInPairs ps → All (λ p. p.item < n) ps → Matches (values_in 0 n ps) ps
matches_values n ps one within p = (
  (λ m. let inside : p.item < n = All-contains (λ r. r.item < n) ps p within m in get-values_in 0 n p.item ps inside ∙ ap (λ z. value_in z ps) (omega arith) ∙ value_of_pair ps p one m),
  (λ h. elim (cases_lt p.item n) [
    | inl inside ↦ in_pairs p.item p.value ps (ap (λ z. value_in z ps) (omega arith) ∙ sym (get-values_in 0 n p.item ps inside) ∙ h)
    | inr past ↦ absurd (nothing_there p.value (sym (get_or_past (values_in 0 n ps) p.item None (omega (arith, length-values_in 0 n ps))) ∙ h))
  ]),
)

-- ---- rising cubes

rising_case : (x y p r : Pair) (xs : List Pair) → All (λ z. x.item < z.item) xs → Contains (x ∷ xs) p → Contains (x ∷ xs) r → p.item ≡ r.item
    → (Contains xs p → Contains xs r → p ≡ r) → p ≡ r
rising_case x y p r xs first m n e ih = elim (contains_cases x p xs m) [
  | inl xp ↦ elim (contains_cases x r xs n) [
    | inl xr ↦ sym xp ∙ xr
    | inr there ↦ let less : x.item < r.item = All-contains (λ z. x.item < z.item) xs r first there in absurd (omega (arith, ap (λ z. z.item) xp, e))
  ]
  | inr there ↦ elim (contains_cases x r xs n) [
    | inl xr ↦ let less : x.item < p.item = All-contains (λ z. x.item < z.item) xs p first there in absurd (omega (arith, ap (λ z. z.item) xr, e))
    | inr also ↦ ih there also
  ]
]

-- the pairs of a rising cube are told apart by their subjects
pub one_of_each : (ps : List Pair) (p r : Pair) → IsRising ps → Contains ps p → Contains ps r → p.item ≡ r.item → p ≡ r
one_of_each [] p r up m n e = absurd (contains_none p m)
one_of_each (x ∷ ps) p r up m n e =
    rising_case x x p r ps (AllPairs-head (λ a b. a.item < b.item) x ps up) m n e (λ t u. one_of_each ps p r (AllPairs-tail (λ a b. a.item < b.item) x ps up) t u e)

pub rising_agree : (ps : List Pair) → IsRising ps → AgreeInPairs ps
rising_agree ps up i v w m n = ap (λ p. p.value) (one_of_each ps (pair_of i v) (pair_of i w) up m n refl)

first_same : (p r : Pair) (ps rs : List Pair) → IsRising (p ∷ ps) → IsRising (r ∷ rs) → Contains (r ∷ rs) p → Contains (p ∷ ps) r → p ≡ r
first_same p r ps rs up rise m n = elim (contains_cases r p rs m) [
  | inl e ↦ sym e
  | inr there ↦ elim (contains_cases p r ps n) [
    | inl e ↦ e
    | inr also ↦
        let less : r.item < p.item = All-contains (λ z. r.item < z.item) rs p (AllPairs-head (λ a b. a.item < b.item) r rs rise) there in
        let more : p.item < r.item = All-contains (λ z. p.item < z.item) ps r (AllPairs-head (λ a b. a.item < b.item) p ps up) also in
        absurd (omega arith)
  ]
]

rest_same : (p r s : Pair) (ps rs : List Pair) → IsRising (p ∷ ps) → p ≡ r → Contains ps s → Contains (r ∷ rs) s → Contains rs s
rest_same p r s ps rs up same m n = elim (contains_cases r s rs n) [
  | inl e ↦
      let less : p.item < s.item = All-contains (λ z. p.item < z.item) ps s (AllPairs-head (λ a b. a.item < b.item) p ps up) m in
      absurd (omega (arith, ap (λ z. z.item) (same ∙ e)))
  | inr there ↦ there
]

-- two rising cubes of the same pairs are one
pub rising_same : (ps rs : List Pair) → IsRising ps → IsRising rs → ((p : Pair) → Contains ps p → Contains rs p) → ((p : Pair) → Contains rs p → Contains ps p) → ps ≡ rs
rising_same [] [] up rise to of = refl
rising_same [] (r ∷ rs) up rise to of = absurd (contains_none r (of r (contains_here r r rs refl)))
rising_same (p ∷ ps) [] up rise to of = absurd (contains_none p (to p (contains_here p p ps refl)))
rising_same (p ∷ ps) (r ∷ rs) up rise to of =
    let first : p ≡ r = first_same p r ps rs up rise (to p (contains_here p p ps refl)) (of r (contains_here r r rs refl)) in
    let rest : ps ≡ rs = rising_same ps rs (AllPairs-tail (λ a b. a.item < b.item) p ps up) (AllPairs-tail (λ a b. a.item < b.item) r rs rise)
    (λ s m. rest_same p r s ps rs up first m (to s (contains_there p s ps m)))
    (λ s m. rest_same r p s rs ps rise (sym first) m (of s (contains_there r s rs m))) in
    cc

-- ---- what extends a cube

slice_get-given : (xs : List ℕ) (i : ℕ) → slice_get xs i ≡ get_or (given xs) i None
slice_get-given [] i = refl
slice_get-given (x ∷ xs) zero = refl
slice_get-given (x ∷ xs) (suc i) = slice_get-given xs i

covers_one : (o : Option ℕ) (b : Option ℕ) → ((v : ℕ) → b ≡ Some v → o ≡ Some v) → CoversAt o b
covers_one o None f = tt
covers_one o (Some v) f = f v refl

pub covers_if : (a q : List (Option ℕ)) → length a ≡ length q → ((i v : ℕ) → get_or q i None ≡ Some v → get_or a i None ≡ Some v) → Covers a q
covers_if [] [] e f = tt
covers_if [] (o ∷ q) e f = absurd (omega arith)
covers_if (o ∷ a) [] e f = absurd (omega arith)
covers_if (o ∷ a) (b ∷ q) e f = let l : length a ≡ length q = omega arith in (covers_one o b (λ v h. f 0 v h), covers_if a q l (λ i v h. f (suc i) v h))

has_one : (o b : Option ℕ) (v : ℕ) → CoversAt o b → b ≡ Some v → o ≡ Some v
has_one o None v c e = absurd (nothing_there v e)
has_one o (Some w) v c e = c ∙ e

pub covers_value : (a q : List (Option ℕ)) (i v : ℕ) → Covers a q → get_or q i None ≡ Some v → get_or a i None ≡ Some v
covers_value [] [] i v c e = e
covers_value [] (o ∷ q) i v c e = absurd c
covers_value (o ∷ a) [] i v c e = absurd c
covers_value (o ∷ a) (b ∷ q) zero v c e = has_one o b v c.0 e
covers_value (o ∷ a) (b ∷ q) (suc i) v c e = covers_value a q i v c.1 e

pub to_extends : (xs : List ℕ) (q : List (Option ℕ)) (cube : List Pair) → Matches q cube → Covers (given xs) q → Extends xs cube
to_extends xs q cube m c = all_from (λ p. slice_get xs p.item ≡ Some p.value) cube (λ p h. slice_get-given xs p.item ∙ covers_value (given xs) q p.item p.value c ((m p).0 h))

pub of_extends : (xs : List ℕ) (q : List (Option ℕ)) (cube : List Pair) → Matches q cube → length (given xs) ≡ length q → Extends xs cube → Covers (given xs) q
of_extends xs q cube m e x = covers_if (given xs) q e
    (λ i v h. sym (slice_get-given xs i) ∙ All-contains (λ p. slice_get xs p.item ≡ Some p.value) cube (pair_of i v) x ((m (pair_of i v)).1 h))

-- ---- two partial values with the same values are one

option_same : (o b : Option ℕ) → ((v : ℕ) → o ≡ Some v → b ≡ Some v) → ((v : ℕ) → b ≡ Some v → o ≡ Some v) → o ≡ b
option_same None None f g = refl
option_same None (Some v) f g = g v refl
option_same (Some v) b f g = sym (f v refl)

pub partial_same : (p q : List (Option ℕ)) → length p ≡ length q → ((i v : ℕ) → get_or p i None ≡ Some v → get_or q i None ≡ Some v)
    → ((i v : ℕ) → get_or q i None ≡ Some v → get_or p i None ≡ Some v) → p ≡ q
partial_same [] [] e f g = refl
partial_same [] (o ∷ q) e f g = absurd (omega arith)
partial_same (o ∷ p) [] e f g = absurd (omega arith)
partial_same (o ∷ p) (b ∷ q) e f g =
    let l : length p ≡ length q = omega arith in
    let first : o ≡ b = option_same o b (λ v h. f 0 v h) (λ v h. g 0 v h) in
    let rest : p ≡ q = partial_same p q l (λ i v h. f (suc i) v h) (λ i v h. g (suc i) v h) in
    cc

within_one : (o : Option ℕ) (n : ℕ) → ((v : ℕ) → o ≡ Some v → v < n) → MatchOption o (Unit {0}) (λ v. v < n)
within_one None n f = tt
within_one (Some v) n f = f v refl

pub within_if : (sizes : List ℕ) (q : List (Option ℕ)) → length q ≡ length sizes → ((i v : ℕ) → get_or q i None ≡ Some v → v < get_or sizes i 0) → IsWithin sizes q
within_if [] [] e f = tt
within_if [] (o ∷ q) e f = absurd (omega arith)
within_if (n ∷ sizes) [] e f = absurd (omega arith)
within_if (n ∷ sizes) (o ∷ q) e f = let l : length q ≡ length sizes = omega arith in (within_one o n (λ v h. f 0 v h), within_if sizes q l (λ i v h. f (suc i) v h))
