-- What keys that pass all tests stand for.
use Rattle.std.proofs.Common.{◌≡◌, ℕ, suc, ◌<◌, Bool, true, false, not, ◌&&◌, eqb, ltb, List, [], ◌∷◌, length, Option, Some, None, refl, sym, ◌∙◌, ap, arith, filter, Vec, Global, All, Contains, eq-eqb, lt-ltb}
use Rattle.std.specs.Option.{is_some}
use Rattle.std.specs.List.{list_all, list_any, AllByRecursion}
use Rattle.std.specs.List.Sorted.{IsStrictlySortedBy}
use Rattle.std.specs.Cmp.Lexicographic.{slice_cmp}
use Rattle.std.specs.Ordering.{nat_cmp, ordering_then}
use Rattle.std.specs.declared.cmp.Ordering.{Ordering}
use Rattle.std.specs.declared.cmp.Ordering.TheVariants.{Less, Equal, Greater}
use Rattle.std.proofs.lemmas.List.Kept.{AllPairs-cons}
use Rattle.std.proofs.lemmas.List.Elements.{All-cons}
use Rattle.std.proofs.lemmas.Bool.{and_parts, eqb-true, ltb-true, not-true}
use Rattle.list_laws.proofs.Passing.{some_passes, passes_some, each_passes}
use Rattle.list_laws.proofs.Members.{all_from, contains_here, contains_there}
use Rattle.cca_base.specs.declared.cube.Pair.{Pair}
use Rattle.cca_base.specs.Cube.{IsBeforeCube, AreInCubeOrder, cube_cmp, pair_cmp}
use Rattle.prime_implicants.specs.Partial.{IsWithin}
use Rattle.prime_implicants.specs.DenseClauses.{all_unfalsified}
use Rattle.prime_implicants.proofs.DenseClauseLaws.{length-within}
use Rattle.prime_implicants.specs.Found.{IsFoundable, all_below, is_needed, Key, key_from, key_of, all_keys, pairs_listed, pairs_of_key, cubes_of_keys, AreOrdered}
use Rattle.prime_implicants.proofs.PartialPairs.{pair_of, given_pairs, values_in, length-values_in, matches_values, matches_given, rising_given, rising_agree, partial_same, some_inside}

-- ---- a key and its pairs

pairs_listed-key_from : (k : ℕ) (q : List (Option ℕ)) → pairs_listed (key_from k q) ≡ given_pairs k q
pairs_listed-key_from k [] = refl
pairs_listed-key_from k (None ∷ q) = pairs_listed-key_from (suc k) q
pairs_listed-key_from k (Some v ∷ q) = ap (λ z. pair_of k v ∷ z) (pairs_listed-key_from (suc k) q)

pub pairs_of_key-key_of : (q : List (Option ℕ)) → pairs_of_key (key_of q) ≡ given_pairs 0 q
pairs_of_key-key_of q = pairs_listed-key_from 0 q

count-given_pairs : (k : ℕ) (q : List (Option ℕ)) → length (filter (λ o. is_some o) q) ≡ length (given_pairs k q)
count-given_pairs k [] = refl
count-given_pairs k (None ∷ q) = count-given_pairs (suc k) q
count-given_pairs k (Some v ∷ q) = ap suc (count-given_pairs (suc k) q)

-- ---- a test that finds a key's partial value

within_test : List ℕ → List (Option ℕ) → Bool
within_test [] [] = true
within_test [] (o ∷ q) = false
within_test (n ∷ sizes) [] = false
within_test (n ∷ sizes) (None ∷ q) = within_test sizes q
within_test (n ∷ sizes) (Some v ∷ q) = ltb v n && within_test sizes q

passes_within : (sizes : List ℕ) (q : List (Option ℕ)) → IsWithin sizes q → within_test sizes q ≡ true
unfolding within_test
passes_within [] [] w = refl
passes_within [] (o ∷ q) w = absurd w
passes_within (n ∷ sizes) [] w = absurd w
passes_within (n ∷ sizes) (None ∷ q) w = passes_within sizes q w.1
passes_within (n ∷ sizes) (Some v ∷ q) w = rw (lt-ltb v n w.0, passes_within sizes q w.1)

is_within : (sizes : List ℕ) (q : List (Option ℕ)) → within_test sizes q ≡ true → IsWithin sizes q
unfolding within_test
is_within [] [] e = tt
is_within [] (o ∷ q) e = absurd (cc)
is_within (n ∷ sizes) [] e = absurd (cc)
is_within (n ∷ sizes) (None ∷ q) e = (tt, is_within sizes q e)
is_within (n ∷ sizes) (Some v ∷ q) e = let parts = and_parts (ltb v n) (within_test sizes q) e in (ltb-true v n parts.0, is_within sizes q parts.1)

same_numbers : List ℕ → List ℕ → Bool
same_numbers [] [] = true
same_numbers [] (y ∷ ys) = false
same_numbers (x ∷ xs) [] = false
same_numbers (x ∷ xs) (y ∷ ys) = eqb x y && same_numbers xs ys

same_numbers-self : (xs : List ℕ) → same_numbers xs xs ≡ true
unfolding same_numbers
same_numbers-self [] = refl
same_numbers-self (x ∷ xs) = rw (eq-eqb x x refl, same_numbers-self xs)

numbers_same : (xs ys : List ℕ) → same_numbers xs ys ≡ true → xs ≡ ys
unfolding same_numbers
numbers_same [] [] e = refl
numbers_same [] (y ∷ ys) e = absurd (cc)
numbers_same (x ∷ xs) [] e = absurd (cc)
numbers_same (x ∷ xs) (y ∷ ys) e =
    let parts = and_parts (eqb x y) (same_numbers xs ys) e in
    let first : x ≡ y = eqb-true x y parts.0 in
    let rest : xs ≡ ys = numbers_same xs ys parts.1 in cc

-- the partial value of a key
again : List ℕ → List ℕ → List (Option ℕ)
again sizes key = values_in 0 (length sizes) (pairs_of_key key)

found_test : List ℕ → List (List ℕ) → List ℕ → Bool
found_test sizes rows key =
    let q = again sizes key in
    (within_test sizes q && not (all_unfalsified q rows)) && (all_below (length q) (is_needed rows q) && same_numbers (key_of q) key)

again-key_of : (sizes : List ℕ) (q : List (Option ℕ)) → length q ≡ length sizes → again sizes (key_of q) ≡ q
unfolding again
again-key_of sizes q e =
    let n = length sizes in
    let ps = given_pairs 0 q in
    let k = matches_given q in
    let within = all_from (λ p. p.item < n) ps (λ p h. let inside : p.item < length q = some_inside q p.item p.value ((k p).0 h) in omega arith) in
    let m = matches_values n ps (rising_agree ps (rising_given 0 q)) within in
    ap (values_in 0 n) (pairs_of_key-key_of q)
    ∙ partial_same (values_in 0 n ps) q (length-values_in 0 n ps ∙ sym e) (λ i v h. (k (pair_of i v)).0 ((m (pair_of i v)).1 h)) (λ i v h. (m (pair_of i v)).0 ((k (pair_of i v)).1 h))

passes : (sizes : List ℕ) (rows : List (List ℕ)) (q : List (Option ℕ)) → IsFoundable sizes rows q → found_test sizes rows (key_of q) ≡ true
unfolding found_test
passes sizes rows q f =
    let same : again sizes (key_of q) ≡ q = again-key_of sizes q (length-within sizes q f.within) in
    rw same (rw (passes_within sizes q f.within, f.refuted, f.minimal, same_numbers-self (key_of q)))

-- the partial value that a key stands for
abbrev pub StandsFor : List ℕ → List (List ℕ) → List ℕ → Type 0
StandsFor sizes rows key = (q : List (Option ℕ)) × IsFoundable sizes rows q × (key ≡ key_of q)

found : (sizes : List ℕ) (rows : List (List ℕ)) (key : List ℕ) → found_test sizes rows key ≡ true → StandsFor sizes rows key
unfolding found_test
found sizes rows key e =
    let q = again sizes key in
    let parts = and_parts (within_test sizes q && not (all_unfalsified q rows)) (all_below (length q) (is_needed rows q) && same_numbers (key_of q) key) e in
    let first = and_parts (within_test sizes q) (not (all_unfalsified q rows)) parts.0 in
    let second = and_parts (all_below (length q) (is_needed rows q)) (same_numbers (key_of q) key) parts.1 in
    (q, record { within = is_within sizes q first.0; refuted = not-true (all_unfalsified q rows) first.1; minimal = second.0 }, sym (numbers_same (key_of q) key second.1))

-- ---- keys of which every test that the tests find passes

pub each_stands : (sizes : List ℕ) (rows : List (List ℕ)) (keys : List (Vec ℕ Global))
    → ((t : Key → Bool) → ((p : List (Option ℕ)) → IsFoundable sizes rows p → t (key_of p) ≡ true) → all_keys t keys ≡ true)
    → (k : Vec ℕ Global) → Contains keys k → StandsFor sizes rows k.items
each_stands sizes rows keys sound k m =
    found sizes rows k.items (each_passes (λ z. found_test sizes rows z.items) keys k (sound (found_test sizes rows) (passes sizes rows)) m)

pub list_all_if : {X : Type 0} (t : X → Bool) (xs : List X) → ((x : X) → Contains xs x → t x ≡ true) → list_all t xs ≡ true
list_all_if t [] f = refl
list_all_if t (x ∷ xs) f = rw (f x (contains_here x x xs refl), list_all_if t xs (λ y m. f y (contains_there x y xs m)))

-- what passes each test that all keys pass is one of the keys
pub is_a_key : (keys : List (Vec ℕ Global)) (key : List ℕ) → ((t : Key → Bool) → all_keys t keys ≡ true → t key ≡ true) → (k : Vec ℕ Global) × Contains keys k × (k.items ≡ key)
is_a_key keys key f =
    let t : List ℕ → Bool = λ z. list_any (λ k. same_numbers k.items z) keys in
    let all : all_keys t keys ≡ true = list_all_if (λ z. t z.items) keys (λ z m. some_passes (λ k. same_numbers k.items z.items) keys z m (same_numbers-self z.items)) in
    let r = passes_some (λ k. same_numbers k.items key) keys (f t all) in
    (r.0, r.1, numbers_same r.0.items key r.2)

-- ---- the order of keys is that of cubes

flat : List Pair → List ℕ
flat [] = []
flat (p ∷ ps) = p.item ∷ p.value ∷ flat ps

flat-given : (k : ℕ) (q : List (Option ℕ)) → key_from k q ≡ flat (given_pairs k q)
unfolding flat
flat-given k [] = refl
flat-given k (None ∷ q) = flat-given (suc k) q
flat-given k (Some v ∷ q) = ap (λ z. k ∷ v ∷ z) (flat-given (suc k) q)

then_then : (a b c : Ordering) → ordering_then a (ordering_then b c) ≡ ordering_then (ordering_then a b) c
then_then Less b c = refl
then_then Equal b c = refl
then_then Greater b c = refl

cmp-flat : (a b : List Pair) → slice_cmp nat_cmp (flat a) (flat b) ≡ slice_cmp pair_cmp a b
unfolding flat
cmp-flat [] [] = refl
cmp-flat [] (p ∷ b) = refl
cmp-flat (p ∷ a) [] = refl
cmp-flat (p ∷ a) (r ∷ b) =
    then_then (nat_cmp p.item r.item) (nat_cmp p.value r.value) (slice_cmp nat_cmp (flat a) (flat b))
    ∙ ap (ordering_then (pair_cmp p r)) (cmp-flat a b)

cmp-key_of : (p q : List (Option ℕ)) → slice_cmp nat_cmp (key_of p) (key_of q) ≡ cube_cmp (given_pairs 0 p) (given_pairs 0 q)
cmp-key_of p q =
    ap (λ n. ordering_then (nat_cmp n (length (filter (λ o. is_some o) q))) (slice_cmp nat_cmp (key_from 0 p) (key_from 0 q))) (count-given_pairs 0 p)
    ∙ ap (λ n. ordering_then (nat_cmp (length (given_pairs 0 p)) n) (slice_cmp nat_cmp (key_from 0 p) (key_from 0 q))) (count-given_pairs 0 q)
    ∙ ap (λ z. ordering_then (nat_cmp (length (given_pairs 0 p)) (length (given_pairs 0 q))) (slice_cmp nat_cmp z (key_from 0 q))) (flat-given 0 p)
    ∙ ap (λ z. ordering_then (nat_cmp (length (given_pairs 0 p)) (length (given_pairs 0 q))) (slice_cmp nat_cmp (flat (given_pairs 0 p)) z)) (flat-given 0 q)
    ∙ ap (ordering_then (nat_cmp (length (given_pairs 0 p)) (length (given_pairs 0 q)))) (cmp-flat (given_pairs 0 p) (given_pairs 0 q))

cmp-keys : (sizes : List ℕ) (rows : List (List ℕ)) (a b : List ℕ) → StandsFor sizes rows a → StandsFor sizes rows b → slice_cmp nat_cmp a b ≡ cube_cmp (pairs_of_key a) (pairs_of_key b)
cmp-keys sizes rows a b s t =
    ap (λ z. slice_cmp nat_cmp z b) s.2 ∙ ap (λ z. slice_cmp nat_cmp (key_of s.0) z) t.2 ∙ cmp-key_of s.0 t.0
    ∙ ap (λ z. cube_cmp z (given_pairs 0 t.0)) (sym (ap pairs_of_key s.2 ∙ pairs_of_key-key_of s.0))
    ∙ ap (λ z. cube_cmp (pairs_of_key a) z) (sym (ap pairs_of_key t.2 ∙ pairs_of_key-key_of t.0))

all_before : (sizes : List ℕ) (rows : List (List ℕ)) (k : Vec ℕ Global) (keys : List (Vec ℕ Global)) → StandsFor sizes rows k.items
    → ((z : Vec ℕ Global) → Contains keys z → StandsFor sizes rows z.items) → AllByRecursion (λ z. slice_cmp nat_cmp k.items z.items ≡ Less) keys
    → All (IsBeforeCube (pairs_of_key k.items)) (cubes_of_keys keys)
all_before sizes rows k [] s f up = λ i d l. absurd (omega arith)
all_before sizes rows k (z ∷ keys) s f up =
    All-cons (IsBeforeCube (pairs_of_key k.items)) (pairs_of_key z.items) (cubes_of_keys keys)
    (sym (cmp-keys sizes rows k.items z.items s (f z (contains_here z z keys refl))) ∙ up.0)
    (all_before sizes rows k keys s (λ y m. f y (contains_there z y keys m)) up.1)

pub in_order : (sizes : List ℕ) (rows : List (List ℕ)) (keys : List (Vec ℕ Global)) → AreOrdered keys
    → ((z : Vec ℕ Global) → Contains keys z → StandsFor sizes rows z.items) → AreInCubeOrder (cubes_of_keys keys)
unfolding IsStrictlySortedBy
in_order sizes rows [] up f = λ i j d before l. absurd (omega arith)
in_order sizes rows (k ∷ keys) up f =
    AllPairs-cons IsBeforeCube (pairs_of_key k.items) (cubes_of_keys keys)
    (all_before sizes rows k keys (f k (contains_here k k keys refl)) (λ y m. f y (contains_there k y keys m)) up.0)
    (in_order sizes rows keys up.1 (λ y m. f y (contains_there k y keys m)))
