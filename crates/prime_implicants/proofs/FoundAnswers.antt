-- What the found keys say of the clauses.
use Rattle.std.proofs.Common.{◌≡◌, ℕ, suc, ◌+◌, ◌<◌, ◌≤◌, Bool, true, false, ◌&&◌, ◌||◌, leb, ltb, List, [], ◌∷◌, length, Option, Some, None, refl, sym, ◌∙◌, ap, subst, arith, get_or, set, map, Vec, Global, All, Contains, inl, inr, lt-ltb, le-leb}
use Rattle.std.specs.List.{list_all}
use Rattle.std.specs.Option.{is_none}
use Rattle.std.proofs.lemmas.List.Folds.{list_all_at}
use Rattle.cca_base.specs.declared.limits.TheConstants.{MAX_ROWS, MAX_CHOICES}
use Rattle.std.proofs.lemmas.Bool.{and_parts, eqb-true, cases_lt}
use Rattle.list_laws.proofs.Places.{place_inside}
use Rattle.list_laws.proofs.Elements.{contains_map}
use Rattle.list_laws.proofs.Members.{all_from, contains_cases, contains_here, contains_there, contains_none}
use Rattle.cca_base.specs.declared.cube.Pair.{Pair}
use Rattle.clause_form.specs.declared.clause.Clauses.{Clauses}
use Rattle.prime_implicants.specs.DenseClauses.{all_unfalsified, row_unfalsified, is_zero}
use Rattle.prime_implicants.proofs.DenseClauseLaws.{list_all_get}
use Rattle.prime_implicants.specs.Found.{AreComplete, IsFoundable, is_needed, Key, key_from, key_of, all_keys, pairs_of_key, are_listed_from, is_proper, cubes_of_keys, AreOrdered, AreMany}
use Rattle.prime_implicants.specs.Primes.{IsPrime, AreAllPrimes, AreMorePrimes}
use Rattle.prime_implicants.proofs.FalsifyingChoices.{prime_if, found_if, below_size, passes_below, find_false, row_unfalsified-drop}
use Rattle.prime_implicants.proofs.PartialPairs.{values_in, some_inside}
use Rattle.prime_implicants.proofs.PrimeCubes.{AreRowsOf, cube_is_prime, partial_is_prime, cube_again}
use Rattle.cca_base.proofs.Counting.{not_among_fewer}
use Rattle.prime_implicants.proofs.ListedPairs.{most_true}
use Rattle.prime_implicants.proofs.FoundKeys.{StandsFor, each_stands, is_a_key, in_order, pairs_of_key-key_of}

-- ---- keys of cubes are in the range of their types

unneeded : (o : Option ℕ) (v : ℕ) (free : Bool) → o ≡ Some v → (is_none o || free) ≡ true → free ≡ true
unneeded None v free e h = cc
unneeded (Some w) v free e h = h

-- a value is only needed where some row names the subject
named : (sizes : List ℕ) (rows : List (List ℕ)) (q : List (Option ℕ)) (i v : ℕ) → IsFoundable sizes rows q → list_all (is_zero i) rows ≡ true → get_or q i None ≡ Some v → ⊥
named sizes rows q i v f z h =
    let free : all_unfalsified (set q i None) rows ≡ true =
    unneeded (get_or q i None) v (all_unfalsified (set q i None) rows) h (passes_below (length q) (is_needed rows q) i (some_inside q i v h) f.minimal) in
    let r = find_false (row_unfalsified q) rows [] f.refuted in
    let none = eqb-true _ 0 (list_all_get (is_zero i) rows r.0 [] r.1 z) in
    let shut : all_unfalsified (set q i None) rows ≡ false = list_all_at (row_unfalsified (set q i None)) rows r.0 [] r.1 (row_unfalsified-drop q (get_or rows r.0 []) i none r.2) in
    cc

weaker_test : (k i : ℕ) (a b : Bool) → ((leb (suc k) i && a) && b) ≡ true → ((leb k i && a) && b) ≡ true
weaker_test k i a b e =
    let p = and_parts (leb (suc k) i && a) b e in
    let q = and_parts (leb (suc k) i) a p.0 in
    let less : suc k ≤ i = most_true (suc k) i q.0 in
    rw (le-leb k i (omega arith), q.1, p.1)

weaker : (k : ℕ) (key : List ℕ) → are_listed_from (suc k) key ≡ true → are_listed_from k key ≡ true
weaker k [] e = refl
weaker k (i ∷ []) e = e
weaker k (i ∷ v ∷ rest) e = weaker_test k i (ltb i MAX_ROWS) (ltb v 256 && are_listed_from (suc i) rest) e

listed : (k : ℕ) (q : List (Option ℕ)) → ((i v : ℕ) → get_or q i None ≡ Some v → (k + i < MAX_ROWS) × (v < 256)) → are_listed_from k (key_from k q) ≡ true
listed k [] f = refl
listed k (None ∷ q) f = weaker k (key_from (suc k) q) (listed (suc k) q (λ i v h. let g = f (suc i) v h in (omega (arith, g.0), g.1)))
listed k (Some v ∷ q) f =
    let g = f 0 v refl in
    rw (le-leb k k (omega arith), lt-ltb k MAX_ROWS (omega (arith, g.0)), lt-ltb v 256 g.1)
    (listed (suc k) q (λ i v h. let g = f (suc i) v h in (omega (arith, g.0), g.1)))

pub proper_key : (sizes : List ℕ) (rows : List (List ℕ)) (q : List (Option ℕ)) → All (λ n. n ≤ MAX_CHOICES) sizes → ((y : ℕ) → MAX_ROWS ≤ y → list_all (is_zero y) rows ≡ true)
    → IsFoundable sizes rows q → is_proper (key_of q) ≡ true
proper_key sizes rows q small unnamed f = listed 0 q (λ i v h.
    let size : v < get_or sizes i 0 = below_size sizes q i v f.within h in (
      elim (cases_lt (0 + i) MAX_ROWS) [ inl l ↦ l | inr past ↦ absurd (named sizes rows q i v f (unnamed i (omega arith)) h) ],
      omega (arith, size, small i 0 (place_inside sizes i v size)),
    ))

-- ---- lists of cubes

of_map : {X Y : Type 0} (f : X → Y) (xs : List X) (y : Y) → Contains (map f xs) y → (x : X) × Contains xs x × (f x ≡ y)
of_map f [] y m = absurd (contains_none y m)
of_map f (x ∷ xs) y m = elim (contains_cases (f x) y (map f xs) m) [
  | inl e ↦ (x, contains_here x x xs refl, e)
  | inr there ↦ let r = of_map f xs y there in (r.0, contains_there x r.0 xs r.1, r.2)
]

length-cubes : (keys : List (Vec ℕ Global)) → length (cubes_of_keys keys) ≡ length keys
length-cubes [] = refl
length-cubes (k ∷ keys) = ap suc (length-cubes keys)

-- what the rows are to the clauses
pub record AreFinished (clauses : Clauses) (first rows : List (List ℕ)) : Type 0 where
  pub of : AreRowsOf clauses first
  pub complete : AreComplete clauses.sizes first rows

-- each test that each found partial value's key passes is passed by all keys
abbrev pub AreSound : List ℕ → List (List ℕ) → List (Vec ℕ Global) → Type 0
AreSound sizes rows keys = (t : Key → Bool) → ((p : List (Option ℕ)) → IsFoundable sizes rows p → t (key_of p) ≡ true) → all_keys t keys ≡ true

-- each found partial value's key passes each test that all keys pass
abbrev pub HasEvery : List ℕ → List (List ℕ) → List (Vec ℕ Global) → Type 0
HasEvery sizes rows keys = (p : List (Option ℕ)) → IsFoundable sizes rows p → (t : Key → Bool) → all_keys t keys ≡ true → t (key_of p) ≡ true

prime_of_key : (clauses : Clauses) (first rows : List (List ℕ)) (key : List ℕ) → AreFinished clauses first rows → StandsFor clauses.sizes rows key → IsPrime clauses (pairs_of_key key)
prime_of_key clauses first rows key a s =
    subst (IsPrime clauses) (sym (ap pairs_of_key s.2 ∙ pairs_of_key-key_of s.0))
    (cube_is_prime clauses first s.0 a.of (prime_if clauses.sizes first rows s.0 a.complete s.1))

prime_of_cube : (clauses : Clauses) (first rows : List (List ℕ)) (keys : List (Vec ℕ Global)) (cube : List Pair) → AreFinished clauses first rows → AreSound clauses.sizes rows keys
    → Contains (cubes_of_keys keys) cube → IsPrime clauses cube
prime_of_cube clauses first rows keys cube a sound m =
    let r = of_map (λ k. pairs_of_key k.items) keys cube m in
    subst (IsPrime clauses) r.2 (prime_of_key clauses first rows r.0.items a (each_stands clauses.sizes rows keys sound r.0 r.1))

cube_of_prime : (clauses : Clauses) (first rows : List (List ℕ)) (keys : List (Vec ℕ Global)) (cube : List Pair) → AreFinished clauses first rows → HasEvery clauses.sizes rows keys
    → IsPrime clauses cube → Contains (cubes_of_keys keys) cube
cube_of_prime clauses first rows keys cube a every f =
    let q = values_in 0 (length clauses.sizes) cube in
    let g = found_if clauses.sizes first rows q a.complete (partial_is_prime clauses first cube a.of f) in
    let r = is_a_key keys (key_of q) (every q g) in
    subst (Contains (cubes_of_keys keys)) (ap pairs_of_key r.2 ∙ pairs_of_key-key_of q ∙ cube_again clauses cube f) (contains_map (λ k. pairs_of_key k.items) keys r.0 r.1)

pub all_primes : (clauses : Clauses) (first rows : List (List ℕ)) (most : ℕ) (keys : List (Vec ℕ Global)) → AreFinished clauses first rows → AreSound clauses.sizes rows keys
    → HasEvery clauses.sizes rows keys → AreOrdered keys → length keys ≤ most → AreAllPrimes clauses most (cubes_of_keys keys)
all_primes clauses first rows most keys a sound every up few = record {
  in_order = in_order clauses.sizes rows keys up (each_stands clauses.sizes rows keys sound);
  each = λ cube. (prime_of_cube clauses first rows keys cube a sound, cube_of_prime clauses first rows keys cube a every);
  few = omega (arith, length-cubes keys);
}

pub more_primes : (clauses : Clauses) (first rows : List (List ℕ)) (most : ℕ) → AreFinished clauses first rows → AreMany clauses.sizes rows most → AreMorePrimes clauses most
more_primes clauses first rows most a m = record {
  cubes = cubes_of_keys m.0;
  in_order = in_order clauses.sizes rows m.0 m.2 (each_stands clauses.sizes rows m.0 m.3);
  each = all_from (IsPrime clauses) (cubes_of_keys m.0) (λ cube h. prime_of_cube clauses first rows m.0 cube a m.3 h);
  many = omega (arith, length-cubes m.0, m.1);
}

-- there are not both at most so many prime cubes and more
pub not_more : (clauses : Clauses) (most : ℕ) (cubes : List (List Pair)) → AreAllPrimes clauses most cubes → AreMorePrimes clauses most → ⊥
not_more clauses most cubes a m = not_among_fewer m.cubes cubes most m.in_order (λ k d l. (a.each (get_or m.cubes k d)).1 (m.each k d l)) m.many a.few
