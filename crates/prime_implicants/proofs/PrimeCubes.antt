-- Prime partial values and prime cubes are the same.
use Rattle.std.proofs.Common.{◌≡◌, ℕ, ◌<◌, false, List, length, Option, Some, None, sym, ◌∙◌, ap, subst, get_or, All, Contains}
use Rattle.std.proofs.lemmas.List.Elements.{All-contains}
use Rattle.std.proofs.lemmas.Bool.{false_from_ne_true, both_ways}
use Rattle.list_laws.proofs.Places.{place_inside}
use Rattle.list_laws.proofs.Members.{all_from}
use Rattle.cca_base.specs.declared.cube.Pair.{Pair}
use Rattle.cca_base.specs.Cube.{IsPart}
use Rattle.clause_form.specs.declared.clause.Clauses.{Clauses}
use Rattle.clause_form.specs.Clauses.{all_met}
use Rattle.prime_implicants.specs.Partial.{IsWithin, given}
use Rattle.prime_implicants.specs.DenseClauses.{all_unfalsified}
use Rattle.prime_implicants.proofs.DenseClauseLaws.{length-within}
use Rattle.prime_implicants.proofs.PartialValueLaws.{within_values, values_given, total_given, given_of, length_given}
use Rattle.prime_implicants.specs.Found.{Covers, IsBlockedByRows, IsPrimeByRows}
use Rattle.prime_implicants.specs.Primes.{IsBlocked, IsPrime}
use Rattle.prime_implicants.proofs.FalsifyingChoices.{below_size, same_length}
use Rattle.prime_implicants.proofs.PartialPairs.{pair_of, Matches, AgreeInPairs, given_pairs, matches_given, rising_given, values_in, length-values_in, matches_values, rising_agree, rising_same, to_extends, of_extends, covers_if, covers_value, partial_same, within_if, some_inside}

-- the rows are true of values for all subjects exactly where the clauses are
abbrev pub AreRowsOf : Clauses → List (List ℕ) → Type 0
AreRowsOf clauses rows = (xs : List ℕ) → length xs ≡ length clauses.sizes → all_unfalsified (given xs) rows ≡ all_met xs clauses.clauses

total_blocked : (clauses : Clauses) (rows : List (List ℕ)) (q : List (Option ℕ)) (cube : List Pair) → AreRowsOf clauses rows → Matches q cube → IsBlocked clauses cube
    → (xs : List ℕ) → IsWithin clauses.sizes (given xs) → Covers (given xs) q → all_unfalsified (given xs) rows ≡ false
total_blocked clauses rows q cube of m b xs w c =
    let v = values_given clauses.sizes xs w in
    of xs v.full ∙ false_from_ne_true (all_met xs clauses.clauses) (λ t. b xs v t (to_extends xs q cube m c))

rows_block : (clauses : Clauses) (rows : List (List ℕ)) (q : List (Option ℕ)) (cube : List Pair) → AreRowsOf clauses rows → Matches q cube → IsBlocked clauses cube
    → IsBlockedByRows clauses.sizes rows q
rows_block clauses rows q cube of m b a w t c =
    let g = given_of a t in
    ap (λ z. all_unfalsified z rows) g.1 ∙ total_blocked clauses rows q cube of m b g.0 (subst (IsWithin clauses.sizes) g.1 w) (subst (λ z. Covers z q) g.1 c)

clauses_block : (clauses : Clauses) (rows : List (List ℕ)) (q : List (Option ℕ)) (cube : List Pair) → AreRowsOf clauses rows → Matches q cube → length q ≡ length clauses.sizes
    → IsBlockedByRows clauses.sizes rows q → IsBlocked clauses cube
clauses_block clauses rows q cube of m e b xs v t x =
    let long : length (given xs) ≡ length q = length_given xs ∙ v.full ∙ sym e in
    both_ways (all_met xs clauses.clauses)
    (sym (of xs v.full) ∙ b (given xs) (within_values clauses.sizes xs v) (total_given xs) (of_extends xs q cube m long x)) t

-- ---- a prime partial value's cube is prime

part_agrees : (q : List (Option ℕ)) (cube part : List Pair) → Matches q cube → IsPart part cube → AgreeInPairs part
part_agrees q cube part m p i v w h k =
    let one = (m (pair_of i v)).0 (All-contains (Contains cube) part (pair_of i v) p h) in
    let two = (m (pair_of i w)).0 (All-contains (Contains cube) part (pair_of i w) p k) in
    some_of_same v w (sym one ∙ two)
  where
    some_of_same : (v w : ℕ) → let a : Option ℕ = Some v in let b : Option ℕ = Some w in a ≡ b → v ≡ w
    some_of_same v w e = cc

within_size : (q : List (Option ℕ)) (cube part : List Pair) → Matches q cube → IsPart part cube → All (λ p. p.item < length q) part
within_size q cube part m p k d l = some_inside q _ _ ((m (get_or part k d)).0 (p k d l))

pub cube_is_prime : (clauses : Clauses) (rows : List (List ℕ)) (q : List (Option ℕ)) → AreRowsOf clauses rows → IsPrimeByRows clauses.sizes rows q → IsPrime clauses (given_pairs 0 q)
cube_is_prime clauses rows q of f =
    let cube = given_pairs 0 q in
    let m = matches_given q in
    let long = length-within clauses.sizes q f.within in
    record {
      rising = rising_given 0 q;
      values = all_from (λ p. p.value < get_or clauses.sizes p.item 0) cube (λ p h. below_size clauses.sizes q p.item p.value f.within ((m p).0 h));
      blocked = clauses_block clauses rows q cube of m long f.blocked;
      minimal = λ part p b.
          let ps = values_in 0 (length q) part in
          let n = matches_values (length q) part (part_agrees q cube part m p) (within_size q cube part m p) in
          let less : Covers q ps = covers_if q ps (sym (length-values_in 0 (length q) part))
          (λ i v h. (m (pair_of i v)).0 (All-contains (Contains cube) part (pair_of i v) p ((n (pair_of i v)).1 h))) in
          let whole : ps ≡ q = f.minimal ps less (rows_block clauses rows ps part of n b) in
          all_from (Contains part) cube (λ p h. (n p).1 (ap (λ z. get_or z p.item None) whole ∙ (m p).0 h));
    }

-- ---- a prime cube's partial value is prime

pub partial_is_prime : (clauses : Clauses) (rows : List (List ℕ)) (cube : List Pair) → AreRowsOf clauses rows → IsPrime clauses cube
    → IsPrimeByRows clauses.sizes rows (values_in 0 (length clauses.sizes) cube)
partial_is_prime clauses rows cube of f =
    let n = length clauses.sizes in
    let q = values_in 0 n cube in
    let m = matches_values n cube (rising_agree cube f.rising) (λ k d l. place_inside clauses.sizes _ _ (f.values k d l)) in
    let long : length q ≡ n = length-values_in 0 n cube in
    record {
      within = within_if clauses.sizes q long (λ i v h. All-contains (λ p. p.value < get_or clauses.sizes p.item 0) cube (pair_of i v) f.values ((m (pair_of i v)).1 h));
      blocked = rows_block clauses rows q cube of m f.blocked;
      minimal = λ part c b.
          let less : length part ≡ n = sym (same_length q part c) ∙ long in
          let ps = given_pairs 0 part in
          let k = matches_given part in
          let blocked = clauses_block clauses rows part ps of k less b in
          let whole = f.minimal ps (all_from (Contains cube) ps (λ p h. (m p).1 (covers_value q part p.item p.value c ((k p).0 h)))) blocked in
          partial_same part q (less ∙ sym long) (λ i v h. covers_value q part i v c h)
          (λ i v h. (k (pair_of i v)).0 (All-contains (Contains ps) cube (pair_of i v) whole ((m (pair_of i v)).1 h)));
    }

-- the cube of its partial value is the cube
pub cube_again : (clauses : Clauses) (cube : List Pair) → IsPrime clauses cube → given_pairs 0 (values_in 0 (length clauses.sizes) cube) ≡ cube
cube_again clauses cube f =
    let n = length clauses.sizes in
    let q = values_in 0 n cube in
    let m = matches_values n cube (rising_agree cube f.rising) (λ k d l. place_inside clauses.sizes _ _ (f.values k d l)) in
    let k = matches_given q in
    rising_same (given_pairs 0 q) cube (rising_given 0 q) f.rising (λ p h. (m p).1 ((k p).0 h)) (λ p h. (k p).1 ((m p).0 h))
