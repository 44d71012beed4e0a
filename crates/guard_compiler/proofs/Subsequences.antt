-- Of rising cubes, those that are found in another one in its order are its parts.
use Rattle.std.proofs.Common.{◌≡◌, ◌<◌, ◌==◌, ◌∷◌, [], Bool, true, false, cond, List, length, Contains, inl, inr, ap, arith}
use Rattle.std.proofs.lemmas.Bool.{and_parts, and_from, both_ways, eq-eqb, eqb-true}
use Rattle.std.proofs.lemmas.List.Elements.{All-cons, All-contains, All-head, All-nil}
use Rattle.cca_base.specs.declared.cube.Pair.{Pair}
use Rattle.cca_base.specs.Cube.{IsPart, IsRising}
use Rattle.list_laws.proofs.Pairwise.{AllPairs-head, AllPairs-tail}
use Rattle.list_laws.proofs.Members.{all_from, contains_cases, contains_here, contains_there, contains_none}
use Rattle.guard_compiler.specs.Cover.{is_same_pair, is_subsequence}

one_pair : (p q : Pair) → is_same_pair p q ≡ true → p ≡ q
one_pair p q h =
    let parts = and_parts (p.item == q.item) (p.value == q.value) h in
    let item = eqb-true p.item q.item parts.0 in
    let value = eqb-true p.value q.value parts.1 in
    λ i. record { item = item i; value = value i }

itself : (p q : Pair) → p ≡ q → is_same_pair p q ≡ true
itself p q e = and_from (p.item == q.item) (p.value == q.value) (eq-eqb p.item q.item (ap (λ z. z.item) e)) (eq-eqb p.value q.value (ap (λ z. z.value) e))

abbrev later : Pair → Pair → Type 0
later p q = p.item < q.item

-- ---- a subsequence is a part

with_first : (p q : Pair) (rest cube : List Pair) (b : Bool) → is_same_pair p q ≡ b → IsPart (cond b rest (q ∷ rest)) cube → IsPart (q ∷ rest) (p ∷ cube)
with_first p q rest cube true e h =
    All-cons (Contains (p ∷ cube)) q rest (contains_here p q cube (one_pair p q e)) (all_from (Contains (p ∷ cube)) rest (λ r among. contains_there p r cube (All-contains (Contains cube) rest r h among)))
with_first p q rest cube false e h = all_from (Contains (p ∷ cube)) (q ∷ rest) (λ r among. contains_there p r cube (All-contains (Contains cube) (q ∷ rest) r h among))

pub subsequence_part : (part cube : List Pair) → is_subsequence part cube ≡ true → IsPart part cube
subsequence_part part [] h = let none : length part ≡ 0 = eqb-true (length part) 0 h in λ k d l. absurd (omega arith)
subsequence_part [] (p ∷ cube) h = All-nil (Contains (p ∷ cube))
subsequence_part (q ∷ rest) (p ∷ cube) h = with_first p q rest cube (is_same_pair p q) (λ i. is_same_pair p q) (subsequence_part (cond (is_same_pair p q) rest (q ∷ rest)) cube h)

-- ---- a part is a subsequence

-- the pairs that are left rise, and are the rest's
without : (p q : Pair) (rest cube : List Pair) (b : Bool) → is_same_pair p q ≡ b → IsRising (q ∷ rest) → IsRising (p ∷ cube) → IsPart (q ∷ rest) (p ∷ cube)
    → IsRising (cond b rest (q ∷ rest)) × IsPart (cond b rest (q ∷ rest)) cube
without p q rest cube true e up rise h = (
  AllPairs-tail later q rest up,
  all_from (Contains cube) rest (λ r among. elim (contains_cases p r cube (All-contains (Contains (p ∷ cube)) (q ∷ rest) r h (contains_there q r rest among))) [
    | inl same ↦
        let less : q.item < r.item = All-contains (later q) rest r (AllPairs-head later q rest up) among in
        absurd (omega (arith, ap (λ z. z.item) same, ap (λ z. z.item) (one_pair p q e)))
    | inr there ↦ there
  ]),
)
without p q rest cube false e up rise h =
    let first : Contains cube q = elim (contains_cases p q cube (All-head (Contains (p ∷ cube)) q rest h)) [
      | inl same ↦ absurd (both_ways (is_same_pair p q) e (itself p q same))
      | inr there ↦ there
    ]
    in
    let above : p.item < q.item = All-contains (later p) cube q (AllPairs-head later p cube rise) first in (
      up,
      All-cons (Contains cube) q rest first (all_from (Contains cube) rest (λ r among. elim (contains_cases p r cube (All-contains (Contains (p ∷ cube)) (q ∷ rest) r h (contains_there q r rest among))) [
        | inl same ↦
            let less : q.item < r.item = All-contains (later q) rest r (AllPairs-head later q rest up) among in
            absurd (omega (arith, ap (λ z. z.item) same))
        | inr there ↦ there
      ])),
    )

pub part_subsequence : (part cube : List Pair) → IsRising part → IsRising cube → IsPart part cube → is_subsequence part cube ≡ true
part_subsequence [] [] up rise h = λ i. true
part_subsequence (q ∷ rest) [] up rise h = absurd (contains_none q (All-head (Contains []) q rest h))
part_subsequence [] (p ∷ cube) up rise h = part_subsequence [] cube up (AllPairs-tail later p cube rise) (All-nil (Contains cube))
part_subsequence (q ∷ rest) (p ∷ cube) up rise h =
    let left = without p q rest cube (is_same_pair p q) (λ i. is_same_pair p q) up rise h in
    part_subsequence (cond (is_same_pair p q) rest (q ∷ rest)) cube left.0 (AllPairs-tail later p cube rise) left.1
