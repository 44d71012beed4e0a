-- Pieces in the place of a whole.
use Rattle.std.proofs.Common.{◌≡◌, inl, inr, ℕ, zero, suc, ◌*◌, ◌<◌, ◌≤◌, List, [], ◌∷◌, ◌++◌, length, take, drop, get_or, set, All, Contains, refl, sym, ap, subst, ◌∙◌, arith}
use native.Mathlib.Nat.{mul-zero, zero-mul, mul-pos}
use Rattle.std.specs.List.{AllZip}
use Rattle.std.specs.List.Sorted.{IsPermutation}
use Rattle.std.proofs.lemmas.List.{length-drop, nil_from_length}
use Rattle.std.proofs.lemmas.List.Sorted.{Contains-permutation, All-permutation, sum_by_pushed}
use Rattle.std.proofs.lemmas.List.Elements.{All-cons, All-head, All-tail, All-push}
use Rattle.list_laws.proofs.Members.{contains_here, contains_there, contains_none}
use Rattle.cca_base.specs.declared.choice.Choice.{Choice}
use Rattle.cost_search.specs.declared.part.Part.{Part}
use Rattle.cost_search.specs.SearchParts.{nothing, box_of, heads, size, row_at, IsPart, Gains, IsSplit, AreInstead}
use Rattle.cost_search.proofs.Boxes.{size-split, picks-split, heads-narrowed}

pub gains_piece : (rows : List (List Choice)) (pieces more : List Part) (b : List (List Choice)) (p : Part) → All (IsPart rows) pieces → IsPart rows p → box_of rows p ≡ b
    → IsPermutation (p ∷ pieces) more → Gains rows pieces more b
gains_piece rows pieces more b p each part e perm = record {
  each = All-permutation (IsPart rows) (p ∷ pieces) more perm (All-cons (IsPart rows) p pieces part each);
  old = λ picks (q, among, has). (q, Contains-permutation (p ∷ pieces) more q perm (contains_there p q pieces among), has);
  new = λ picks has. (p, Contains-permutation (p ∷ pieces) more p perm (contains_here p p pieces refl), subst (λ z. AllZip Contains z picks) (sym e) has);
  sizes = omega (arith, sum_by_pushed (λ q. size (box_of rows q)) p pieces more perm, ap size e);
}

empty-size : (b : List (List Choice)) (i : ℕ) → i < length b → size (set b i []) ≡ 0
empty-size [] i h = absurd (omega arith)
empty-size (row ∷ b) zero h = zero-mul (size b)
empty-size (row ∷ b) (suc i) h = ap (λ n. length row * n) (empty-size b i (omega arith)) ∙ mul-zero (length row)

empty-picks : (b : List (List Choice)) (i : ℕ) (picks : List Choice) → i < length b → AllZip Contains (set b i []) picks → ⊥
empty-picks [] i picks h k = absurd (omega arith)
empty-picks (row ∷ b) zero [] h k = k
empty-picks (row ∷ b) zero (y ∷ picks) h k = contains_none y k.0
empty-picks (row ∷ b) (suc i) [] h k = k
empty-picks (row ∷ b) (suc i) (y ∷ picks) h k = empty-picks b i picks (omega arith) k.1

pub gains_none : (rows : List (List Choice)) (pieces : List Part) (b : List (List Choice)) (i : ℕ) → All (IsPart rows) pieces → i < length b → length (row_at b i) ≤ 1
    → Gains rows pieces pieces (set b i (drop 1 (row_at b i)))
gains_none rows pieces b i each h few =
    let none : drop 1 (row_at b i) ≡ [] = nil_from_length (drop 1 (row_at b i)) (omega (arith, length-drop 1 (row_at b i))) in
    let e : size (set b i (drop 1 (row_at b i))) ≡ 0 = ap (λ r. size (set b i r)) none ∙ empty-size b i h in
    record {
      each = each;
      old = λ picks has. has;
      new = λ picks has. absurd (empty-picks b i picks h (subst (λ r. AllZip Contains (set b i r) picks) none has));
      sizes = omega arith;
    }

pub split_more : (rows whole : List (List Choice)) (components : List ℕ) (pieces more : List Part) (rest new : List (List Choice)) (i : ℕ)
    → IsSplit rows whole components pieces rest → i < length rest → Gains rows pieces more (set rest i (drop 1 (row_at rest i))) → new ≡ set rest i (take 1 (row_at rest i))
    → IsSplit rows whole (components ++ i ∷ []) more new
split_more rows whole components pieces more rest new i s h g e = record {
  each = g.each;
  same = ap heads e ∙ heads-narrowed rest i ∙ s.same;
  covers = λ picks has. elim (s.covers picks has) [
    | inl there ↦ inl (g.old picks there)
    | inr here ↦ elim (picks-split rest picks i h here.0) [
      | inl onward ↦ inl (g.new picks onward)
      | inr first ↦ inr (
        subst (λ z. AllZip Contains z picks) (sym e) first.0,
        All-push (λ c. get_or picks c nothing ≡ get_or (heads whole) c nothing) components i here.1 (first.1 ∙ ap (λ z. get_or z i nothing) s.same),
      )
    ]
  ];
  sizes = omega (arith, s.sizes, g.sizes, size-split rest i h, ap size e);
}

pub size-pos : (b : List (List Choice)) → All (λ row. 0 < length row) b → 0 < size b
size-pos [] h = omega arith
size-pos (row ∷ b) h = mul-pos (All-head (λ r. 0 < length r) row b h) (size-pos b (All-tail (λ r. 0 < length r) row b h))

pub instead : (rows whole : List (List Choice)) (components : List ℕ) (pieces : List Part) (rest : List (List Choice)) → IsSplit rows whole components pieces rest → 0 < size rest
    → AreInstead rows whole components pieces
instead rows whole components pieces rest s some = record {
  each = s.each;
  covers = λ picks has. elim (s.covers picks has) [ inl there ↦ inl there | inr here ↦ inr here.1 ];
  fewer = omega (arith, s.sizes);
}
