-- Pairs that are tried one after another.
use Rattle.std.proofs.Common.{◌≡◌, ◌+◌, ◌-◌, ◌<◌, ◌++◌, ℕ, List, [], ◌∷◌, length, get_or, take, drop, All, inl, inr, refl, sym, ap, subst, ◌∙◌, arith}
use Rattle.std.specs.List.{remove}
use Rattle.std.proofs.Math.Seq.{take-append-add}
use Rattle.std.proofs.lemmas.List.{append-nil, append_assoc, drop_more, get_or-append-add, get_or-take, get_or_default, length-append, length-take-le}
use Rattle.std.proofs.lemmas.List.Edits.{remove-append_right}
use Rattle.std.proofs.lemmas.List.Elements.{All-push}
use Rattle.std.proofs.lemmas.List.Quantifiers.{all_pairs_remove}
use Rattle.cca_base.specs.declared.cube.Pair.{Pair}
use Rattle.cca_base.specs.PlantModel.{PlantModel}
use Rattle.cca_base.specs.Cube.{IsCube, Lacks}
use Rattle.cca_base.specs.Model.{HasMode}
use Rattle.cca_base.specs.Shown.{Clash, KeepsOfClash}

-- in a cube no pair of the front is of the component of a pair behind
pub lacks_at : (front behind : List Pair) (i : ℕ) (p : Pair) → IsCube (front ++ behind) → i < length behind → get_or behind i p ≡ p → Lacks p.item (front ++ take i behind)
lacks_at front behind i p cube within here k e below =
    let whole : front ++ take i behind ≡ take (length front + i) (front ++ behind) = sym (take-append-add front behind i) in
    let size : length (front ++ take i behind) ≡ length front + i = omega (arith, length-append front (take i behind), length-take-le i behind (omega arith)) in
    let first : k < length front + i = omega (arith, size) in
    let left : get_or (front ++ take i behind) k e ≡ get_or (front ++ behind) k e = ap (λ (ps : List Pair). get_or ps k e) whole ∙ get_or-take (length front + i) (front ++ behind) k e first in
    let right : get_or (front ++ behind) (length front + i) e ≡ p = get_or-append-add front behind i e ∙ get_or_default behind i e p within ∙ here in
    λ same. cube k (length front + i) e first (omega (arith, length-append front behind)) (sym (ap (λ (q : Pair). q.item) left) ∙ same ∙ sym (ap (λ (q : Pair). q.item) right))

-- a cube without the pair in its midst
pub without_one : (front behind : List Pair) (p : Pair) → IsCube (front ++ p ∷ behind) → IsCube (front ++ behind)
without_one front behind p cube =
    let less : remove (front ++ p ∷ behind) (length front) ≡ front ++ behind =
    remove-append_right front (p ∷ behind) (length front) (length front) refl (omega arith) ∙ ap (λ (n : ℕ). front ++ remove (p ∷ behind) n) (let none : length front - length front ≡ 0 = omega arith in none)
    in
    subst IsCube less (all_pairs_remove (λ a b. a.item ≡ b.item → ⊥) (front ++ p ∷ behind) (length front) (omega (arith, length-append front (p ∷ behind))) cube)

module _ (m : PlantModel) (seen pairs : List Pair) where
  -- the first of the pairs have been tried, and these were kept of them
  pub record IsTrying (kept : List Pair) (at : ℕ) : Type 0 where
    pub cube : IsCube (kept ++ drop at pairs)
    pub modes : All (λ p. HasMode m p.item p.value) kept
    pub so_far : (shown : List Pair) → KeepsOfClash m seen kept (drop at pairs) shown → KeepsOfClash m seen [] pairs shown

  module _ (kept : List Pair) (at : ℕ) (p : Pair) (h : IsTrying kept at) (within : at < length pairs) (here : get_or pairs at p ≡ p) where
    abbrev rest : List Pair
    rest = drop (at + 1) pairs

    pub next : drop at pairs ≡ p ∷ rest
    next = drop_more pairs at p within ∙ ap (λ (q : Pair). q ∷ rest) here

    cube_here : IsCube (kept ++ p ∷ rest)
    cube_here = subst (λ ps. IsCube (kept ++ ps)) next h.cube

    pub trying_others : IsCube (kept ++ rest)
    trying_others = without_one kept rest p cube_here

    pub trying_lacks : Lacks p.item kept
    trying_lacks = subst (Lacks p.item) (append-nil kept) (lacks_at kept (p ∷ rest) 0 p cube_here (omega arith) refl)

    pub trying_dropped : Clash m seen (kept ++ rest) → IsTrying kept (at + 1)
    trying_dropped clash = record {
      cube = trying_others;
      modes = h.modes;
      so_far = λ shown k. h.so_far shown (subst (λ ps. KeepsOfClash m seen kept ps shown) (sym next) (inl (clash, k)));
    }

    pub trying_kept : HasMode m p.item p.value → (Clash m seen (kept ++ rest) → ⊥) → IsTrying (kept ++ p ∷ []) (at + 1)
    trying_kept mode fits = record {
      cube = subst IsCube (sym (append_assoc kept (p ∷ []) rest)) cube_here;
      modes = All-push (λ q. HasMode m q.item q.value) kept p h.modes mode;
      so_far = λ shown k. h.so_far shown (subst (λ ps. KeepsOfClash m seen kept ps shown) (sym next) (inr (fits, k)));
    }
