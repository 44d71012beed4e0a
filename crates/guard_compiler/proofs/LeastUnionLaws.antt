-- Cubes of which none is a part of another, and that cover what two lists cover, are the least cubes over both.
use Rattle.std.proofs.Common.{◌≡◌, ◌+◌, ◌<◌, ◌≤◌, ◌⊎◌, ◌↔◌, ℕ, List, length, get_or, take, Contains, inl, inr, sym, subst}
use Rattle.std.proofs.lemmas.List.{take_all, take_more}
use Rattle.std.proofs.lemmas.List.Elements.{All-contains}
use Rattle.cca_base.specs.declared.cube.Pair.{Pair}
use Rattle.cca_base.specs.Cube.{IsPart, IsRising}
use Rattle.guard_compiler.specs.Cover.{AreApart, IsCovered, IsLeastOver, IsOver}
use Rattle.guard_compiler.specs.LeastUnions.{AreLeastUnions, IsLeastOverBoth, IsOverBoth}
use Rattle.guard_compiler.proofs.CoverLaws.{covered-push, covers_itself, part_of_part, parts_same}

module _ (firsts seconds cubes : List (List Pair)) (are : AreApart cubes)
    (covers : (x : List Pair) → IsRising x → IsCovered cubes x ↔ (IsCovered firsts x × IsCovered seconds x)) where
  over : (x : List Pair) → IsRising x → IsCovered cubes x → IsOverBoth firsts seconds x
  over x up k = let both = (covers x up).0 k in record { rising = up; first = both.0; second = both.1 }

  found : (x : List Pair) → IsOverBoth firsts seconds x → IsCovered cubes x
  found x o = (covers x o.rising).1 (o.first, o.second)

  is_least : (x : List Pair) → Contains cubes x → IsLeastOverBoth firsts seconds x
  is_least x among = record {
    over = over x (All-contains IsRising cubes x are.rising among) (covers_itself cubes x among);
    least = λ part h o.
        let k = found part o in
        let same : k.part ≡ x = are.apart k.part x k.among among (part_of_part k.part part x k.is_part h) in
        subst (λ z. IsPart z part) same k.is_part;
  }

  is_there : (x : List Pair) → IsLeastOverBoth firsts seconds x → Contains cubes x
  is_there x l =
      let k = found x l.over in
      let rises : IsRising k.part = All-contains IsRising cubes k.part are.rising k.among in
      let whole : IsPart x k.part = l.least k.part k.is_part (over k.part rises (covers_itself cubes k.part k.among)) in
      subst (Contains cubes) (parts_same k.part x rises l.over.rising k.is_part whole) k.among

  pub least_unions : AreLeastUnions firsts seconds cubes
  least_unions = record { in_order = are.in_order; each = λ x. (is_least x, is_there x) }

-- ---- one cube after the other

-- what the first cubes and the next one cover
covered_next : (xs : List (List Pair)) (i : ℕ) (d : List Pair) → i < length xs → (x : List Pair) → IsCovered (take (i + 1) xs) x ↔ (IsCovered (take i xs) x ⊎ IsPart (get_or xs i d) x)
covered_next xs i d l x =
    let pushed = covered-push (take i xs) (get_or xs i d) x in
    let more = take_more xs i d l in (
      λ k. pushed.0 (subst (λ z. IsCovered z x) more k),
      λ k. subst (λ z. IsCovered z x) (sym more) (pushed.1 k),
    )

-- a rising cube has the union as a part exactly where it has both
union_part : (a b union : List Pair) → IsLeastOver a b union → (x : List Pair) → IsRising x → IsPart union x ↔ (IsPart a x × IsPart b x)
union_part a b union l x up = (
  λ h. (part_of_part a union x l.over.first h, part_of_part b union x l.over.second h),
  λ h. l.least x (record { rising = up; first = h.0; second = h.1 }),
)

-- exactly so many pairs of a first cube and of a second one were gone through
abbrev pub CoversPairs : List (List Pair) → List (List Pair) → List Pair → List (List Pair) → Type 0
CoversPairs old new first seconds = (x : List Pair) → IsRising x → IsCovered new x ↔ (IsCovered old x ⊎ (IsPart first x × IsCovered seconds x))

with_next : (old mid new : List (List Pair)) (first : List Pair) (seconds : List (List Pair)) (i : ℕ) (d x : List Pair) → i < length seconds
    → IsCovered new x ↔ (IsCovered mid x ⊎ (IsPart first x × IsPart (get_or seconds i d) x))
    → IsCovered mid x ↔ (IsCovered old x ⊎ (IsPart first x × IsCovered (take i seconds) x))
    → IsCovered new x ↔ (IsCovered old x ⊎ (IsPart first x × IsCovered (take (i + 1) seconds) x))
with_next old mid new first seconds i d x l h k =
    let next = covered_next seconds i d l x in (
      λ c. elim (h.0 c) [
        | inl before ↦ elim (k.0 before) [ inl own ↦ inl own | inr both ↦ inr (both.0, next.1 (inl both.1)) ]
        | inr both ↦ inr (both.0, next.1 (inr both.1))
      ],
      λ c. elim c [
        | inl own ↦ h.1 (inl (k.1 (inl own)))
        | inr both ↦ elim (next.0 both.1) [ inl before ↦ h.1 (inl (k.1 (inr (both.0, before)))) | inr there ↦ h.1 (inr (both.0, there)) ]
      ],
    )

-- after the union with the next cube
pub covers_union : (old mid new : List (List Pair)) (first second union : List Pair) (seconds : List (List Pair)) (i : ℕ) → i < length seconds → second ≡ get_or seconds i second
    → IsLeastOver first second union → ((x : List Pair) → IsCovered new x ↔ (IsCovered mid x ⊎ IsPart union x))
    → CoversPairs old mid first (take i seconds) → CoversPairs old new first (take (i + 1) seconds)
covers_union old mid new first second union seconds i l at least h k x up =
    let own : IsLeastOver first (get_or seconds i second) union = subst (λ z. IsLeastOver first z union) at least in
    let same = union_part first (get_or seconds i second) union own x up in
    with_next old mid new first seconds i second x l (
      λ c. elim ((h x).0 c) [ inl before ↦ inl before | inr there ↦ inr (same.0 there) ],
      λ c. elim c [ inl before ↦ (h x).1 (inl before) | inr both ↦ (h x).1 (inr (same.1 both)) ],
    ) (k x up)

-- after a cube that is over no cube with the first
pub covers_no_union : (old mid : List (List Pair)) (first second : List Pair) (seconds : List (List Pair)) (i : ℕ) → i < length seconds → second ≡ get_or seconds i second
    → ((cube : List Pair) → IsOver first second cube → ⊥)
    → CoversPairs old mid first (take i seconds) → CoversPairs old mid first (take (i + 1) seconds)
covers_no_union old mid first second seconds i l at none k x up =
    with_next old mid mid first seconds i second x l (
      λ c. inl c,
      λ c. elim c [
        | inl before ↦ before
        | inr both ↦ absurd (none x (record { rising = up; first = both.0; second = subst (λ z. IsPart z x) (sym at) both.1 }))
      ],
    ) (k x up)

pub covers_all : (old new : List (List Pair)) (first : List Pair) (seconds : List (List Pair)) (n : ℕ) → length seconds ≤ n → CoversPairs old new first (take n seconds) → CoversPairs old new first seconds
covers_all old new first seconds n l k = subst (CoversPairs old new first) (take_all n seconds l) k

-- ---- one first cube after the other

-- the cubes cover exactly what both lists do
abbrev pub CoversBoth : List (List Pair) → List (List Pair) → List (List Pair) → Type 0
CoversBoth firsts seconds cubes = (x : List Pair) → IsRising x → IsCovered cubes x ↔ (IsCovered firsts x × IsCovered seconds x)

pub both_next : (firsts seconds old new : List (List Pair)) (first : List Pair) (i : ℕ) → i < length firsts → first ≡ get_or firsts i first
    → CoversPairs old new first seconds → CoversBoth (take i firsts) seconds old → CoversBoth (take (i + 1) firsts) seconds new
both_next firsts seconds old new first i l at h k x up =
    let next = covered_next firsts i first l x in (
      λ c. elim ((h x up).0 c) [
        | inl before ↦ let both = (k x up).0 before in (next.1 (inl both.0), both.1)
        | inr both ↦ (next.1 (inr (subst (λ z. IsPart z x) at both.0)), both.1)
      ],
      λ both. elim (next.0 both.0) [
        | inl before ↦ (h x up).1 (inl ((k x up).1 (before, both.1)))
        | inr own ↦ (h x up).1 (inr (subst (λ z. IsPart z x) (sym at) own, both.1))
      ],
    )

pub both_all : (firsts seconds cubes : List (List Pair)) (n : ℕ) → length firsts ≤ n → CoversBoth (take n firsts) seconds cubes → CoversBoth firsts seconds cubes
both_all firsts seconds cubes n l k = subst (λ z. CoversBoth z seconds cubes) (take_all n firsts l) k
