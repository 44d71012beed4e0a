-- Cubes of which none is a part of another, with one more.
use Rattle.std.proofs.Common.{◌≡◌, ◌≢◌, ◌<◌, ◌≤◌, ◌+◌, ◌⊎◌, ◌↔◌, ◌∷◌, [], ℕ, Bool, true, false, not, List, length, get_or, take, drop, All, Contains, filter, inl, inr, refl, sym, subst, ◌∙◌, arith, zero, suc, length-drop}
use Rattle.std.specs.List.{insert, list_any}
use Rattle.std.specs.declared.cmp.Ordering.{Ordering}
use Rattle.std.specs.declared.cmp.Ordering.TheVariants.{Less, Equal, Greater}
use Rattle.std.proofs.lemmas.Bool.{both_ways, cases_Bool, not-true, not_from_false, or_parts, or_cases}
use Rattle.std.proofs.lemmas.List.{get_or_default, get_or-drop}
use Rattle.std.proofs.lemmas.List.Elements.{All-append, All-contains, All-contains_itself, All-cons, All-drop, All-filter, All-take}
use Rattle.std.proofs.lemmas.List.Kept.{AllPairs-filter}
use Rattle.std.proofs.lemmas.List.Sorted.{Contains-permutation, IsPermutation-insert, IsPermutation-sym}
use Rattle.list_laws.proofs.Orders.{less_greater}
use Rattle.list_laws.proofs.Members.{all_from, contains_cases, contains_here, contains_there, contains_none, from_filter, to_filter}
use Rattle.cca_base.specs.declared.cube.Pair.{Pair}
use Rattle.cca_base.specs.Cube.{AreInCubeOrder, IsBeforeCube, IsPart, IsRising, cube_cmp}
use Rattle.cca_laws.proofs.OneOrder.{cube_total, neither_cube}
use Rattle.guard_compiler.specs.Cover.{AreApart, IsCovered, is_subsequence}
use Rattle.list_laws.proofs.Between.{AllPairs-insert}
use Rattle.guard_compiler.proofs.CoverLaws.{covered_whole, part_itself, part_of_part}
use Rattle.guard_compiler.proofs.Subsequences.{subsequence_part, part_subsequence}

-- ---- a part among the cubes

part_among : (cubes : List (List Pair)) (cube : List Pair) → list_any (λ part. is_subsequence part cube) cubes ≡ true → IsCovered cubes cube
part_among [] cube h = absurd cc
part_among (x ∷ cubes) cube h = elim (or_cases (is_subsequence x cube) (list_any (λ part. is_subsequence part cube) cubes) h) [
  | inl own ↦ record { part = x; among = contains_here x x cubes refl; is_part = subsequence_part x cube own }
  | inr more ↦ let rest = part_among cubes cube more in record { part = rest.part; among = contains_there x rest.part cubes rest.among; is_part = rest.is_part }
]

none_among : (cubes : List (List Pair)) (cube : List Pair) → list_any (λ part. is_subsequence part cube) cubes ≡ false → (x : List Pair) → Contains cubes x → is_subsequence x cube ≡ false
none_among [] cube h x among = absurd (contains_none x among)
none_among (y ∷ cubes) cube h x among =
    let parts = or_parts (is_subsequence y cube) (list_any (λ part. is_subsequence part cube) cubes) h in
    elim (contains_cases y x cubes among) [
      | inl e ↦ subst (λ z. is_subsequence z cube ≡ false) e parts.0
      | inr there ↦ none_among cubes cube parts.1 x there
    ]

-- a cube that is covered adds nothing
pub covered_adds_nothing : (cubes : List (List Pair)) (cube : List Pair) → list_any (λ part. is_subsequence part cube) cubes ≡ true
    → (x : List Pair) → IsCovered cubes x ↔ (IsCovered cubes x ⊎ IsPart cube x)
covered_adds_nothing cubes cube h x = (λ k. inl k, λ k. elim k [ inl old ↦ old | inr own ↦ covered_whole cubes cube x own (part_among cubes cube h) ])

-- ---- the place of a cube

-- of two cubes one comes first
other_way : (a b : List Pair) → (IsBeforeCube a b → ⊥) → a ≢ b → IsBeforeCube b a
other_way a b h n =
    elim (cube_cmp b a) as (λ o. cube_cmp b a ≡ o → IsBeforeCube b a) [
      | Less ↦ λ e. e
      | Equal ↦ λ e. absurd (n (neither_cube a b h (λ k. absurd (less_equal (sym k ∙ e)))))
      | Greater ↦ λ e. absurd (n (neither_cube a b h (λ k. absurd (less_greater (sym k ∙ e)))))
    ] refl
  where
    less_equal : ◌≡◌ {A = Ordering} Less Equal → ⊥
    less_equal e = cc

-- the cube's place: none before it comes after it, and the one at it does
pub record IsPlace (cubes : List (List Pair)) (cube : List Pair) (place : ℕ) : Type 0 where
  pub within : place ≤ length cubes
  pub before : All (λ other. IsBeforeCube cube other → ⊥) (take place cubes)
  pub after : place < length cubes → IsBeforeCube cube (get_or cubes place [])

in_take : (n : ℕ) (xs : List (List Pair)) (x : List Pair) → Contains (take n xs) x → Contains xs x
in_take n xs x among = All-contains (Contains xs) (take n xs) x (All-take (Contains xs) n xs (All-contains_itself xs)) among

after_place : (cubes : List (List Pair)) (cube : List Pair) (place : ℕ) → AreInCubeOrder cubes → IsPlace cubes cube place → All (IsBeforeCube cube) (drop place cubes)
after_place cubes cube place up p k d l =
    let inside : place + k < length cubes = omega (arith, length-drop place cubes, p.within) in
    let here : IsBeforeCube cube (get_or cubes place d) = subst (IsBeforeCube cube) (get_or_default cubes place [] d (omega arith)) (p.after (omega arith)) in
    subst (IsBeforeCube cube) (sym (get_or-drop place cubes k d)) (from_here k d inside here)
  where
    from_here : (k : ℕ) (d : List Pair) → place + k < length cubes → IsBeforeCube cube (get_or cubes place d) → IsBeforeCube cube (get_or cubes (place + k) d)
    from_here zero d l here = let same : place ≡ place + 0 = omega arith in subst (λ n. IsBeforeCube cube (get_or cubes n d)) same here
    from_here (suc k) d l here = cube_total.trans cube (get_or cubes place d) (get_or cubes (place + suc k) d) here (up place (place + suc k) d (omega arith) l)

-- ---- a cube that is put among others

from_insert : (xs : List (List Pair)) (n : ℕ) (x y : List Pair) → Contains (insert xs n x) y → (x ≡ y) ⊎ Contains xs y
from_insert xs n x y among = contains_cases x y xs (Contains-permutation (insert xs n x) (x ∷ xs) y (IsPermutation-sym (x ∷ xs) (insert xs n x) (IsPermutation-insert xs n x)) among)

to_insert : (xs : List (List Pair)) (n : ℕ) (x y : List Pair) → (x ≡ y) ⊎ Contains xs y → Contains (insert xs n x) y
to_insert xs n x y h = Contains-permutation (x ∷ xs) (insert xs n x) y (IsPermutation-insert xs n x)
    (elim h [ inl e ↦ contains_here x y xs e | inr there ↦ contains_there x y xs there ])

-- the cubes that this one is no part of
abbrev is_left : List Pair → List Pair → Bool
is_left cube other = not (is_subsequence cube other)

abbrev pub others : List (List Pair) → List Pair → List (List Pair)
others cubes cube = filter (is_left cube) cubes

module _ (cubes : List (List Pair)) (cube : List Pair) (place : ℕ) (are : AreApart cubes) (up : IsRising cube)
    (new : list_any (λ part. is_subsequence part cube) cubes ≡ false) where
  abbrev left : List (List Pair)
  left = others cubes cube

  in_cubes : (x : List Pair) → Contains left x → Contains cubes x
  in_cubes x among = (from_filter (is_left cube) cubes x among).1

  no_part : (x : List Pair) → Contains left x → IsPart x cube → ⊥
  no_part x among h =
      let x_rises : IsRising x = All-contains IsRising cubes x are.rising (in_cubes x among) in
      both_ways (is_subsequence x cube) (none_among cubes cube new x (in_cubes x among)) (part_subsequence x cube x_rises up h)

  no_whole : (x : List Pair) → Contains left x → IsPart cube x → ⊥
  no_whole x among h =
      let x_rises : IsRising x = All-contains IsRising cubes x are.rising (in_cubes x among) in
      both_ways (is_subsequence cube x) (not-true (is_subsequence cube x) (from_filter (is_left cube) cubes x among).0) (part_subsequence cube x up x_rises h)

  pub insert_apart : IsPlace left cube place → AreApart (insert left place cube)
  insert_apart p =
      let rise : All IsRising left = All-filter (is_left cube) IsRising cubes are.rising in
      let order : AreInCubeOrder left = AllPairs-filter IsBeforeCube (is_left cube) cubes are.in_order in
      let before : All (λ other. IsBeforeCube other cube) (take place left) = all_from (λ other. IsBeforeCube other cube) (take place left) (λ x among.
      other_way cube x (All-contains (λ other. IsBeforeCube cube other → ⊥) (take place left) x p.before among)
      (λ e. no_whole x (in_take place left x among) (subst (IsPart cube) e (part_itself cube)))) in
      record {
        rising = All-append IsRising (take place left) (cube ∷ drop place left) (All-take IsRising place left rise)
            (All-cons IsRising cube (drop place left) up (All-drop IsRising place left rise));
        in_order = AllPairs-insert IsBeforeCube left place cube order before (after_place left cube place order p);
        apart = λ a b in_a in_b h. elim (from_insert left place cube a in_a) [
          | inl e ↦ elim (from_insert left place cube b in_b) [
            | inl f ↦ sym e ∙ f
            | inr old ↦ absurd (no_whole b old (subst (λ z. IsPart z b) (sym e) h))
          ]
          | inr a_old ↦ elim (from_insert left place cube b in_b) [
            | inl f ↦ absurd (no_part a a_old (subst (IsPart a) (sym f) h))
            | inr b_old ↦ are.apart a b (in_cubes a a_old) (in_cubes b b_old) h
          ]
        ];
      }

  still : (x : List Pair) → IsCovered cubes x → IsCovered (insert left place cube) x
  still x k = elim (cases_Bool (is_subsequence cube k.part)) [
    | inl covered ↦ record {
      part = cube;
      among = to_insert left place cube cube (inl refl);
      is_part = part_of_part cube k.part x (subsequence_part cube k.part covered) k.is_part;
    }
    | inr kept ↦ record {
      part = k.part;
      among = to_insert left place cube k.part (inr (to_filter (is_left cube) cubes k.part (not_from_false (is_subsequence cube k.part) kept) k.among));
      is_part = k.is_part;
    }
  ]

  pub insert_covers : (x : List Pair) → IsCovered (insert left place cube) x ↔ (IsCovered cubes x ⊎ IsPart cube x)
  insert_covers x = (
    λ k. elim (from_insert left place cube k.part k.among) [
      | inl e ↦ inr (subst (λ z. IsPart z x) (sym e) k.is_part)
      | inr old ↦ inl (record { part = k.part; among = in_cubes k.part old; is_part = k.is_part })
    ],
    λ h. elim h [
      | inl old ↦ still x old
      | inr own ↦ record { part = cube; among = to_insert left place cube cube (inl refl); is_part = own }
    ],
  )
