-- Parts of cubes, and what cubes cover.
use Rattle.std.proofs.Common.{◌≡◌, ◌++◌, ◌∷◌, [], ◌⊎◌, ◌↔◌, List, Contains, inl, inr, subst, sym}
use Rattle.std.proofs.lemmas.List.Elements.{All-contains, All-contains_itself, All-weaker, Contains-append_left, Contains-push, Contains-push_cases}
use Rattle.cca_base.specs.declared.cube.Pair.{Pair}
use Rattle.cca_base.specs.Cube.{IsPart, IsRising}
use Rattle.prime_implicants.proofs.PartialPairs.{rising_same}
use Rattle.guard_compiler.specs.Cover.{IsCovered}

pub part_itself : (cube : List Pair) → IsPart cube cube
part_itself cube = All-contains_itself cube

pub part_of_part : (a b c : List Pair) → IsPart a b → IsPart b c → IsPart a c
part_of_part a b c h k = All-weaker (Contains b) (Contains c) (λ p among. All-contains (Contains c) b p k among) a h

-- two rising cubes that are parts of each other are one
pub parts_same : (a b : List Pair) → IsRising a → IsRising b → IsPart a b → IsPart b a → a ≡ b
parts_same a b up rise h k = rising_same a b up rise (λ p among. All-contains (Contains b) a p h among) (λ p among. All-contains (Contains a) b p k among)

-- a cube covers itself
pub covers_itself : (cubes : List (List Pair)) (cube : List Pair) → Contains cubes cube → IsCovered cubes cube
covers_itself cubes cube among = record { part = cube; among = among; is_part = part_itself cube }

-- what a part covers, the whole covers
pub covered_whole : (cubes : List (List Pair)) (part cube : List Pair) → IsPart part cube → IsCovered cubes part → IsCovered cubes cube
covered_whole cubes part cube h k = record { part = k.part; among = k.among; is_part = part_of_part k.part part cube k.is_part h }

-- more cubes cover more
covered_by_more : (few more : List (List Pair)) (cube : List Pair) → ((x : List Pair) → Contains few x → Contains more x) → IsCovered few cube → IsCovered more cube
covered_by_more few more cube h k = record { part = k.part; among = h k.part k.among; is_part = k.is_part }

-- what one more cube covers
pub covered-push : (cubes : List (List Pair)) (x cube : List Pair) → IsCovered (cubes ++ x ∷ []) cube ↔ (IsCovered cubes cube ⊎ IsPart x cube)
covered-push cubes x cube = (
  λ k. elim (Contains-push_cases cubes x k.part k.among) [
    | inl old ↦ inl (record { part = k.part; among = old; is_part = k.is_part })
    | inr e ↦ inr (subst (λ z. IsPart z cube) (sym e) k.is_part)
  ],
  λ h. elim h [
    | inl old ↦ covered_by_more cubes (cubes ++ x ∷ []) cube (λ z among. Contains-append_left cubes (x ∷ []) z among) old
    | inr own ↦ record { part = x; among = Contains-push cubes x; is_part = own }
  ],
)
