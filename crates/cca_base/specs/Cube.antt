-- Pairs of components and modes, or of variables and values.
use Rattle.std.specs.Prelude.{◌≡◌, ℕ, ◌≢◌, ◌<◌, ◌⊎◌, ◌↔◌, List, length, All, AllPairs, Contains}
use Rattle.std.specs.Ordering.{nat_cmp, ordering_then}
use Rattle.std.specs.Cmp.Lexicographic.{slice_cmp}
use Rattle.std.specs.declared.cmp.Ordering.{Ordering}
use Rattle.std.specs.declared.cmp.Ordering.TheVariants.{Less}
use Rattle.cca_base.specs.declared.cube.Pair.{Pair}

-- no pair is of this component
abbrev pub Lacks : ℕ → List Pair → Type 0
Lacks c pairs = All (λ p. p.item ≢ c) pairs

-- at most one pair of each component
abbrev pub IsCube : List Pair → Type 0
IsCube pairs = AllPairs (λ p q. p.item ≢ q.item) pairs

-- each pair of the first is one of the second
abbrev pub IsPart : List Pair → List Pair → Type 0
IsPart part cube = All (Contains cube) part

-- each pair's component is less than those of the pairs after it
abbrev pub IsRising : List Pair → Type 0
IsRising pairs = AllPairs (λ p q. p.item < q.item) pairs

-- exactly the pairs that are of the one kind or of the other, rising
pub record IsUnion (P Q : Pair → Type 0) (both : List Pair) : Type 0 where
  pub rising : IsRising both
  pub each : (p : Pair) → Contains both p ↔ (P p ⊎ Q p)

-- pairs by component, and then by mode
abbrev pub pair_cmp : Pair → Pair → Ordering
pair_cmp p q = ordering_then (nat_cmp p.item q.item) (nat_cmp p.value q.value)

-- cubes of fewer pairs first, and then pair by pair
abbrev pub cube_cmp : List Pair → List Pair → Ordering
cube_cmp a b = ordering_then (nat_cmp (length a) (length b)) (slice_cmp pair_cmp a b)

-- the first comes before the second
abbrev pub IsBeforeCube : List Pair → List Pair → Type 0
IsBeforeCube a b = cube_cmp a b ≡ Less

-- each cube comes before those after it
abbrev pub AreInCubeOrder : List (List Pair) → Type 0
AreInCubeOrder cubes = AllPairs IsBeforeCube cubes
