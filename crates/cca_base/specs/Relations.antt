-- Paths, cycles and orders of a relation among numbers, by which one number needs another.
use Rattle.std.specs.Prelude.{◌≡◌, ℕ, zero, suc, ◌<◌, ◌≤◌, ◌==◌, ◌↔◌, not, List, [], ◌∷◌, ◌++◌, length, Contains, AllPairs, filter}
use Rattle.cca_base.specs.Names.{AreDifferent}
use Rattle.cca_base.specs.Estimates.{IsEarlier}

-- exactly the numbers of the kind, rising
pub record AreExactly (P : ℕ → Type 0) (numbers : List ℕ) : Type 0 where
  pub rising : AllPairs (λ u v. u < v) numbers
  pub each : (u : ℕ) → Contains numbers u ↔ P u

-- the numbers below n, rising
abbrev pub numbers_below : ℕ → List ℕ
numbers_below zero = []
numbers_below (suc n) = numbers_below n ++ n ∷ []

-- c needs the first of those between, each of them needs the next, and the last needs u
abbrev pub PathBy : (ℕ → ℕ → Type 0) → ℕ → List ℕ → ℕ → Type 0
PathBy relation c [] u = relation c u
PathBy relation c (d ∷ between) u = relation c d × PathBy relation d between u

-- u is reached from c by one or more needs
abbrev pub AncestorBy : (ℕ → ℕ → Type 0) → ℕ → ℕ → Type 0
AncestorBy relation c u = (between : List ℕ) × PathBy relation c between u

-- none is its own ancestor
abbrev pub IsAcyclicBy : (ℕ → ℕ → Type 0) → Type 0
IsAcyclicBy relation = (c : ℕ) → AncestorBy relation c c → ⊥

-- none of the remaining needs c
abbrev pub IsFreeBy : (ℕ → ℕ → Type 0) → List ℕ → ℕ → Type 0
IsFreeBy relation remaining c = (d : ℕ) → Contains remaining d → relation d c → ⊥

-- repeatedly the least of the remaining that none of the remaining needs
abbrev pub TakesEffectsFirstBy : (ℕ → ℕ → Type 0) → List ℕ → List ℕ → Type 0
TakesEffectsFirstBy relation remaining [] = remaining ≡ []
TakesEffectsFirstBy relation remaining (c ∷ order) =
    Contains remaining c × IsFreeBy relation remaining c × ((d : ℕ) → d < c → Contains remaining d → IsFreeBy relation remaining d → ⊥)
    × TakesEffectsFirstBy relation (filter (λ d. not (d == c)) remaining) order

-- all numbers below n, effects before their causes
abbrev pub IsEffectsFirstBy : (ℕ → ℕ → Type 0) → ℕ → List ℕ → Type 0
IsEffectsFirstBy relation n order = TakesEffectsFirstBy relation (numbers_below n) order

-- a list that begins and ends with one number, whose other entries differ, and in which each entry needs the next
pub record IsCycleBy (relation : ℕ → ℕ → Type 0) (list : List ℕ) (first : ℕ) : Type 0 where
  pub between : List ℕ
  pub ends : list ≡ first ∷ between ++ first ∷ []
  pub differ : AreDifferent (first ∷ between)
  pub needs : PathBy relation first between first

-- the cycle that begins with the least number on any cycle, is shortest through it, and is the first of these entry by entry
pub record IsShownCycleBy (relation : ℕ → ℕ → Type 0) (list : List ℕ) : Type 0 where
  pub first : ℕ
  pub cycle : IsCycleBy relation list first
  pub least : (c : ℕ) → AncestorBy relation c c → first ≤ c
  pub shortest : (other : List ℕ) → IsCycleBy relation other first → length list ≤ length other
  pub earliest : (other : List ℕ) → IsCycleBy relation other first → length other ≡ length list → IsEarlier other list → ⊥
