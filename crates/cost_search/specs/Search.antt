-- Which states a search gives, and in which order.
use Rattle.std.specs.Prelude.{◌≡◌, ◌⊎◌, ℕ, List, map, All, Contains, Option, Some, None}
use Rattle.std.specs.List.{AllZip, sum_by}
use Rattle.std.specs.Ordering.{nat_cmp, ordering_then}
use Rattle.std.specs.Cmp.Lexicographic.{slice_cmp}
use Rattle.std.specs.declared.cmp.Ordering.{Ordering}
use Rattle.std.specs.declared.cmp.Ordering.TheVariants.{Less}
use Rattle.cca_base.specs.declared.cube.Pair.{Pair}
use Rattle.cca_base.specs.State.{Extends}
use Rattle.cca_base.specs.declared.choice.Choice.{Choice}
use Rattle.cost_search.specs.declared.costed.Costed.{Costed}

-- by total cost, and then by mode order
abbrev pub rank_cmp : ℕ → List ℕ → ℕ → List ℕ → Ordering
rank_cmp cost s more t = ordering_then (nat_cmp cost more) (slice_cmp nat_cmp s t)

-- the state of the one cost comes before that of the other
abbrev pub IsBefore : ℕ → List ℕ → ℕ → List ℕ → Type 0
IsBefore cost s more t = rank_cmp cost s more t ≡ Less

-- the modes of one choice of each row, which cost this together
pub record IsPicked (rows : List (List Choice)) (s : List ℕ) (cost : ℕ) : Type 0 where
  pub picks : List Choice
  pub each : AllZip Contains rows picks
  pub modes : s ≡ map (λ x. x.mode) picks
  pub total : cost ≡ sum_by (λ x. x.cost) picks

-- what a search is seen as: what each component may choose from, the last state given, and the cut cubes
pub record Searched : Type 0 where
  pub rows : List (List Choice)
  pub last : Option Costed
  pub cuts : List (List Pair)

-- the state comes after the last one given
abbrev pub IsAfterLast : Option Costed → List ℕ → ℕ → Type 0
IsAfterLast None s cost = Unit {0}
IsAfterLast (Some given) s cost = IsBefore given.cost given.state.modes cost s

-- the state holds no cut cube
abbrev pub IsUncut : List (List Pair) → List ℕ → Type 0
IsUncut cuts s = All (λ cube. Extends s cube → ⊥) cuts

-- a state that is still to be given
pub record IsLeft (v : Searched) (s : List ℕ) (cost : ℕ) : Type 0 where
  pub chosen : IsPicked v.rows s cost
  pub after : IsAfterLast v.last s cost
  pub uncut : IsUncut v.cuts s

-- the other is the same state, or comes after it
abbrev pub IsUpTo : ℕ → List ℕ → ℕ → List ℕ → Type 0
IsUpTo cost s more t = ((t ≡ s) × (more ≡ cost)) ⊎ IsBefore cost s more t

-- the first of the states that are still to be given
pub record IsFirstLeft (v : Searched) (s : List ℕ) (cost : ℕ) : Type 0 where
  pub left : IsLeft v s cost
  pub first : (t : List ℕ) (more : ℕ) → IsLeft v t more → IsUpTo cost s more t

-- no state is still to be given
abbrev pub NoneLeft : Searched → Type 0
NoneLeft v = (s : List ℕ) (cost : ℕ) → IsLeft v s cost → ⊥
