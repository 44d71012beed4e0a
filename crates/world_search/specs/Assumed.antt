-- The pairs of a question, where they are assumed.
use Rattle.std.specs.Prelude.{◌≡◌, ℕ, ◌<◌, true, List, slice_index, All}
use Rattle.cca_base.specs.Sets.{has}
use Rattle.cca_base.specs.declared.cube.Pair.{Pair}
use Rattle.cca_base.specs.declared.limits.TheConstants.{MAX_CHOICES}
use Rattle.clash_analysis.specs.Trails.{AreApart}
use Rattle.world_search.specs.declared.work.Work.{Work}

-- the pairs are of subjects that there are, and have small values
abbrev pub AreAsked : ℕ → List Pair → Type 0
AreAsked n pairs = All (λ p. (p.item < n) × (p.value < MAX_CHOICES)) pairs

-- no other value is left of the pair's subject
abbrev pub IsHeld : List ℕ → Pair → Type 0
IsHeld dom p = (a : ℕ) → has (slice_index dom p.item) a ≡ true → a ≡ p.value

-- so it is of each pair's
abbrev pub AreHeld : List ℕ → List Pair → Type 0
AreHeld dom pairs = All (IsHeld dom) pairs

-- the pair's value isn't left, and it is learned alone, if its subject had it at the start
pub record IsLost (p : Pair) (w : Work) : Type 0 where
  pub learned : has (slice_index w.start.items p.item) p.value ≡ true → has (slice_index w.learn.items p.item) p.value ≡ true
  pub apart : AreApart w.dom.items w.learn.items
