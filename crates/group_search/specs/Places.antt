-- Where a box is split.
use Rattle.std.specs.Prelude.{ℕ, Bool, List}
use Rattle.group_search.specs.Bounds.{IsOpen}
use Rattle.group_search.specs.Questions.{Question, CostsAtLeast}
use Rattle.group_search.specs.declared.choose.Place.{Place}
use Rattle.group_search.specs.declared.choose.Place.TheVariants.{Nowhere, Closed, At}

-- closed only where each solution costs the limit, and at a pair that can be left
abbrev pub IsPlace : Question → (ℕ → Bool) → List ℕ → ℕ → Place → Type 0
IsPlace q test masks limit Nowhere = Unit {0}
IsPlace q test masks limit Closed = CostsAtLeast q test masks limit
IsPlace q test masks limit (At p) = IsOpen q test masks p
