-- Groups of components, and floors of what they cost. Each component has the name of its group: those with one name are one group.
use Rattle.std.specs.Prelude.{◌≡◌, ℕ, ◌<◌, ◌≤◌, Bool, true, List, slice_index, map}
use Rattle.group_search.specs.Questions.{Question, CostsAtLeast, IsInside, IsSolution, cost_in}
use Rattle.group_search.specs.Columns.{ArePaths}
use Rattle.group_search.specs.declared.columns.Chosen.{Chosen}
use Rattle.group_search.specs.declared.settle.Round.{Round}
use Rattle.group_search.specs.declared.settle.Round.TheVariants.{Settled, Nothing, Again}

-- each component
abbrev pub every : ℕ → Bool
every c = true

-- on each set of groups each solution inside costs at least what is said
abbrev pub Floors : Question → List ℕ → List ℕ → List ℕ → Type 0
Floors q masks names floors = (values costs : List ℕ) → IsSolution q every masks values costs → (test : ℕ → Bool)
    → cost_in q.count (λ c. test (slice_index names c)) floors ≤ cost_in q.count (λ c. test (slice_index names c)) costs

-- the new groups are the old ones, some of them joined: each name is given another one, which may be that of another group
abbrev pub AreJoined : List ℕ → List ℕ → Type 0
AreJoined old new = (name : ℕ → ℕ) × (new ≡ map name old)

-- paths whose costs are floors
pub record HasFloors (q : Question) (masks names : List ℕ) (x : Chosen) : Type 0 where
  pub paths : ArePaths q every x.values x.costs
  pub floors : Floors q masks names x.costs

-- they are inside, too, and cost less than the limit
pub record IsFloored (q : Question) (masks names : List ℕ) (limit : ℕ) (x : Chosen) : Type 0 where
  pub has : HasFloors q masks names x
  pub inside : IsInside q every masks x.values
  pub less : cost_in q.count every x.costs < limit

-- they are a solution, too, which none is cheaper than
pub record IsSettled (q : Question) (masks names : List ℕ) (limit : ℕ) (x : Chosen) : Type 0 where
  pub floored : IsFloored q masks names limit x
  pub solves : q.solves x.values x.costs

-- what a round leaves: a solution, no solution below the limit, or other paths
abbrev pub IsRound : Question → List ℕ → List ℕ → ℕ → Chosen → Round → Type 0
IsRound q masks names limit x Settled = IsSettled q masks names limit x
IsRound q masks names limit x Nothing = CostsAtLeast q every masks limit
IsRound q masks names limit x Again = IsFloored q masks names limit x

-- what is known where the clashes of paths were met: they are a solution, or there is none, or there are other paths to look for
abbrev pub IsMet : Question → Chosen → Round → Type 0
IsMet q x Settled = q.solves x.values x.costs
IsMet q x Nothing = (values costs : List ℕ) → q.solves values costs → ⊥
IsMet q x Again = Unit {0}
