-- What a search is asked.
use Rattle.std.specs.Prelude.{◌≡◌, ℕ, zero, suc, ◌<◌, ◌≤◌, ◌+◌, ◌==◌, Bool, true, cond, List, length, slice_index, All, Option, None, Some}
use Rattle.cca_base.specs.Sets.{has}
use Rattle.cca_base.specs.State.{Extends}
use Rattle.cca_base.specs.declared.cube.Pair.{Pair}

-- components have places, and each place takes a value. A question says which component each place is of, how many components there are, and how much room the search for
-- a component's path wants. It says what a component costs where the places have these values, if it can have its own; and which values are a solution, with
-- what each component costs
pub record Question : Type 1 where
  pub of : List ℕ
  pub count : ℕ
  pub room : ℕ
  pub has_cost : ℕ → List ℕ → ℕ → Type 0
  pub solves : List ℕ → List ℕ → Type 0

-- what the components that pass the test give together
abbrev pub sum_where : ℕ → (ℕ → Bool) → (ℕ → ℕ) → ℕ
sum_where zero test f = 0
sum_where (suc n) test f = sum_where n test f + cond (test n) (f n) 0

-- what the components that pass the test cost together
abbrev pub cost_in : ℕ → (ℕ → Bool) → List ℕ → ℕ
cost_in count test costs = sum_where count test (λ c. slice_index costs c)

-- whether a name is that of the group; without a group each name is
abbrev pub is_name : Option ℕ → ℕ → Bool
is_name None name = true
is_name (Some group) name = name == group

-- whether the component is in the group of the name; without a name each component is
abbrev pub in_group : List ℕ → Option ℕ → ℕ → Bool
in_group names group c = is_name group (slice_index names c)

-- each component is in the group
abbrev pub IsWhole : Question → List ℕ → Option ℕ → Type 0
IsWhole q names group = (c : ℕ) → c < q.count → in_group names group c ≡ true

-- each place of a component that passes the test has a value that it may have
abbrev pub IsInside : Question → (ℕ → Bool) → List ℕ → List ℕ → Type 0
IsInside q test masks values = (place : ℕ) → place < length q.of → test (slice_index q.of place) ≡ true → has (slice_index masks place) (slice_index values place) ≡ true

-- a solution whose values are inside at the components that pass the test
pub record IsSolution (q : Question) (test : ℕ → Bool) (masks values costs : List ℕ) : Type 0 where
  pub solves : q.solves values costs
  pub inside : IsInside q test masks values

-- the components that pass the test cost at least this in each such solution
abbrev pub CostsAtLeast : Question → (ℕ → Bool) → List ℕ → ℕ → Type 0
CostsAtLeast q test masks least = (values costs : List ℕ) → IsSolution q test masks values costs → least ≤ cost_in q.count test costs

-- no solution has all these values
abbrev pub IsCut : Question → List Pair → Type 0
IsCut q cube = (values costs : List ℕ) → q.solves values costs → Extends values cube → ⊥

-- the places of the pairs are those of components that pass the test
abbrev pub AreOf : Question → (ℕ → Bool) → List Pair → Type 0
AreOf q test cube = All (λ p. (p.item < length q.of) × (test (slice_index q.of p.item) ≡ true)) cube

-- all that one set has is in the other
abbrev pub IsWithin : ℕ → ℕ → Type 0
IsWithin set other = (a : ℕ) → has set a ≡ true → has other a ≡ true
