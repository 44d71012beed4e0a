-- What solutions cost at least by the cuts that the least paths hold.
use Rattle.std.specs.Prelude.{◌≡◌, ◌≢◌, ◌⊎◌, ℕ, ◌<◌, ◌≤◌, ◌+◌, Bool, true, false, List, length, slice_index, slice_index_or, Option, None, Some}
use Rattle.cca_base.specs.Sets.{has}
use Rattle.cca_base.specs.declared.cube.Pair.{Pair}
use Rattle.group_search.specs.Columns.{CostsMore, itself}
use Rattle.group_search.specs.Questions.{Question, IsSolution, cost_in, sum_where}
use Rattle.group_search.specs.declared.path_box.PathBox.{PathBox}

-- each of these components has a path in the box
abbrev pub AllStand : Question → (ℕ → Bool) → PathBox → Type 0
AllStand q test b = (c : ℕ) → c < q.count → test c ≡ true → slice_index_or b.stands c false ≡ true

-- what a solution costs more than the least paths pays for this much, component by component, each for no more than was spent there
pub record Pays (q : Question) (test : ℕ → Bool) (least spent : List ℕ) (more : ℕ) (costs : List ℕ) : Type 0 where
  pub paid : ℕ → ℕ
  pub costs_more : (c : ℕ) → c < q.count → test c ≡ true → slice_index least c + paid c ≤ slice_index costs c
  pub within : (c : ℕ) → c < q.count → paid c ≤ slice_index spent c
  pub total : more ≡ sum_where q.count test paid

-- each solution inside does so
abbrev pub EachPays : Question → (ℕ → Bool) → List ℕ → List ℕ → List ℕ → ℕ → Type 0
EachPays q test masks least spent more = (values costs : List ℕ) → IsSolution q test masks values costs → Pays q test least spent more costs

-- a solution of the pair's component that leaves the pair costs this more; None: there is none
abbrev pub Leaves : Question → PathBox → Option ℕ → Pair → Type 0
Leaves q b more p = (values costs : List ℕ) → IsSolution q (itself (slice_index q.of p.item)) b.masks values costs → slice_index values p.item ≢ p.value
    → CostsMore more (slice_index b.columns.costs (slice_index q.of p.item)) (slice_index costs (slice_index q.of p.item))

-- a component pays this beside what was spent there; None: it can't
abbrev pub PaysBeside : Option ℕ → ℕ → ℕ → ℕ → Type 0
PaysBeside None least spent cost = ⊥
PaysBeside (Some more) least spent cost = (more ≡ 0) ⊎ (least + spent + more ≤ cost)

-- a solution inside that leaves the pair pays this for it
abbrev pub LeavesAt : Question → (ℕ → Bool) → PathBox → List ℕ → Option ℕ → Pair → Type 0
LeavesAt q test b spent more p = (values costs : List ℕ) → IsSolution q test b.masks values costs → slice_index values p.item ≢ p.value
    → PaysBeside more (slice_index b.columns.costs (slice_index q.of p.item)) (slice_index spent (slice_index q.of p.item)) (slice_index costs (slice_index q.of p.item))

-- a solution inside that leaves the pair costs this at least
abbrev pub LeavesCostAtLeast : Question → (ℕ → Bool) → List ℕ → ℕ → Pair → Type 0
LeavesCostAtLeast q test masks limit p = (values costs : List ℕ) → IsSolution q test masks values costs → slice_index values p.item ≢ p.value → limit ≤ cost_in q.count test costs

-- the pair is one of the least paths of these components
pub record IsHeld (q : Question) (test : ℕ → Bool) (b : PathBox) (p : Pair) : Type 0 where
  pub place : p.item < length q.of
  pub own : test (slice_index q.of p.item) ≡ true
  pub value : slice_index b.columns.values p.item ≡ p.value

-- a place of these components can have this value, and another one
pub record IsOpen (q : Question) (test : ℕ → Bool) (masks : List ℕ) (p : Pair) : Type 0 where
  pub place : p.item < length q.of
  pub own : test (slice_index q.of p.item) ≡ true
  pub value : has (slice_index masks p.item) p.value ≡ true
  pub other : (a : ℕ) × (a ≢ p.value) × (has (slice_index masks p.item) a ≡ true)
