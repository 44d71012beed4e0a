-- What a search of a group keeps from turn to turn.
use Rattle.std.specs.Prelude.{◌≡◌, ℕ, ◌<◌, Bool, true, List, ◌∷◌, Option, None, Some, cond, false}
use Rattle.group_search.specs.Bounds.{IsOpen}
use Rattle.group_search.specs.Columns.{ArePaths}
use Rattle.group_search.specs.Halves.{AreAhead, AreFewer, AreHalves, SplitOwn, left_of, undone, weight}
use Rattle.group_search.specs.Questions.{Question, CostsAtLeast, IsInside, IsWhole, cost_in, in_group}
use Rattle.group_search.specs.declared.columns.Chosen.{Chosen}
use Rattle.group_search.specs.declared.best.Best.{Best}
use Rattle.group_search.specs.declared.halves.Half.{Half}
use Rattle.group_search.specs.declared.judge.Verdict.{Verdict}
use Rattle.group_search.specs.declared.judge.Verdict.TheVariants.{Dropped, Split, Found}

-- the verdict on a box is right: each solution costs the limit; or a place can be split; or the least paths cost less, of all components are a solution, and none
-- is cheaper
abbrev pub IsJudged : Question → List ℕ → Option ℕ → ℕ → List ℕ → List ℕ → List ℕ → Verdict → Type 0
IsJudged q names group limit masks values costs Dropped = CostsAtLeast q (in_group names group) masks limit
IsJudged q names group limit masks values costs (Split p) = IsOpen q (in_group names group) masks p
IsJudged q names group limit masks values costs Found =
    (cost_in q.count (in_group names group) costs < limit) × ArePaths q (in_group names group) values costs
    × IsInside q (in_group names group) masks values × (IsWhole q names group → q.solves values costs)
    × CostsAtLeast q (in_group names group) masks (cost_in q.count (in_group names group) costs)

-- paths of the group inside the box, which of all components are a solution
pub record IsFind (q : Question) (names : List ℕ) (group : Option ℕ) (masks : List ℕ) (x : Chosen) : Type 0 where
  pub paths : ArePaths q (in_group names group) x.values x.costs
  pub inside : IsInside q (in_group names group) masks x.values
  pub whole : IsWhole q names group → q.solves x.values x.costs

-- without a find the limit is where it began; a find costs the limit, and that is less
abbrev pub IsKnown : Question → List ℕ → Option ℕ → List ℕ → ℕ → Option Chosen → ℕ → Type 0
IsKnown q names group masks start None limit = limit ≡ start
IsKnown q names group masks start (Some x) limit = IsFind q names group masks x × (cost_in q.count (in_group names group) x.costs ≡ limit) × (limit < start)

-- the paths that were found, if there are some
abbrev pub best_found : Best → Option Chosen
best_found best = cond best.is_found (Some best.found) None

-- each solution of the box that costs less than the limit is in the box at hand or in a half that is left
pub record IsSought (q : Question) (names : List ℕ) (group : Option ℕ) (base : List ℕ) (start : ℕ) (masks : List ℕ) (halves : List Half) (best : Best) : Type 0 where
  pub before : undone halves masks ≡ base
  pub halved : AreHalves halves masks
  pub fewer : AreFewer halves masks
  pub own : SplitOwn q (in_group names group) halves
  pub ahead : AreAhead q (in_group names group) base best.limit (masks ∷ left_of halves masks)
  pub known : IsKnown q names group base start (best_found best) best.limit

-- a turn that goes on keeps what a search keeps, and the weights fall; one that ends leaves nothing ahead
abbrev pub IsTurned : Question → List ℕ → Option ℕ → List ℕ → List ℕ → List Half → List Half → Best → Best → Bool → Type 0
IsTurned q names group old new before after was best goes = (base : List ℕ) (start : ℕ) → IsSought q names group base start old before was
    → IsSought q names group base start new after best × (goes ≡ true → weight (new ∷ left_of after new) < weight (old ∷ left_of before old))
    × (goes ≡ false → (new ≡ base) × CostsAtLeast q (in_group names group) base best.limit)
