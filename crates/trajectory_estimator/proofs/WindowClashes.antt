-- Records of a window that have no clash, from the newest on.
use Rattle.std.proofs.Common.{◌≡◌, ℕ, ◌+◌, ◌<◌, ◌≤◌, List, Option, length, subst, ◌∙◌, inl, inr, arith}
use Rattle.list_laws.proofs.Orders.{below_next}
use Rattle.cca_base.specs.Shown.{CanShow}
use Rattle.group_search.specs.Columns.{ArePaths}
use Rattle.group_search.specs.Questions.{IsWhole, in_group}
use Rattle.trajectory_estimator.specs.Asked.{Asked}
use Rattle.trajectory_estimator.specs.PlaceLaws.{length-places}
use Rattle.trajectory_estimator.specs.Walks.{record_at}
use Rattle.trajectory_estimator.specs.Windows.{HasGate, IsWindow, state_at, window_of}

-- at a record the gate is the one that the walks go by, and behind it the state can show what was seen
pub record StandsAt (q : Asked) (values : List ℕ) (at : ℕ) : Type 0 where
  pub gate : HasGate q values at
  pub shows : CanShow q.model (state_at q values at) (record_at q at).seen

-- the same of the last records, if the group has all components
abbrev pub StandLast : Asked → List ℕ → List ℕ → Option ℕ → ℕ → Type 0
StandLast q values names group done = IsWhole (window_of q) names group → (at : ℕ) → at < length q.records → length q.records ≤ at + done → StandsAt q values at

module _ (q : Asked) (values names : List ℕ) (group : Option ℕ) where
  pub stand_more : (done at : ℕ) → at + done + 1 ≡ length q.records → StandLast q values names group done → (IsWhole (window_of q) names group → HasGate q values at)
      → (IsWhole (window_of q) names group → CanShow q.model (state_at q values at) (record_at q at).seen) → StandLast q values names group (done + 1)
  stand_more done at is before gate shows whole k within late = elim (below_next at k (omega (arith, is, late))) [
    | inl later ↦ before whole k within (omega (arith, is, later))
    | inr same ↦ subst (StandsAt q values) same (record { gate = gate whole; shows = shows whole })
  ]

  module _ (costs : List ℕ) (paths : ArePaths (window_of q) (in_group names group) values costs) where
    -- without a clash they are a solution
    pub stand_all : (done : ℕ) → length q.records ≤ done → StandLast q values names group done → IsWhole (window_of q) names group → IsWindow q values costs
    stand_all done all stand whole = record {
      places = paths.places ∙ length-places q;
      full = paths.components;
      walks = λ c inside. paths.cost c inside (whole c inside);
      shows = λ at within. (stand whole at within (omega (arith, all))).shows;
      gates = λ at within. (stand whole at within (omega (arith, all))).gate;
    }
