-- Steps of a component from one mode at a record, and the least of them.
use Rattle.std.specs.Prelude.{◌≡◌, ◌<◌, ◌≤◌, ◌+◌, ◌*◌, ℕ, true, List, length, Option, Some, None, slice_index, slice_index_or}
use Rattle.cca_base.specs.Model.{HasMode, WellFormed, mode_counts}
use Rattle.cca_base.specs.PlantModel.{PlantModel}
use Rattle.cca_base.specs.Sets.{has}
use Rattle.cca_base.specs.declared.limits.TheConstants.{MAX_COST}
use Rattle.cca_base.specs.declared.model.Move.{Move}
use Rattle.successors.specs.Choices.{AreLeast}
use Rattle.trajectory_estimator.specs.Asked.{Asked}
use Rattle.trajectory_estimator.specs.Walks.{StepBy, record_at}
use Rattle.trajectory_estimator.specs.declared.leaving.GateCosts.{GateCosts}
use Rattle.trajectory_estimator.specs.declared.leaving.Leaving.{Leaving}
use Rattle.trajectory_estimator.specs.declared.record.TheConstants.{MAX_WINDOW}
use Rattle.trajectory_estimator.specs.declared.step.Ahead.{Ahead}
use Rattle.trajectory_estimator.specs.declared.step.Reach.{Reach}
use Rattle.trajectory_estimator.specs.declared.step.Step.{Step}
use Rattle.window_laws.specs.Columns.{IsOwn, Sends}

-- ---- own moves

-- an own move of the component by the command leads from the mode to this one
abbrev pub IsOwnTarget : PlantModel → ℕ → Option ℕ → ℕ → ℕ → Type 0
IsOwnTarget m c k from to = (move : Move) × IsOwn m c k from move × (to ≡ move.target)

-- there is no such move
abbrev pub NoOwn : PlantModel → ℕ → Option ℕ → ℕ → Type 0
NoOwn m c k from = (move : Move) → IsOwn m c k from move → ⊥

-- ---- what steps cost

-- where an open gate sends the component from its mode at a record, and what its failures from there cost at least, mode by mode
pub record IsLeaving (q : Asked) (c at : ℕ) (l : Leaving) : Type 0 where
  pub model : WellFormed q.model
  pub mode : HasMode q.model c l.from
  pub sends : Sends q.model c (record_at q at).command true l.from l.open
  pub full : length l.failures.now ≡ slice_index (mode_counts q.model) c
  pub least : AreLeast q.model.failures c l.from l.failures.now

-- what the step by this value costs, or that there is none
abbrev pub IsStepCost : Asked → ℕ → ℕ → ℕ → ℕ → ℕ → Option ℕ → Type 0
IsStepCost q c at value from to None = (own : ℕ) → StepBy q c at value from to own → ⊥
IsStepCost q c at value from to (Some own) = StepBy q c at value from to own × (own ≤ MAX_COST)

-- what the steps cost by a gate that is shut, open, or either
pub record AreCosts (q : Asked) (c at from to : ℕ) (costs : GateCosts) : Type 0 where
  pub shut : IsStepCost q c at 0 from to costs.shut
  pub opened : IsStepCost q c at 1 from to costs.open
  pub either : IsStepCost q c at 2 from to costs.either

-- a step from the mode to one of the modes, by one of the gates, with what comes behind it
pub record IsStep (q : Asked) (c at from : ℕ) (ahead : Ahead) (s : Step) : Type 0 where
  pub to : has ahead.modes s.to ≡ true
  pub gate : has ahead.gates s.gate ≡ true
  pub costs : StepBy q c at s.gate from s.to s.own
  pub rest : ℕ
  pub behind : slice_index_or ahead.rests.now s.to None ≡ Some rest
  pub total : s.total ≡ s.own + rest

-- the least of these steps, or that there are none
abbrev pub IsLeastOf : (Step → Type 0) → Option Step → Type 0
IsLeastOf Steps None = (s : Step) → Steps s → ⊥
IsLeastOf Steps (Some s) = Steps s × ((t : Step) → Steps t → s.total ≤ t.total)

-- a step to this mode
abbrev pub IsStepTo : Asked → ℕ → ℕ → ℕ → Ahead → ℕ → Step → Type 0
IsStepTo q c at from ahead to s = IsStep q c at from ahead s × (s.to ≡ to)

-- a step to this mode by this gate
abbrev pub IsStepToBy : Asked → ℕ → ℕ → ℕ → Ahead → ℕ → ℕ → Step → Type 0
IsStepToBy q c at from ahead to gate s = IsStepTo q c at from ahead to s × (s.gate ≡ gate)

-- the mode is one of those to which steps may lead, with what they cost and what comes behind them
pub record IsReach (q : Asked) (c at from : ℕ) (ahead : Ahead) (to : ℕ) (r : Reach) : Type 0 where
  pub model : WellFormed q.model
  pub target : r.to ≡ to
  pub mode : has ahead.modes to ≡ true
  pub gates : r.gates ≡ ahead.gates
  pub costs : AreCosts q c at from to r.costs
  pub behind : slice_index_or ahead.rests.now to None ≡ Some r.rest
  pub cheap : r.rest ≤ MAX_WINDOW * MAX_COST

-- what stands for the modes below a number costs at most this
abbrev pub AreCheap : ℕ → ℕ → List (Option ℕ) → Type 0
AreCheap modes most row = (mode rest : ℕ) → mode < modes → slice_index_or row mode None ≡ Some rest → rest ≤ most
