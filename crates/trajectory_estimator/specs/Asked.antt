-- What is asked of a window, and what is answered.
use Rattle.std.specs.Prelude.{ℕ, List, map, All, Option, Some, None}
use Rattle.cca_base.specs.PlantModel.{PlantModel}
use Rattle.cca_base.specs.State.{HasValue}
use Rattle.cca_base.specs.declared.state.State.{State}
use Rattle.clause_form.specs.declared.clause.Clauses.{Clauses}
use Rattle.trajectory_estimator.specs.declared.record.Record.{Record}
use Rattle.trajectory_estimator.specs.declared.trajectory.Trajectory.{Trajectory}
use Rattle.window_laws.specs.Trajectories.{Entry, Best, NoTrajectory}

-- a model, the clauses of its rules, the state before a window, and what is known of each of its ticks
pub record Asked : Type 0 where
  pub model : PlantModel
  pub worlds : Clauses
  pub anchor : List ℕ
  pub records : List Entry

-- a record, as what is known of its tick
abbrev pub entry_of : Record → Entry
entry_of r = record { command = r.command; seen = r.seen.pairs }

-- what was seen are values of the model's variables
abbrev pub AreValues : PlantModel → Entry → Type 0
AreValues m entry = All (λ p. HasValue m p.item p.value) entry.seen

-- the modes of each state
abbrev pub modes_of : List State → List (List ℕ)
modes_of states = map (λ s. s.modes) states

-- the best trajectory, or that there is none
abbrev pub IsBestOf : PlantModel → List ℕ → List Entry → Option Trajectory → Type 0
IsBestOf m anchor records None = NoTrajectory m anchor records
IsBestOf m anchor records (Some t) = Best m anchor records (modes_of t.states) t.cost
