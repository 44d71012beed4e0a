-- What contracts see of an executive.
use Rattle.std.specs.Prelude.{◌≡◌, ℕ, List, [], Option, Some, None, IfSome}
use Rattle.cca_base.specs.declared.cube.Pair.{Pair}
use Rattle.cca_base.specs.declared.events.Event.{Event}
use Rattle.cca_base.specs.declared.events.Event.TheVariants as event
use Rattle.cca_base.specs.declared.events.Shown.{Shown}
use Rattle.cca_base.specs.declared.events.Shown.TheVariants.{Estimated, Unexplained, Holding}
use Rattle.cca_base.specs.declared.events.TickReport.{TickReport}
use Rattle.cca_base.specs.PlantModel.{PlantModel}
use Rattle.cca_base.specs.Accepted.{CompiledModel, IsCompiled}
use Rattle.cca_base.specs.Trace.{ExecutiveState, Observed}
use Rattle.policy_tables.specs.Tables.{TableParts}
use Rattle.trace_laws.specs.Fits.{Fits}
use Rattle.cca_base.specs.declared.limits.TheConstants.{MAX_COMPONENTS, MAX_VARIABLES}
use Rattle.consistency.specs.Observed.{IsMirror}
use Rattle.consistency.specs.Worlds.{AreWorldsOf}
use Rattle.mode_estimator.specs.Spaces.{IsEstimateSpace}
use Rattle.executive_loop.specs.Covering.{AreTablesOf}
use Rattle.executive_loop.specs.declared.workspace.Workspace.{Workspace}

-- the compiled model, where the executive stands, what its last tick observed, and its tables
pub record ExecutiveParts : Type 0 where
  pub compiled : CompiledModel
  pub state : ExecutiveState
  pub last_seen : List Pair
  pub tables : Option TableParts

-- the model is compiled, what is kept fits it, and the tables are of it, for one of its states
pub record IsExecutive (x : ExecutiveParts) : Type 0 where
  pub compiled : IsCompiled x.compiled
  pub fits : Fits x.compiled x.state
  pub tables : IfSome x.tables (AreTablesOf x.compiled)

-- room for an observation of each variable, and for a goal of all components
pub record HasStandingRoom (for_pending for_goal : ℕ) : Type 0 where
  pub pending : for_pending ≡ MAX_VARIABLES
  pub goal : for_goal ≡ MAX_COMPONENTS

-- the clauses are those of the model's rules, the memory is for them, and the tables are of the model
pub record IsWorkspace (b : CompiledModel) (w : Workspace) : Type 0 where
  pub worlds : AreWorldsOf b.model w.worlds
  pub space : IsEstimateSpace b.model w.worlds w.space
  pub mirror : IsMirror b.model w.worlds w.mirror
  pub seen : w.seen.room ≡ MAX_VARIABLES
  pub tables : AreTablesOf b w.policy.tables

-- what a tick saw, by what it shows; a holding tick saw nothing
abbrev pub SeenAt : PlantModel → ExecutiveState → Shown → List Pair → Type 0
SeenAt m x Holding seen = seen ≡ []
SeenAt m x Unexplained seen = Observed m x seen
SeenAt m x (Estimated cost state reply) seen = Observed m x seen

-- what was seen last, after an event: what the tick saw, nothing after a reset, and else what was seen before
abbrev pub SeenAfter : PlantModel → ExecutiveState → List Pair → Event → Option TickReport → List Pair → Type 0
SeenAfter m x before e (Some report) seen = SeenAt m x report.shown seen
SeenAfter m x before event.Reset None seen = seen ≡ []
SeenAfter m x before (event.Goal pairs) None seen = seen ≡ before
SeenAfter m x before event.Clear None seen = seen ≡ before
SeenAfter m x before (event.Observe pairs) None seen = seen ≡ before
SeenAfter m x before (event.Fault p) None seen = seen ≡ before
SeenAfter m x before (event.Mirror v) None seen = seen ≡ before
SeenAfter m x before event.Tick None seen = seen ≡ before
