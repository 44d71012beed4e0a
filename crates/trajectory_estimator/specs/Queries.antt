-- What holds of a question about a window.
use Rattle.std.specs.Prelude.{◌≤◌, ℕ, List, length, All, Option}
use Rattle.cca_base.specs.Accepted.{CompiledModel, IsCompiled}
use Rattle.cca_base.specs.Model.{WellFormed}
use Rattle.cca_base.specs.State.{IsState}
use Rattle.clause_form.specs.declared.clause.Clauses.{Clauses}
use Rattle.consistency.specs.Worlds.{AreWorldsOf}
use Rattle.trajectory_estimator.specs.Asked.{Asked, AreValues}
use Rattle.trajectory_estimator.specs.Changes.{AreChangesOf}
use Rattle.trajectory_estimator.specs.declared.record.TheConstants.{MAX_WINDOW}
use Rattle.window_laws.specs.Ticks.{KeepsBest, TrackerState}

-- an accepted model with its clauses and what its failures cost, a state of it, and a few records with values of it
pub record IsQuery (b : CompiledModel) (changes : List (List (List (Option ℕ)))) (q : Asked) : Type 0 where
  pub compiled : IsCompiled b
  pub clauses : AreWorldsOf b.model q.worlds
  pub costs : AreChangesOf b.model changes
  pub anchor : IsState b.model q.anchor
  pub few : length q.records ≤ MAX_WINDOW
  pub values : All (AreValues b.model) q.records

-- what a caller may know of a question: a well-formed model with a state of it, and a few records with values of it
pub record IsAsked (q : Asked) : Type 0 where
  pub model : WellFormed q.model
  pub anchor : IsState q.model q.anchor
  pub few : length q.records ≤ MAX_WINDOW
  pub values : All (AreValues q.model) q.records

-- the same of a tracker, which keeps the best trajectory of its window
pub record IsTracker (b : CompiledModel) (worlds : Clauses) (changes : List (List (List (Option ℕ)))) (x : TrackerState) : Type 0 where
  pub compiled : IsCompiled b
  pub clauses : AreWorldsOf b.model worlds
  pub costs : AreChangesOf b.model changes
  pub values : All (AreValues b.model) x.records
  pub best : KeepsBest b.model x
  pub ticks : length x.records ≤ x.ticks
