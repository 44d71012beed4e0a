-- What a tracker keeps at the start, and where its next window begins.
use Rattle.std.proofs.Common.{◌≡◌, ◌≢◌, ◌<◌, ℕ, true, false, List, [], ◌∷◌, Option, length, get_or, nat_lt, Some, refl, ◌∙◌, arith}
use Rattle.std.specs.List.{slice_get}
use Rattle.std.proofs.lemmas.Option.{get_or_from_slice_get}
use Rattle.std.proofs.lemmas.Bool.Decides.{nat_tests}
use Rattle.std.proofs.lemmas.Bool.{cond-true, cond-false}
use Rattle.std.proofs.lemmas.List.Elements.{All-nil}
use Rattle.cca_base.specs.Accepted.{CompiledModel, IsCompiled}
use Rattle.cca_base.specs.State.{IsState, start_modes}
use Rattle.clause_form.specs.declared.clause.Clauses.{Clauses}
use Rattle.consistency.specs.Worlds.{AreWorldsOf}
use Rattle.trajectory_estimator.specs.Asked.{AreValues}
use Rattle.trajectory_estimator.specs.Changes.{AreChangesOf}
use Rattle.trajectory_estimator.specs.Queries.{IsTracker}
use Rattle.window_laws.proofs.Paths.{length-trajectory, not_itself}
use Rattle.window_laws.specs.Ticks.{TrackerState, going, next_anchor, start, window}
use Rattle.window_laws.specs.Trajectories.{Best, IsEarlierPath, Trajectory}

-- over no record the best trajectory is no state
first_empty : (b : CompiledModel) (anchor : List ℕ) (other : List (List ℕ)) → Trajectory b.model anchor [] other 0 → IsEarlierPath other [] → ⊥
first_empty b anchor [] t earlier = not_itself [] earlier
first_empty b anchor (s ∷ other) t earlier = absurd t

empty_best : (b : CompiledModel) (anchor : List ℕ) → Best b.model anchor [] [] 0
empty_best b anchor = record { trajectory = refl; least = λ other more t. omega arith; first = first_empty b anchor }

pub started : (b : CompiledModel) (worlds : Clauses) (changes : List (List (List (Option ℕ)))) (ticks : ℕ) → IsCompiled b → AreWorldsOf b.model worlds → AreChangesOf b.model changes
    → IsState b.model (start_modes b.model) → IsTracker b worlds changes (start b.model ticks)
started b worlds changes ticks compiled clauses costs state = record {
  compiled = compiled;
  clauses = clauses;
  costs = costs;
  values = All-nil (AreValues b.model);
  best = record { anchor = state; few = omega arith; best = λ awake. (0, empty_best b (start_modes b.model)) };
  ticks = omega arith;
}

-- where a record goes there is a state in its place
pub some_last : (b : CompiledModel) (worlds : Clauses) (changes : List (List (List (Option ℕ)))) (x : TrackerState) → IsTracker b worlds changes x → x.holding ≡ false → going x ≢ 0 → 0 < length x.last
some_last b worlds changes x its awake some =
    let (cost, best) = its.best.best awake in
    omega (arith, some, length-trajectory b.model x.anchor x.records x.last cost best.trajectory)

-- where none goes, the next window begins where this one does
pub same_anchor : (x : TrackerState) → going x ≡ 0 → next_anchor x ≡ x.anchor
same_anchor x none =
    let short : nat_lt (length x.records) window ≡ true = grind (arith, nat_tests, none) in
    cond-true (nat_lt (length x.records) window) x.anchor (get_or x.last 0 x.anchor) short

-- where one goes, it begins at the first state
pub first_anchor : (x : TrackerState) (s : List ℕ) → going x ≢ 0 → slice_get x.last 0 ≡ Some s → next_anchor x ≡ s
first_anchor x s some here =
    let full : nat_lt (length x.records) window ≡ false = grind (arith, nat_tests, some) in
    cond-false (nat_lt (length x.records) window) x.anchor (get_or x.last 0 x.anchor) full ∙ get_or_from_slice_get x.last 0 s x.anchor here
