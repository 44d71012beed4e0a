-- What walks keep.
use Rattle.std.proofs.Common.{◌≡◌, ℕ, zero, suc, Bool, true, false, ◌<◌, ◌≤◌, List, length, Option, refl, sym, subst, inl, inr, arith}
use Rattle.std.proofs.lemmas.List.Elements.{All-contains}
use Rattle.cca_base.specs.Model.{HasMode, IsFailure, IsMove, WellFormed}
use Rattle.cca_base.specs.LeastCosts.{failing}
use Rattle.cca_base.specs.PlantModel.{PlantModel}
use Rattle.cca_base.specs.State.{IsState}
use Rattle.cca_base.specs.Successors.{ChangeCosts}
use Rattle.cca_base.specs.declared.limits.TheConstants.{MAX_COST}
use Rattle.cca_base.proofs.CheapCosts.{change_cheap}
use Rattle.trajectory_estimator.specs.Asked.{Asked}
use Rattle.trajectory_estimator.specs.Walks.{AreSteps, StepBy, mode_before, record_at, stands_for}
use Rattle.window_laws.specs.Columns.{Sends}

-- a value below three stands for a gate
pub some_gate : (value : ℕ) → value < 3 → (gate : Bool) × (stands_for value gate ≡ true)
some_gate zero small = (false, refl)
some_gate (suc zero) small = (true, refl)
some_gate (suc (suc zero)) small = (true, refl)
some_gate (suc (suc (suc value))) small = absurd (omega arith)

-- a gate sends a component from a mode of its own to one
sends_in : (m : PlantModel) → WellFormed m → (c : ℕ) (k : Option ℕ) (gate : Bool) (from to : ℕ) → HasMode m c from → Sends m c k gate from to → HasMode m c to
sends_in m good c k true from to mode (inl (move, own, e)) =
    subst (HasMode m c) (sym e) (subst (λ z. HasMode m z move.target) own.own (All-contains (IsMove m) m.moves move good.moves own.of_model).target)
sends_in m good c k true from to mode (inr (none, e)) = subst (HasMode m c) (sym e) mode
sends_in m good c k false from to mode e = subst (HasMode m c) (sym e) mode

-- and a change leads from there to one
change_in : (m : PlantModel) → WellFormed m → (c from nominal to own : ℕ) → HasMode m c nominal → ChangeCosts m c from nominal to own → HasMode m c to
change_in m good c from nominal to own mode (inl (e, nothing)) = subst (HasMode m c) (sym e) mode
change_in m good c from nominal to own mode (inr (other, failure, least)) = (All-contains (IsFailure m) m.failures (failing c from to own) good.failures failure).target

-- a step leads to a mode of its component
pub step_mode : (q : Asked) (c at value from to own : ℕ) → WellFormed q.model → HasMode q.model c from → StepBy q c at value from to own → HasMode q.model c to
step_mode q c at value from to own good mode step =
    let (gate, stands) = some_gate value step.small in
    let (nominal, sends, change) = step.each gate stands in
    change_in q.model good c from nominal to own (sends_in q.model good c (record_at q at).command gate from nominal mode sends) change

-- and costs no more than a failure may
pub step_cheap : (q : Asked) (c at value from to own : ℕ) → WellFormed q.model → StepBy q c at value from to own → own ≤ MAX_COST
step_cheap q c at value from to own good step =
    let (gate, stands) = some_gate value step.small in
    let (nominal, sends, change) = step.each gate stands in
    change_cheap q.model good c from nominal to own change

-- before each record a walk has a mode of its component
pub walk_modes : (q : Asked) (c : ℕ) (values : List ℕ) (own : ℕ → ℕ) → WellFormed q.model → IsState q.model q.anchor → AreSteps q c values own
    → (at : ℕ) → at ≤ length q.records → HasMode q.model c (mode_before q c values at)
walk_modes q c values own good state steps zero within = state.modes c steps.component
walk_modes q c values own good state steps (suc at) within =
    let step = steps.each at (omega (arith, within)) in
    step_mode q c at _ (mode_before q c values at) _ (own at) good (walk_modes q c values own good state steps at (omega (arith, within))) step
