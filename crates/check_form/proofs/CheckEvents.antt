-- The events of a script, kept one after the other and then made one after the other.
use Rattle.std.proofs.Common.{◌≡◌, ℕ, List, [], ◌∷◌, ◌++◌, inr, refl, sym, ap, subst}
use Rattle.cca_base.specs.declared.cube.Pair.{Pair}
use Rattle.cca_base.specs.declared.events.Event.{Event}
use Rattle.cca_base.specs.declared.events.Event.TheVariants as event
use Rattle.cca_base.specs.Cube.{IsRising}
use Rattle.cca_base.specs.PlantModel.{PlantModel}
use Rattle.cca_base.specs.Trace.{ExecutiveState, MayCome, Changes}
use Rattle.plan_checker.specs.Standing.{FitsModel}
use Rattle.trace_laws.specs.Events.{AsGiven, PendingAfter, mirrored_after}
use Rattle.trace_laws.proofs.PendingKnown.{one_pending, union_same}
use Rattle.check_form.specs.CheckScript.{ScriptSoFar, with_event}
use Rattle.check_form.specs.CheckStages.{ComeInTurn, KeepsScript, Advances}

-- ---- kept

come_snoc : (events : List Event) (m : PlantModel) (p : List Pair) (mirrored : ℕ) (q : List Pair) (mirrors : ℕ) (e : Event) (after : List Pair) → ComeInTurn m p mirrored events q mirrors → MayCome m q mirrors e → PendingAfter q e after
    → ComeInTurn m p mirrored (events ++ e ∷ []) after (mirrored_after mirrors e)
come_snoc [] m p mirrored q mirrors e after (same, sets) may known = (
  subst (λ (k : ℕ). MayCome m p k e) sets (subst (λ (l : List Pair). MayCome m l mirrors e) same may),
  after,
  subst (λ (l : List Pair). PendingAfter l e after) same known,
  (refl, ap (λ (k : ℕ). mirrored_after k e) sets),
)
come_snoc (d ∷ events) m p mirrored q mirrors e after (first, next, left, more) may known =
    (first, next, left, come_snoc events m next (mirrored_after mirrored d) q mirrors e after more may known)

-- one event more is kept
pub kept : (m : PlantModel) (s : ScriptSoFar) (e : Event) (after : List Pair) → KeepsScript m s → MayCome m s.pending s.mirrored e → PendingAfter s.pending e after → IsRising after → KeepsScript m (with_event s e after)
kept m s e after keeps may known rises = record { rising = rises; come = come_snoc s.events m [] 0 s.pending s.mirrored e after keeps.come may known }

-- ---- made

-- what is pending and mirrored behind an event
changed_known : (m : PlantModel) (x : ExecutiveState) (e : Event) (y : ExecutiveState) → Changes m AsGiven x e y → PendingAfter x.pending e y.pending × (y.mirrored ≡ mirrored_after x.mirrored e)
changed_known m x event.Tick y h = absurd h
changed_known m x (event.Goal pairs) y (goal, given, e) = (ap (λ (s : ExecutiveState). s.pending) e, ap (λ (s : ExecutiveState). s.mirrored) e)
changed_known m x event.Clear y e = (ap (λ (s : ExecutiveState). s.pending) e, ap (λ (s : ExecutiveState). s.mirrored) e)
changed_known m x (event.Observe pairs) y (both, union, e) = (union_same x y pairs both (sym (ap (λ (s : ExecutiveState). s.pending) e)) union, ap (λ (s : ExecutiveState). s.mirrored) e)
changed_known m x (event.Fault p) y e = (ap (λ (s : ExecutiveState). s.pending) e, ap (λ (s : ExecutiveState). s.mirrored) e)
changed_known m x (event.Mirror v) y e = (ap (λ (s : ExecutiveState). s.pending) e, ap (λ (s : ExecutiveState). s.mirrored) e)
changed_known m x event.Reset y e = (ap (λ (s : ExecutiveState). s.pending) e, ap (λ (s : ExecutiveState). s.mirrored) e)

-- one event more is made
pub advances_next : (m : PlantModel) (x y z : ExecutiveState) (events rest : List Event) (e : Event) → Advances m x events y (e ∷ rest) → Changes m AsGiven y e z → FitsModel m z → Advances m x events z rest
advances_next m x y z events rest e h changes fits =
    let (q, mirrors, come) = h.come in
    let (may, after, known, more) = come in
    let truly = changed_known m y e z changes in
    let same : after ≡ z.pending = one_pending y.pending e z.pending after truly.0 known in
    let later : ComeInTurn m z.pending (mirrored_after y.mirrored e) rest q mirrors = subst (λ (l : List Pair). ComeInTurn m l (mirrored_after y.mirrored e) rest q mirrors) same more in
    record {
      fits = fits;
      come = (q, mirrors, subst (λ (k : ℕ). ComeInTurn m z.pending k rest q mirrors) (sym truly.1) later);
      back = λ t comes. h.back t (inr (z, changes, comes));
    }
