-- In a check a line says one thing, and an item that is said leads to one state and one text. The proofs stand here since a form of lines names them.
use Rattle.std.proofs.Common.{◌≡◌, ◌⊎◌, ◌<◌, ◌+◌, ℕ, List, [], ◌∷◌, Option, Some, None, Result, Ok, Contains, inl, inr, refl, sym, ap, subst, ◌∙◌}
use Rattle.std.proofs.lemmas.Bool.{cases_order}
use Rattle.cca_base.specs.declared.cube.Pair.{Pair}
use Rattle.cca_base.specs.declared.events.Event.{Event}
use Rattle.cca_base.specs.declared.events.Event.TheVariants as event
use Rattle.cca_base.specs.declared.events.Shown.{Shown}
use Rattle.cca_base.specs.declared.events.Shown.TheVariants.{Estimated, Unexplained, Holding}
use Rattle.cca_base.specs.Accepted.{CompiledModel}
use Rattle.cca_base.specs.Model.{WellFormed}
use Rattle.cca_base.specs.PlantModel.{PlantModel}
use Rattle.cca_base.specs.Trace.{ExecutiveState, Changes, command_of, start}
use Rattle.cca_base.proofs.NominalLaws.{one_nominal}
use Rattle.cca_laws.proofs.OneOrder.{one_union}
use Rattle.line_machine.specs.Next.{Next, GoesOn}
use Rattle.plan_checker.specs.Checked.{Takes}
use Rattle.plan_checker.specs.Reasons.{Printed, IsVerdict}
use Rattle.plan_checker.specs.declared.verdict.Verdict.{Verdict}
use Rattle.plan_checker.specs.declared.verdict.Verdict.TheVariants.{Yes, No}
use Rattle.trace_laws.specs.Events.{AsGiven, IsTick}
use Rattle.trace_laws.proofs.PendingKnown.{one_pending}
use Rattle.trace_text.specs.declared.trace_line.TraceLine.{TraceLine}
use Rattle.trace_text.proofs.OneTextEach.{lines_are_told_apart}
use Rattle.check_form.specs.CheckMachine.{CheckState, InScript, InTrace, TraceSteps, SaysIn, ServesIn, check_lines}
use Rattle.check_form.specs.CheckScript.{with_event}
use Rattle.check_form.specs.CheckTrace.{TraceSoFar, TraceOutcome, Follows, Fails, ComesTo, SaysLine, ByVerdict, ByLines, LeadsBehind, TraceLeads, with_said}
use Rattle.check_form.specs.declared.item.CheckItem.{CheckItem}
use Rattle.check_form.specs.declared.item.CheckItem.TheVariants as items
use Rattle.check_form.specs.TickLines.{TickLines, NotNext, More, Whole}
use Rattle.model_form.specs.OneStep.{AreOne}

-- ---- events

one_changed : (m : PlantModel) (x : ExecutiveState) (e : Event) (y z : ExecutiveState) → Changes m AsGiven x e y → Changes m AsGiven x e z → y ≡ z
one_changed m x (event.Goal pairs) y z (p, h, e) (q, k, f) = e ∙ (λ i. record x { goal = Some ((h ∙ sym k) i) }) ∙ sym f
one_changed m x event.Clear y z e f = e ∙ sym f
one_changed m x (event.Observe pairs) y z (p, h, e) (q, k, f) = e ∙ (λ i. record x { pending = one_union (Contains x.pending) (Contains pairs) p q h k i }) ∙ sym f
one_changed m x (event.Fault p) y z e f = e ∙ sym f
one_changed m x (event.Mirror v) y z e f = e ∙ sym f
one_changed m x event.Reset y z e f = e ∙ sym f
one_changed m x event.Tick y z e f = absurd e

-- a tick changes nothing by itself
never_tick : (m : PlantModel) (x : ExecutiveState) (e : Event) (y : ExecutiveState) → IsTick e → Changes m AsGiven x e y → ⊥
never_tick m x event.Tick y tick h = h
never_tick m x (event.Goal pairs) y tick h = tick
never_tick m x event.Clear y tick h = tick
never_tick m x (event.Observe pairs) y tick h = tick
never_tick m x (event.Fault p) y tick h = tick
never_tick m x (event.Mirror v) y tick h = tick
never_tick m x event.Reset y tick h = tick

comes_once : (events : List Event) (m : PlantModel) (x : ExecutiveState) (t u : TraceSoFar) → ComesTo m x events t → ComesTo m x events u → t ≡ u
comes_once [] m x t u h k = h ∙ sym k
comes_once (e ∷ events) m x t u (inl h) (inl k) = h.1 ∙ sym k.1
comes_once (e ∷ events) m x t u (inl h) (inr (z, d, k)) = absurd (never_tick m x e z h.0 d)
comes_once (e ∷ events) m x t u (inr (y, c, h)) (inl k) = absurd (never_tick m x e y k.0 c)
comes_once (e ∷ events) m x t u (inr (y, c, h)) (inr (z, d, k)) =
    comes_once events m z t u (subst (λ (w : ExecutiveState). ComesTo m w events t) (one_changed m x e y z c d) h) k

-- ---- a line of the trace

said_once : (m : PlantModel) → WellFormed m → (l : List ℕ) (a b : Option TraceLine) → SaysLine m l a → SaysLine m l b → a ≡ b
said_once m good l (Some a) (Some b) h k = ap Some (lines_are_told_apart m good a b h.0 k.0 (h.1 ∙ sym k.1))
said_once m good l (Some a) None h k = absurd (k a h.0 h.1)
said_once m good l None (Some b) h k = absurd (h b k.0 k.1)
said_once m good l None None h k = refl

-- the least reason is one
no_less : (m : PlantModel) (x : ExecutiveState) (t : Printed) (r q : ℕ) → IsVerdict m x t (No r) → IsVerdict m x t (No q) → r < q → ⊥
no_less m x t r q h k less = h.0 (k.1 r less)

one_by : (r q : ℕ) → (r ≡ q) ⊎ ((r < q) ⊎ (q < r)) → (r < q → ⊥) → (q < r → ⊥) → r ≡ q
one_by r q (inl same) h k = same
one_by r q (inr (inl less)) h k = absurd (h less)
one_by r q (inr (inr more)) h k = absurd (k more)

verdict_once : (m : PlantModel) (x : ExecutiveState) (t : Printed) (v w : Verdict) → IsVerdict m x t v → IsVerdict m x t w → v ≡ w
verdict_once m x t Yes Yes h k = refl
verdict_once m x t Yes (No r) h k = absurd (k.0 (h r))
verdict_once m x t (No r) Yes h k = absurd (h.0 (k r))
verdict_once m x t (No r) (No q) h k = ap No (one_by r q (cases_order r q) (no_less m x t r q h k) (no_less m x t q r k h))

takes_once : (m : PlantModel) → WellFormed m → (x : ExecutiveState) (shown : Shown) (y z : ExecutiveState) → Takes m x shown y → Takes m x shown z → y ≡ z
takes_once m good x (Estimated cost state reply) y z h k =
    h.after
    ∙ (λ i. record x { estimate = state.modes; command = command_of reply; plant = one_nominal m x.plant (command_of reply) h.plant k.plant good.commands h.moves k.moves i; pending = []; ticks = x.ticks + 1 })
    ∙ sym k.after
takes_once m good x Unexplained y z h k = h ∙ sym k
takes_once m good x Holding y z h k = h ∙ sym k

by_verdict_once : (v : Verdict) (m : PlantModel) → WellFormed m → (x : ExecutiveState) (t : Printed) (events : List Event) (o p : TraceOutcome) → ByVerdict v m x t events o → ByVerdict v m x t events p → o ≡ p
by_verdict_once (No reason) m good x t events o p h k = h ∙ sym k
by_verdict_once Yes m good x t events o p (seen, y, takes, next, comes, h) (seen', z, takes', next', comes', k) =
    let same : y ≡ z = takes_once m good x t.report.shown y z takes takes' in
    h ∙ ap Follows (comes_once events m z next next' (subst (λ (w : ExecutiveState). ComesTo m w events next) same comes) comes') ∙ sym k

by_lines_once : (lines : TickLines) (m : PlantModel) → WellFormed m → (x : TraceSoFar) (events : List Event) (o p : TraceOutcome) → ByLines lines m x events o → ByLines lines m x events p → o ≡ p
by_lines_once NotNext m good x events o p h k = h ∙ sym k
by_lines_once (More lines) m good x events o p h k = h ∙ sym k
by_lines_once (Whole t) m good x events o p (v, is, h) (w, is', k) =
    by_verdict_once w m good x.state t events o p (subst (λ (u : Verdict). ByVerdict u m x.state t events o) (verdict_once m x.state t v w is is') h) k

behind_once : (behind : Option (List Event)) (m : PlantModel) → WellFormed m → (x : TraceSoFar) (l : List ℕ) (o p : TraceOutcome) → LeadsBehind behind m x l o → LeadsBehind behind m x l p → o ≡ p
behind_once None m good x l o p h k = h ∙ sym k
behind_once (Some events) m good x l o p (a, says, h) (b, says', k) =
    by_lines_once (with_said x b) m good x events o p (subst (λ (z : Option TraceLine). ByLines (with_said x z) m x events o) (said_once m good l a b says says') h) k

trace_leads_once : (m : PlantModel) → WellFormed m → (x : TraceSoFar) (l : List ℕ) (o p : TraceOutcome) → TraceLeads m x l o → TraceLeads m x l p → o ≡ p
trace_leads_once m good x l o p h k = behind_once x.behind m good x l o p h k

-- ---- the lines

trace_step_one : (o : TraceOutcome) (b : CompiledModel) (x : TraceSoFar) (u v : Next CheckState) (a c : List ℕ) → TraceSteps o b x u a → TraceSteps o b x v c → AreOne u v a c
trace_step_one (Follows t) b x u v a c h k = (h.0 ∙ sym k.0, h.1 ∙ sym k.1)
trace_step_one (Fails reason) b x u v a c h k = (h.0 ∙ sym k.0, h.1 ∙ sym k.1)

serves_in : (i : CheckItem) (s : CheckState) (l : List ℕ) (u v : Next CheckState) (a c : List ℕ) → SaysIn s l (Ok (Some i)) → ServesIn i s u a → ServesIn i s v c → AreOne u v a c
serves_in (items.Keeps e) (InScript b s) l u v a c says (after, known, h) (other, also, k) =
    (h.0 ∙ ap (λ (z : List Pair). GoesOn (InScript b (with_event s e z))) (one_pending s.pending e other after also known) ∙ sym k.0, h.1 ∙ sym k.1)
serves_in items.Trace (InScript b s) l u v a c says (x, comes, h) (y, comes', k) =
    (h.0 ∙ ap (λ (z : TraceSoFar). GoesOn (InTrace b z)) (comes_once s.events b.model (start b.model 0) x y comes comes') ∙ sym k.0, h.1 ∙ sym k.1)
serves_in (items.Judges line) (InScript b s) l u v a c says h k = absurd h
serves_in (items.Keeps e) (InTrace b x) l u v a c says h k = absurd h
serves_in items.Trace (InTrace b x) l u v a c says h k = absurd h
serves_in (items.Judges line) (InTrace b x) l u v a c says (o, leads, h) (p, leads', k) =
    trace_step_one p b x u v a c (subst (λ (z : TraceOutcome). TraceSteps z b x u a) (trace_leads_once b.model says.0.accepted.well_formed x line o p leads leads') h) k

pub serves_one : (i : CheckItem) (s : CheckState) (l : List ℕ) (n : ℕ) (u v : Next CheckState) (a c : List ℕ) → check_lines.said s l (Ok (Some i)) → check_lines.serves i s n u a → check_lines.serves i s n v c → (u ≡ v) × (a ≡ c)
serves_one i s l n u v a c says h k = serves_in i s l u v a c says h k

pub said_one : (s : CheckState) (l : List ℕ) (a b : Result (Option CheckItem) ℕ) → check_lines.said s l a → check_lines.said s l b → a ≡ b
said_one (InScript b s) l r q h k = h.1 ∙ sym k.1
said_one (InTrace b x) l r q h k = h.1 ∙ sym k.1
