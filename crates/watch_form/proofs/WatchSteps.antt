-- What a tick leads to.
use Rattle.std.proofs.Common.{◌≡◌, ℕ, ◌+◌, List, refl, ap, ◌∙◌}
use Rattle.cca_base.specs.Accepted.{CompiledModel}
use Rattle.cca_base.specs.PlantModel.{PlantModel}
use Rattle.line_machine.specs.Next.{GoesOn}
use Rattle.watch_lines.specs.declared.watch_event.WatchEvent.TheVariants as events
use Rattle.window_laws.specs.Ticks.{Answer, Found, Unexplained, Holding, Ticks, TrackerState}
use Rattle.window_laws.specs.Trajectories.{Entry}
use Rattle.watch_form.specs.Answered.{answer_line}
use Rattle.watch_form.specs.Calls.{nothing_pending}
use Rattle.watch_form.specs.WatchMachine.{WatchState, ServesEvent, TicksTo, tracking}

-- the same tracker with nothing pending
pub tracking_is : (x : WatchState) (b : CompiledModel) (s : TrackerState) (p : Entry) → b ≡ x.compiled → p ≡ nothing_pending → record { compiled = b; state = s; pending = p } ≡ tracking x s
tracking_is x b s p compiled none = λ i. record { compiled = compiled i; state = s; pending = none i }

-- a tick is one more
one_more : (m : PlantModel) (s z : TrackerState) (entry : Entry) (answer : Answer) → Ticks m s entry z answer → z.ticks ≡ s.ticks + 1
one_more m s z entry (Found states cost revised) h = ap (λ (t : TrackerState). t.ticks) h.after
one_more m s z entry Unexplained h = ap (λ (t : TrackerState). t.ticks) h.2
one_more m s z entry Holding h = ap (λ (t : TrackerState). t.ticks) h.1

-- the line of a tick that was made
pub ticked : (x y : WatchState) (answer : Answer) (m : PlantModel) (tick : ℕ) (text : List ℕ) → TicksTo x y answer → m ≡ y.compiled.model → tick ≡ y.state.ticks → text ≡ answer_line m (record { tick = tick; answer = answer })
    → ServesEvent events.Tick x (GoesOn y) text
ticked x y answer m tick text (z, ticks, to) model number words =
    let compiled : m ≡ x.compiled.model = model ∙ ap (λ (w : WatchState). w.compiled.model) to in
    let count : tick ≡ x.state.ticks + 1 = number ∙ ap (λ (w : WatchState). w.state.ticks) to ∙ one_more x.compiled.model x.state z x.pending answer ticks in
    (y, answer, (z, ticks, to), refl, words ∙ (λ i. answer_line (compiled i) (record { tick = count i; answer = answer })))
