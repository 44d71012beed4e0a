-- What a checker keeps fits its model after a yes.
use Rattle.std.proofs.Common.{◌<◌, ◌+◌, ℕ, Bool, true, List, [], Option, None, length, refl, sym, subst}
use Rattle.std.specs.Prelude.{IfSome}
use Rattle.std.proofs.lemmas.List.Elements.{All-nil, All-contains}
use Rattle.cca_base.specs.declared.cube.Pair.{Pair}
use Rattle.cca_base.specs.declared.events.Reply.{Reply}
use Rattle.cca_base.specs.declared.events.Reply.TheVariants.{Idle, Send, Achieved, Unreachable}
use Rattle.cca_base.specs.declared.events.Shown.{Shown}
use Rattle.cca_base.specs.declared.events.Shown.TheVariants.{Estimated, Unexplained, Holding}
use Rattle.cca_base.specs.PlantModel.{PlantModel}
use Rattle.cca_base.specs.Model.{WellFormed, IsMove}
use Rattle.cca_base.specs.State.{IsState, HasValue}
use Rattle.cca_base.specs.Steps.{Step}
use Rattle.cca_base.specs.Successors.{Costs}
use Rattle.cca_base.specs.Trace.{ExecutiveState, command_of}
use Rattle.cca_base.proofs.NominalLaws.{nominal_is_free}
use Rattle.plan_checker.specs.Checked.{Takes}
use Rattle.plan_checker.specs.Reasons.{Printed, OnEstimate, OnCommand, OnSend, IsVerdict}
use Rattle.plan_checker.specs.declared.verdict.Verdict.TheVariants.{Yes}
use Rattle.plan_checker.specs.Standing.{FitsModel}

module _ (m : PlantModel) (good : WellFormed m) where
  -- a command that is a step is one of the model's
  sent_within : (s : List ℕ) (reply : Reply) → OnCommand reply (λ k. (next : List ℕ) × Step m s k next) → IfSome (command_of reply) (λ k. k < length m.commands)
  sent_within s (Send k) (next, step) = subst (λ n. n < length m.commands) step.command (All-contains (IsMove m) m.moves step.move good.moves step.of_model).command
  sent_within s Idle h = tt
  sent_within s Achieved h = tt
  sent_within s (Unreachable c mode) h = tt

  -- another estimate, plant and command, with nothing pending
  counts : (x : ExecutiveState) (estimate plant : List ℕ) (command : Option ℕ) (holding : Bool) (ticks : ℕ) → FitsModel m x → IsState m estimate → IsState m plant
      → IfSome command (λ k. k < length m.commands)
      → FitsModel m (record x { estimate = estimate; command = command; plant = plant; pending = []; holding = holding; ticks = ticks })
  counts x estimate plant command holding ticks h state stands within =
      record { estimate = state; plant = stands; command = within; pending = All-nil (λ (p : Pair). HasValue m p.item p.value); mirrored = h.mirrored; goal = h.goal }

  takes_fit : (x : ExecutiveState) (shown : Shown) (y : ExecutiveState) → FitsModel m x → OnEstimate shown (λ cost s reply. IsState m s)
      → OnSend shown (λ s k. (next : List ℕ) × Step m s k next) → Takes m x shown y → FitsModel m y
  takes_fit x (Estimated cost state reply) y h is step takes = subst (FitsModel m) (sym takes.after)
      (counts x state.modes takes.plant (command_of reply) x.holding (x.ticks + 1) h is (nominal_is_free m x.plant takes.plant (command_of reply) good h.plant takes.moves).state
      (sent_within state.modes reply step))
  takes_fit x Unexplained y h is step e = subst (FitsModel m) (sym e) (counts x x.estimate x.plant None true (x.ticks + 1) h h.estimate h.plant tt)
  takes_fit x Holding y h is step e = subst (FitsModel m) (sym e) (counts x x.estimate x.plant None x.holding (x.ticks + 1) h h.estimate h.plant tt)

-- a printed estimate that has a cost is a state
is_state : (m : PlantModel) (x : ExecutiveState) (shown : Shown) → OnEstimate shown (λ cost s reply. Costs m x.estimate x.command s cost) → OnEstimate shown (λ cost s reply. IsState m s)
is_state m x (Estimated cost state reply) costs = costs.state
is_state m x Unexplained h = tt
is_state m x Holding h = tt

-- after a yes all fits
pub yes_fits : (m : PlantModel) → WellFormed m → (x : ExecutiveState) (t : Printed) (y : ExecutiveState) → FitsModel m x → IsVerdict m x t Yes → Takes m x t.report.shown y → FitsModel m y
yes_fits m good x t y h v takes = takes_fit m good x t.report.shown y h (is_state m x t.report.shown ((v 2).cost refl)) ((v 4).step refl) takes
