-- Where each reply is promising, the promises are kept.
use Rattle.std.proofs.Common.{◌≡◌, false, List, [], refl, subst, Some}
use Rattle.cca_base.specs.declared.cube.Pair.{Pair}
use Rattle.cca_base.specs.declared.events.Event.{Event}
use Rattle.cca_base.specs.declared.events.Shown.{Shown}
use Rattle.cca_base.specs.declared.events.Shown.TheVariants.{Estimated, Unexplained, Holding}
use Rattle.cca_base.specs.declared.events.TickReport.{TickReport}
use Rattle.cca_base.specs.Accepted.{CompiledModel, IsCompiled}
use Rattle.cca_base.specs.Bounds.{stated_number}
use Rattle.cca_base.specs.Choice.{IsChosenReply}
use Rattle.cca_base.specs.Trace.{ExecutiveState, start, IsReply, TickShows}
use Rattle.cca_base.specs.Runs.{Ticks, Trace, HasEstimate, reply_of, is_unreachable, Within}
use Rattle.cca_base.specs.Plans.{CanBeServed, Promising}
use Rattle.trace_laws.specs.Held.{WithinHeld}
use Rattle.trace_laws.specs.Laws.{PromisingTracesKeep, PromisingTracesHold}
use Rattle.trace_laws.proofs.TicksLink.{Linked, linked, came, Came}
use Rattle.trace_laws.proofs.StaysRight.{stays_right}
use Rattle.trace_laws.proofs.GoalsServed.{held, stretch_served, plan_left, right_at, goal_at}
use Rattle.cca_laws.proofs.WeakerReplies.{ticks_too}

module _ (b : CompiledModel) where
  -- a right tick whose reply does not say unreachable shows that the goal can be served
  promised : (goal : List Pair) (x : ExecutiveState) (shown : Shown) (y : ExecutiveState) → x.goal ≡ Some goal → HasEstimate shown x.plant → is_unreachable (reply_of shown) ≡ false
      → TickShows b.model (Promising b) x shown y → CanBeServed b x.plant goal
  promised goal x (Estimated cost state reply) y is right able shows =
      let own : Promising b state.modes goal reply = subst (λ g. IsReply (Promising b) state.modes g reply) is shows.replies in
      subst (λ s. CanBeServed b s goal) right (own.served able)
  promised goal x Unexplained y is right able shows = absurd right
  promised goal x Holding y is right able shows = absurd right

  module _ (compiled : IsCompiled b) (events : List Event) (reports : List TickReport) (t : Trace b (Promising b) events reports) where
    chosen_made : Ticks b (IsChosenReply b) (start b.model 0) [] events t.ticks
    chosen_made = ticks_too (Promising b) (IsChosenReply b) (λ s goal reply h. h.chosen) b (start b.model 0) [] events t.ticks t.made

    links : Linked b (Promising b) (start b.model 0) t.ticks
    links = linked b (Promising b) events (start b.model 0) (start b.model 0) [] t.ticks refl t.made

    chosen_links : Linked b (IsChosenReply b) (start b.model 0) t.ticks
    chosen_links = linked b (IsChosenReply b) events (start b.model 0) (start b.model 0) [] t.ticks refl chosen_made

    pub within_held : WithinHeld b t.ticks
    within_held goal i j h =
        stretch_served b compiled.accepted.well_formed goal (stated_number b.bounds goal) (start b.model 0) t.ticks i j chosen_links h (λ u at state reached.
        let c : Came b (Promising b) (start b.model 0) t.ticks i u = came b (Promising b) (start b.model 0) t.ticks i u links at in
        plan_left b compiled goal u.before.plant state
        (promised goal u.before u.report.shown c.leads (goal_at t.ticks goal i j u h at) (right_at t.ticks goal i j u h at) (h.reachable u at) c.shows))

    keeps_within : Within b t.ticks
    keeps_within goal i j h = within_held goal i j (held t.ticks goal i j h)

pub promising_traces_keep : PromisingTracesKeep
promising_traces_keep b events reports compiled t = (
  chosen_made b compiled events reports t,
  keeps_within b compiled events reports t,
  stays_right b compiled.accepted.well_formed (IsChosenReply b) 0 t.ticks (chosen_links b compiled events reports t),
)

pub promising_traces_hold : PromisingTracesHold
promising_traces_hold b events reports compiled t = within_held b compiled events reports t
