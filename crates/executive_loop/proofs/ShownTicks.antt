-- What a tick shows, of an answered estimate and of none.
use Rattle.std.proofs.Common.{◌≡◌, ◌+◌, ℕ, true, false, List, [], None, sym, subst}
use Rattle.cca_base.specs.declared.cube.Pair.{Pair}
use Rattle.cca_base.specs.declared.events.Shown.{Shown}
use Rattle.cca_base.specs.declared.events.Shown.TheVariants.{Unexplained}
use Rattle.cca_base.specs.declared.state.State.{State}
use Rattle.cca_base.specs.Accepted.{CompiledModel}
use Rattle.cca_base.specs.Estimates as estimates
use Rattle.cca_base.specs.Plans.{Promising}
use Rattle.cca_base.specs.Trace.{ExecutiveState, Observed, TickShows}
use Rattle.executive_loop.specs.Answered.{IsAnswered}

module _ (b : CompiledModel) (x : ExecutiveState) (going : x.holding ≡ false) (seen : List Pair) (observed : Observed b.model x seen) where
  pub shows_answered : (cost : ℕ) (state : State) (shown : Shown) (y : ExecutiveState) → estimates.Estimate b.model x.estimate x.command seen state.modes cost
      → IsAnswered b x cost state shown y → TickShows b.model (Promising b) x shown y
  shows_answered cost state shown y estimate h = subst (λ u. TickShows b.model (Promising b) x u y) (sym h.shows) (record {
    going = going;
    seen = seen;
    observed = observed;
    estimate = estimate;
    replies = h.replies;
    plant = h.plant;
    moves = h.moves;
    after = h.after;
  })

  pub shows_unexplained : (y : ExecutiveState) → estimates.Unexplained b.model x.estimate x.command seen
      → y ≡ record x { command = None; pending = []; holding = true; ticks = x.ticks + 1 } → TickShows b.model (Promising b) x Unexplained y
  shows_unexplained y unexplained after = record {
    going = going;
    seen = seen;
    observed = observed;
    unexplained = unexplained;
    after = after;
  }
