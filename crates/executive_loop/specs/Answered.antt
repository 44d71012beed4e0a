-- What is made of an estimate.
use Rattle.std.specs.Prelude.{◌≡◌, ℕ, ◌+◌, List, []}
use Rattle.cca_base.specs.declared.events.Reply.{Reply}
use Rattle.cca_base.specs.declared.events.Shown.{Shown}
use Rattle.cca_base.specs.declared.events.Shown.TheVariants.{Estimated}
use Rattle.cca_base.specs.declared.state.State.{State}
use Rattle.cca_base.specs.Accepted.{CompiledModel}
use Rattle.cca_base.specs.Plans.{Promising}
use Rattle.cca_base.specs.Successors.{Nominal}
use Rattle.cca_base.specs.Trace.{ExecutiveState, IsReply, command_of}

-- from x to y: the estimate is shown with a reply to the goal, and the plant makes the nominal move of its command
pub record IsAnswered (b : CompiledModel) (x : ExecutiveState) (cost : ℕ) (state : State) (shown : Shown) (y : ExecutiveState) : Type 0 where
  pub reply : Reply
  pub shows : shown ≡ Estimated cost state reply
  pub replies : IsReply (Promising b) state.modes x.goal reply
  pub plant : List ℕ
  pub moves : Nominal b.model x.plant (command_of reply) plant
  pub after : y ≡ record x { estimate = state.modes; command = command_of reply; plant = plant; pending = []; ticks = x.ticks + 1 }
