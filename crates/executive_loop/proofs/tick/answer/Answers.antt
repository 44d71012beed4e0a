use Rattle.std.proofs.Common.{ℕ, List, [], Option, ◌+◌, ap, subst, ◌∙◌}
use Rattle.cca_base.specs.declared.events.Shown.TheVariants.{Estimated}
use Rattle.cca_base.specs.declared.cube.Pair.{Pair}
use Rattle.cca_base.specs.declared.state.State.{State}
use Rattle.cca_base.specs.Successors.{Nominal}
use Rattle.cca_base.specs.Accepted.{CompiledModel}
use Rattle.cca_base.specs.Plans.{Promising}
use Rattle.cca_base.specs.Trace.{ExecutiveState, IsReply}
use Rattle.executive_loop.proofs.tick.answer.Goals as goal

pub returns-clause-answered : goal.returns-clause-answered
returns-clause-answered c =
    let x : ExecutiveState = c.args.standing.now in
    let b : CompiledModel = c.args.workspace.now.policy.tables.classes.compiled in
    let found : State = c.args.workspace.now.space.found in
    let plant : List ℕ = c.obey.new.plant.modes in
    let reply = c.reply_in-reply.result in
    let taken = c.swap_found.ensures.taken in
    record {
      reply = reply;
      shows = ap (λ (ms : List ℕ). Estimated c.args.cost (record { modes = ms }) reply) (ap (λ (y : ExecutiveState). y.estimate) c.count.ensures ∙ ap (λ (s : State). s.modes) taken);
      replies = subst (λ (z : CompiledModel). IsReply (Promising z) found.modes x.goal reply) c.requires.workspace.tables.own
          (subst (λ (s : State). IsReply (Promising b) s.modes x.goal reply) taken
          (subst (λ (g : Option (List Pair)). IsReply (Promising b) c.swap_found.new.state.modes g reply) (c.goal.ensures.pairs ∙ ap (λ (y : ExecutiveState). y.goal) c.standing.view_is) c.reply_in-reply.ensures.reply));
      plant = plant;
      moves = subst (λ k. Nominal c.args.compiled.now.value.model x.plant k plant) c.command_of-command.ensures (rw (← c.standing.view_is, ← c.deref.ensures) c.obey.ensures.moves);
      after = c.count.ensures
          ∙ (λ i. record (c.standing.view_is i) { estimate = (taken i).modes; command = c.command_of-command.ensures i; plant = plant; pending = []; ticks = (c.standing.view_is i).ticks + 1 });
    }
