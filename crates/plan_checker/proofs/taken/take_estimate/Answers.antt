use Rattle.std.proofs.Common.{[], subst, ◌∙◌}
use Rattle.cca_base.specs.Successors.{Nominal}
use Rattle.cca_base.specs.Trace.{ExecutiveState}
use Rattle.plan_checker.proofs.taken.take_estimate.Goals as goal

pub returns-clause-takes : goal.returns-clause-takes
returns-clause-takes c =
    let x : ExecutiveState = c.args.standing.now in
    let plant = c.make_nominal.new.state.modes in
    record {
      plant = plant;
      moves = subst (λ k. Nominal c.args.rules.now.model.now x.plant k plant) c.command_of-command.ensures (rw (← c.standing.view_is) c.in_ok-make_nominal.ensures.nominal);
      after = c.count.ensures
          ∙ (λ i. record (c.standing.view_is i) { estimate = (c.in_ok-estimate.ensures i).modes; command = c.command_of-command.ensures i; plant = plant; pending = []; ticks = c.requires.next i });
    }
