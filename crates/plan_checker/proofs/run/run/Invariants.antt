use Rattle.std.proofs.Common.{drop}
use Rattle.std.specs.Prelude.{IfSome}
use Rattle.cca_base.specs.State.{IsState}
use Rattle.consistency.specs.Spaces.{IsWorldSpace}
use Rattle.plan_checker.proofs.RunLaws.{IsOnWay}
use Rattle.plan_checker.proofs.run.run.Given as goal

abbrev pub invariant-loop-command : goal.invariant-loop-command
invariant-loop-command l = record {
  on_way : IsOnWay l.rules.model.now l.initial.state.modes l.commands l.state.modes (drop l.command-index l.commands);
  state : IsState l.rules.model.now l.state.modes;
  space : IfSome l.space (IsWorldSpace l.rules.worlds.now);
}
