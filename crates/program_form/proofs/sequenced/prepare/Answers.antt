use Rattle.std.proofs.Common.{◌≡◌, None, Some, refl, subst, ◌∙◌}
use Rattle.cca_base.specs.Plans.{Promising}
use Rattle.control_program.specs.Rooms.{goal_in}
use Rattle.program_form.specs.ProgramMachine.{sequencer}
use Rattle.program_form.specs.PutIn.{TurnsBefore, asks}
use Rattle.trace_laws.specs.Events.{Acts}
use Rattle.program_form.proofs.RunningWell.{ends_by}
use Rattle.program_form.proofs.sequenced.prepare.Goals as goal

pub returns-clause-puts : goal.returns-clause-puts
returns-clause-puts c =
    let x = c.args.executive.now in
    let old = c.args.running.now.runner in
    let next = c.turn.new.running.runner in
    let aim = goal_in c.turn.new.running.room in (
      Some (asks aim),
      subst (λ holding. TurnsBefore holding x.compiled.model (sequencer x.state old) (Some (asks aim)) next) c.if-holding.ensures (aim, c.turn.ensures.turn, refl),
      subst (λ g. Acts x.compiled (Promising x.compiled) x.state (asks g) c.ask.new.executive.state None) c.goal.ensures c.ask.ensures.acts,
      c.ends.ensures ∙ ends_by old next c.ended-before.result c.ended.result c.ended-before.ensures c.ended.ensures,
    )
