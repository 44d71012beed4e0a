use Rattle.executive_loop.specs.Borrowed.{event_read}
use Rattle.program_form.proofs.MadeEvents.{runs_left}
use Rattle.program_form.proofs.sequenced.make_other.Goals as goal

pub returns-clause-well : goal.returns-clause-well
returns-clause-well c = runs_left c.args.executive.now.compiled.model (event_read c.args.event) c.args.running.now c.follow.new.runner c.follow.ensures c.requires.well
