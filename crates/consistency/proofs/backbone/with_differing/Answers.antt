use Rattle.consistency.proofs.BackboneLaws.{more_varied}
use Rattle.consistency.proofs.backbone.with_differing.Goals as goal

pub returns : goal.returns
returns c clauses base one other known = more_varied clauses base c.args.subjects.now c.loop-at.varied c.args.one.now c.args.other.now one other known c.loop-at.invariant
