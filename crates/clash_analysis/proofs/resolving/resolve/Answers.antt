use Rattle.clash_analysis.proofs.TakenLaws.{resolved_with, resolved_without}
use Rattle.clash_analysis.proofs.resolving.resolve.Goals as goal

pub returns-in-Because : goal.returns-in-Because
returns-in-Because c =
    resolved_with c.args.start.now c.args.dom.now c.args.learn.now c.add_taken.new.learn c.args.e.now c.in-Because.set c.requires.inside c.in-Because.is c.add_taken.ensures.long c.add_taken.ensures.values

pub returns-in_default : goal.returns-in_default
returns-in_default c = resolved_without c.args.start.now c.args.dom.now c.args.learn.now c.args.e.now c.requires.inside c.in_default.not-Because
