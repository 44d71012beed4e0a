use Rattle.std.proofs.Common.{arith}
use Rattle.trajectory_estimator.proofs.PriceLaws.{takes_all, takes_more, takes_none}
use Rattle.trajectory_estimator.proofs.prices.Passed.take_from.Goals as goal

pub loop-to-init : goal.loop-to-init
loop-to-init c = takes_none c.args.head c.args.leaving.now c.args.ahead.now c.args.self.now

pub loop-to-preserved : goal.loop-to-preserved
loop-to-preserved c =
    takes_more c.args.head c.args.leaving.now c.args.ahead.now c.loop-to.to c.args.self.now c.loop-to.self c.take_to.new.self c.loop-to.invariant c.take_to.ensures.kept c.take_to.ensures.taken

pub returns-clause-taken : goal.returns-clause-taken
returns-clause-taken c =
    takes_all c.args.head c.args.leaving.now c.args.ahead.now c.loop-to.to c.args.self.now c.loop-to.self c.loop-to.invariant (omega arith)

pub returns-clause-kept : goal.returns-clause-kept
returns-clause-kept c = c.loop-to.invariant.kept
