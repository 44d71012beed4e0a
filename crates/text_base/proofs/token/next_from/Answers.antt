use Rattle.std.proofs.Common.{arith}
use Rattle.text_base.proofs.Loop.{run_here}
use Rattle.text_base.proofs.token.next_from.Goals as goal

pub returns-in-Run : goal.returns-in-Run
returns-in-Run c = run_here c.args.line.now c.args.from c.blanks.at c.in-Run.kind c.in-Run.more c.blanks.invariant c.blanks-test.true (omega (arith, c.in-Run.ensures.within)) c.in-Run.ensures.value
