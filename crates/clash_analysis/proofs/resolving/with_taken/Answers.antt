use Rattle.std.proofs.Common.{arith}
use Rattle.clash_analysis.proofs.TakenLaws.{taken_in}
use Rattle.clash_analysis.proofs.resolving.with_taken.Goals as goal

pub returns : goal.returns
returns c = taken_in c.args.learn c.args.start c.args.dom (omega arith) (omega arith)
