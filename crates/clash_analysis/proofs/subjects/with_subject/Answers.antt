use Rattle.std.proofs.Common.{arith}
use Rattle.clash_analysis.proofs.SubjectSetLaws.{with_in}
use Rattle.clash_analysis.proofs.subjects.with_subject.Goals as goal

pub returns : goal.returns
returns c = with_in c.args.set.now.words c.args.n (omega arith)
