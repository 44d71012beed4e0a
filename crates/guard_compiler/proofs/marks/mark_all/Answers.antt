use Rattle.std.proofs.Common.{All, subst}
use Rattle.std.proofs.lemmas.List.{take_all}
use Rattle.cca_base.specs.Flags.{is_set}
use Rattle.guard_compiler.specs.Naming.{IsOver}
use Rattle.guard_compiler.proofs.MarkLaws.{all_marked_more}
use Rattle.guard_compiler.proofs.marks.mark_all.Goals as goal

pub loop-clause-preserved : goal.loop-clause-preserved
loop-clause-preserved c =
    all_marked_more c.args.components c.args.clauses.now c.args.marks.now c.loop-clause.marks c.mark.new.marks c.loop-clause.clause-index c.clause-item.result c.loop-clause.invariant
    c.loop-clause-test.true c.clause-item.is c.mark.ensures.keeps c.mark.ensures.over

pub returns-clause-over : goal.returns-clause-over
returns-clause-over c =
    subst (All (IsOver c.args.components (is_set c.loop-clause.marks))) (take_all c.loop-clause.clause-index c.args.clauses.now c.loop-clause-test.false) c.loop-clause.invariant.over
