use Rattle.std.proofs.Common.{get_or, inl, inr}
use Rattle.clash_analysis.specs.declared.entry.Entry.{Entry}
use Rattle.clash_analysis.specs.declared.entry.Why.TheVariants.{Assumed}
use Rattle.clash_analysis.proofs.CodeLaws.{shares_all, shares_more, shares_none}
use Rattle.clash_analysis.proofs.lower.is_apart.Goals as goal
use Rattle.clash_analysis.proofs.lower.is_apart.Goals.{else-e-u-via-then-e-u+else-learn-e-ne0, else-e-u-via-else-e-u}

abbrev some_entry : Entry
some_entry = record { subject = 0; before = 0; kept = 0; why = Assumed }

pub loop-i-preserved : goal.loop-i-preserved
loop-i-preserved c =
    shares_more c.args.learn.now c.args.u c.args.back.now c.loop-i.i some_entry c.loop-i-test.true c.loop-i.invariant
    (shares_none c.args.learn.now c.args.u (get_or c.args.back.now c.loop-i.i some_entry) (elim c.else-e-u.branch [
      | else-e-u-via-then-e-u+else-learn-e-ne0 w ↦ inr w.if-learn-e-ne0.false
      | else-e-u-via-else-e-u w ↦ inl w.if-e-u.false
    ]))

pub returns : goal.returns
returns c = shares_all c.args.learn.now c.args.u c.args.back.now c.loop-i.i c.loop-i-test.false c.loop-i.invariant
