use Rattle.std.proofs.Common.{◌-◌, get_or, length-set, ◌∙◌, arith}
use Rattle.clash_analysis.specs.declared.entry.Entry.{Entry}
use Rattle.clash_analysis.specs.declared.entry.Why.TheVariants.{Assumed}
use Rattle.clash_analysis.proofs.CodeLaws.{undone_more}
use Rattle.clash_analysis.proofs.lower.undo.Goals as goal

abbrev some_entry : Entry
some_entry = record { subject = 0; before = 0; kept = 0; why = Assumed }

pub loop-i-preserved : goal.loop-i-preserved
loop-i-preserved c =
    let e = get_or c.args.back.now (c.loop-i.i - 1) some_entry in
    record {
      long = length-set c.loop-i.dom e.subject e.before ∙ c.loop-i.invariant.long;
      trail = λ want pairs start front t. undone_more want pairs start front c.args.back.now c.loop-i.dom c.loop-i.i some_entry (omega arith) (omega arith) (c.loop-i.invariant.trail want pairs start front t);
    }
