use Rattle.group_search.proofs.JoinLaws.{renames_there, renames_not}
use Rattle.std.proofs.Common.{◌∙◌, arith}
use Rattle.group_search.proofs.groups.rename.Goals.{then-get-from, else-get-from}
use Rattle.group_search.proofs.groups.rename.Goals as goal

pub loop-at-preserved : goal.loop-at-preserved
loop-at-preserved c =
    let old = c.args.names.now in
    let at = c.loop-at.at in
    elim c.if-get-from.branch [
      | then-get-from w ↦ w.names-is ∙ w.set.ensures ∙ renames_there c.args.from c.args.to old c.loop-at.names at c.get.result.now (omega (arith, c.loop-at-test.true, c.len-at-end.ensures)) c.loop-at.invariant c.get.ensures.item w.if-get-from.true
      | else-get-from w ↦ w.names-is ∙ renames_not c.args.from c.args.to old c.loop-at.names at c.get.result.now (omega (arith, c.loop-at-test.true, c.len-at-end.ensures)) c.loop-at.invariant c.get.ensures.item w.if-get-from.false
    ]
