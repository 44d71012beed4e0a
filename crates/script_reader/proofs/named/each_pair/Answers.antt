use Rattle.std.proofs.Common.{sym, ◌∙◌}
use Rattle.script_reader.specs.Named.{stands_for}
use Rattle.script_reader.proofs.PairsSoFar.{pair_read, pair_missing}
use Rattle.script_reader.proofs.named.each_pair.Goals as goal

pub returns-in-None : goal.returns-in-None
returns-in-None c =
    let f = stands_for c.args.naming c.args.model.now in
    sym (pair_missing f c.loop-one.pairs c.args.named.now c.loop-one.one-index _ c.loop-one-test.true c.in-None.ensures) ∙ c.loop-one.invariant

pub loop-one-preserved : goal.loop-one-preserved
loop-one-preserved c =
    let f = stands_for c.args.naming c.args.model.now in
    let read = pair_read f c.loop-one.pairs c.args.named.now c.loop-one.one-index _ c.in-Some.pair c.loop-one-test.true c.in-Some.ensures in
    rw c.in_ok-push-in-Some.ensures.ok (read ∙ c.loop-one.invariant)
