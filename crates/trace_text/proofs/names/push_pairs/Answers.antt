use Rattle.std.proofs.lemmas.List.{at_drop_more}
use Rattle.byte_buffer.proofs.Pushing.{continues_then}
use Rattle.trace_text.specs.Names.{pairs_text}
use Rattle.trace_text.proofs.names.push_pairs.Goals as goal

pub loop-pair-preserved : goal.loop-pair-preserved
loop-pair-preserved c =
    let left = at_drop_more (pairs_text c.args.components.now) c.args.pairs.now c.loop-pair.pair-index (record { item = 0; value = 0 }) c.loop-pair-test.true in
    continues_then left c.loop-pair.invariant c.in_ok-push_pair_word.ensures
