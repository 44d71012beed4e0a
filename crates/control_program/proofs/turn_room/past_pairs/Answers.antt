use Rattle.std.proofs.Common.{◌<◌, All, subst, arith}
use Rattle.std.proofs.lemmas.List.{take_all}
use Rattle.cca_base.specs.declared.cube.Pair.{Pair}
use Rattle.control_program.proofs.AskedParts.{pairs_more}
use Rattle.control_program.proofs.turn_room.past_pairs.Goals as goal

pub loop-pair-preserved : goal.loop-pair-preserved
loop-pair-preserved c =
    let none : Pair = record { item = 0; value = 0 } in
    record {
      past = pairs_more c.args.pairs.now c.loop-pair.pair-index c.loop-pair.past c.max-past.result none c.loop-pair-test.true c.loop-pair.invariant.past (omega (arith, c.max-past.ensures)) (omega (arith, c.max-past.ensures));
      least = omega (arith, c.max-past.ensures, c.loop-pair.invariant.least);
      small = omega (arith, c.max-past.ensures, c.loop-pair.invariant.small);
    }

pub returns-clause-past : goal.returns-clause-past
returns-clause-past c = subst (All (λ (p : Pair). p.item < c.loop-pair.past)) (take_all c.loop-pair.pair-index c.args.pairs.now c.loop-pair-test.false) c.loop-pair.invariant.past
