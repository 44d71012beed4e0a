use Rattle.std.proofs.Common.{◌<◌, length, ap, arith}
use Rattle.std.proofs.lemmas.Result.{err_from_is_err_and}
use Rattle.acceptance.proofs.AllWaysFound.{ways_none, ways_more, ways_all, ways_stop}
use Rattle.acceptance.proofs.all_ways.all_ways.Goals as goal

pub loop-i-init : goal.loop-i-init
loop-i-init c = rw c.new-all.ensures (ways_none c.args.model.now)

pub loop-i-preserved : goal.loop-i-preserved
loop-i-preserved c =
    rw c.in_ok-push.ensures.ok (ways_more c.args.model.now c.loop-i.all c.loop-i.i c.loop-i.invariant c.in_ok-cubes.cubes c.in_ok-cubes.ensures.ways.ways c.in_ok-cubes.ensures.ways.few)

pub returns-in_err-cubes-clause-refused : goal.returns-in_err-cubes-clause-refused
returns-in_err-cubes-clause-refused c =
    let within : c.loop-i.i < length c.args.model.now.moves = omega (arith, c.loop-i-test.true, c.len-i-end.ensures, ap length c.moves.ensures.value) in
    let p = err_from_is_err_and c.from_residual.result c.from_residual.ensures.1 in
    rw (p.1, p.2) (ways_stop c.args.model.now c.loop-i.all c.loop-i.i c.loop-i.invariant c.in_err-cubes.field-0.0 within c.in_err-cubes.ensures.refused)

pub returns-clause-ways : goal.returns-clause-ways
returns-clause-ways c = ways_all c.args.model.now c.loop-i.all c.loop-i.i c.loop-i.invariant (omega (arith, c.loop-i-test.false, c.loop-i.auto.i-end, c.len-i-end.ensures, ap length c.moves.ensures.value))
