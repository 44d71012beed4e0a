use Rattle.std.proofs.Common.{◌<◌, length, arith}
use Rattle.control_syntax.proofs.Places.{closed_is, some_left}
use Rattle.control_syntax.proofs.place.close.Goals as goal

pub returns-in-Some-clause-ok : goal.returns-in-Some-clause-ok
returns-in-Some-clause-ok c =
    let some : 0 < length c.args.blocks.now.items = omega (arith, c.if-count-eq0.false, c.len-count.ensures, c.args.blocks.now.ok.0) in
    closed_is c.args.parts.now c.put_around.new.parts c.args.blocks.now.items c.put_around.new.blocks.items _ some c.in_ok-put_around.ensures.ok c.put_again.new.parts c.pop.new.self.items c.put_again.new.blocks.items c.in-Some.block
    c.block_part-part.result c.in-Some.ensures.items c.block_part-part.ensures c.put_again.ensures

pub returns-in_default-clause-ok : goal.returns-in_default-clause-ok
returns-in_default-clause-ok c =
    let some : 0 < length c.args.blocks.now.items = omega (arith, c.if-count-eq0.false, c.len-count.ensures, c.args.blocks.now.ok.0) in
    absurd
    (some_left c.args.parts.now c.put_around.new.parts c.args.blocks.now.items c.put_around.new.blocks.items _ some c.in_ok-put_around.ensures.ok
    (omega (arith, c.in_default.ensures.cases, c.put_around.new.blocks.ok.0)))
