use Rattle.std.proofs.Common.{◌≡◌, length, arith}
use Rattle.control_syntax.proofs.Places.{again_read}
use Rattle.control_syntax.proofs.place.put_again.Goals as goal

pub returns-else-count-eq0 : goal.returns-else-count-eq0
returns-else-count-eq0 c =
    let items = c.args.blocks.now.items in
    let n : c.len-count.result ≡ length items = omega (arith, c.len-count.ensures, c.args.blocks.now.ok.0) in
    let read = rw n at c.index_mut-block.ensures.value in
    rw n
    (λ x place e.
    again_read c.args.parts.now items c.args.part x c.index_mut-block.result.now c.set_last-else-count-eq0.new.parts place (omega (arith, n, c.if-count-eq0.false)) read e c.set_last-else-count-eq0.ensures)
