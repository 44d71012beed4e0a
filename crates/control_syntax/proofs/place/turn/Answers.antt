use Rattle.control_syntax.proofs.Places.{turn_last}
use Rattle.control_syntax.proofs.place.turn.Goals as goal

pub returns-then-count-gt0 : goal.returns-then-count-gt0
returns-then-count-gt0 c = turn_last c.args.blocks.now c.index-blocks-count.result c.turned.result c.if-count-gt0.true (rw c.replace-before.ensures.value at c.turned.ensures)
