use Rattle.std.proofs.lemmas.Result.{on_ok_weaker}
use Rattle.control_syntax.proofs.place.move_place.Goals as goal

pub returns-in-Seq-clause-ok : goal.returns-in-Seq-clause-ok
returns-in-Seq-clause-ok c = rw c.in-Seq.is (on_ok_weaker c.open_block.result (λ e. e c.args.parts.now) c.open_block.ensures.ok)

pub returns-in-Both-clause-ok : goal.returns-in-Both-clause-ok
returns-in-Both-clause-ok c = rw c.in-Both.is (on_ok_weaker c.open_block-in-Both.result (λ e. e c.args.parts.now) c.open_block-in-Both.ensures.ok)

pub returns-in-Choose-clause-ok : goal.returns-in-Choose-clause-ok
returns-in-Choose-clause-ok c = rw c.in-Choose.is (on_ok_weaker c.open_block-in-Choose.result (λ e. e c.args.parts.now) c.open_block-in-Choose.ensures.ok)

pub returns-in-Repeat-clause-ok : goal.returns-in-Repeat-clause-ok
returns-in-Repeat-clause-ok c = rw c.in-Repeat.is (on_ok_weaker c.open_block-in-Repeat.result (λ e. e c.args.parts.now) c.open_block-in-Repeat.ensures.ok)
