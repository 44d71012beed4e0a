use Rattle.std.proofs.Common.{◌∙◌}
use Rattle.control_syntax.proofs.Places.{set_last_is}
use Rattle.control_syntax.proofs.place.set_last.Goals as goal

pub returns-then-count-gt0 : goal.returns-then-count-gt0
returns-then-count-gt0 c = λ x xs e. rw c.len-count.ensures at c.set.ensures ∙ set_last_is c.args.parts.now xs x c.args.part e
