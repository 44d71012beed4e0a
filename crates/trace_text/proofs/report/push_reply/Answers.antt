use Rattle.std.proofs.Common.{append-nil}
use Rattle.byte_buffer.proofs.Pushing.{pushed_then, pushed_as}
use Rattle.trace_text.proofs.report.push_reply.Goals as goal

pub returns-in_ok-push-in-Unreachable : goal.returns-in_ok-push-in-Unreachable
returns-in_ok-push-in-Unreachable c =
    pushed_as (rw (c.in-Unreachable.is, c.as_slice-in-Unreachable.ensures, c.components.ensures.value) (simp append-nil))
    (pushed_then c.in_ok-push-in-Unreachable.ensures.pushes c.push_pair_at.ensures)
