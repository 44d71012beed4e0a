use Rattle.std.proofs.Common.{refl}
use Rattle.trace_text.proofs.json.put_reply.Goals as goal

pub returns-in_ok-put_text-in-Unreachable-2 : goal.returns-in_ok-put_text-in-Unreachable-2
returns-in_ok-put_text-in-Unreachable-2 c =
    rw (c.in-Unreachable.is, c.in_ok-put_text-in-Unreachable-2.ensures, c.in_ok-put_text-in-Unreachable.ensures, c.in_ok-put_word-in-Unreachable.ensures, c.mode_bytes.ensures, c.component_bytes.ensures, c.as_slice-components.ensures, c.components.ensures.value) refl
