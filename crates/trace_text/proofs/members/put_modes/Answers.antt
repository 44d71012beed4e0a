use Rattle.std.proofs.Common.{arith, sym, subst}
use Rattle.trace_text.specs.Json.{HasAsciiNames}
use Rattle.trace_text.proofs.members.put_modes.Goals as goal

pub put_mode-requires : goal.put_mode-requires
put_mode-requires c = subst HasAsciiNames (sym c.index-components-i.is) (c.requires c.loop-i.i c.index-components-i.result (omega (arith, c.loop-i-test.true)))
