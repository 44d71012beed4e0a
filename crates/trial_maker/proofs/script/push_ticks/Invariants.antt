use Rattle.std.proofs.Common.{◌≡◌, ◌++◌, ◌-◌, drop}
use Rattle.std.specs.String.{string_bytes}
use Rattle.trial_maker.specs.Documents.{text_of, ticks}
use Rattle.trial_maker.specs.Draws.{each}
use Rattle.trial_maker.specs.ScriptLines.{tick_lines}
use Rattle.trial_maker.proofs.script.push_ticks.Given as goal

-- with the ticks that are left, the text is whole, and all is drawn
abbrev pub invariant-loop-tick : goal.invariant-loop-tick
invariant-loop-tick l =
    (string_bytes l.out ++ text_of (each tick_lines (drop (l.tick - 1) ticks) l.draws.number).0 ≡ string_bytes l.fn.out ++ text_of (each tick_lines ticks l.fn.draws.number).0)
    × ((each tick_lines (drop (l.tick - 1) ticks) l.draws.number).1 ≡ (each tick_lines ticks l.fn.draws.number).1)
