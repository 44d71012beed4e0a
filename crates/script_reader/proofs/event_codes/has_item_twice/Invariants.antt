use Rattle.std.proofs.Common.{◌≡◌, drop}
use Rattle.script_reader.specs.EventCodes.{has_item_twice}
use Rattle.script_reader.proofs.event_codes.has_item_twice.Given as goal

-- the pairs so far differ from all others
abbrev pub invariant-loop-i : goal.invariant-loop-i
invariant-loop-i l = has_item_twice (drop l.i l.pairs) ≡ has_item_twice l.pairs
