use Rattle.std.proofs.Common.{◌≡◌, drop}
use Rattle.serde_json.specs.View.{members_view}
use Rattle.trace_text.specs.Json.{modes_members, with_members}
use Rattle.trace_text.proofs.members.put_modes.Given as goal

-- with what is left, the members are whole
abbrev pub invariant-loop-i : goal.invariant-loop-i
invariant-loop-i l =
    with_members (members_view l.map.entries) (modes_members (drop l.i l.components) (drop l.i l.modes))
    ≡ with_members (members_view l.fn.map.entries) (modes_members l.components l.modes)
