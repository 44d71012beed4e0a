use Rattle.std.proofs.Common.{◌+◌, ◌-◌, ◌*◌, length}
use Rattle.control_program.specs.Rooms.{IsReady}
use Rattle.control_program.proofs.PartsTurns.{AlongIn}
use Rattle.control_program.proofs.turning.+turning.Given as goal

abbrev pub decreases-turn_at : goal.decreases-turn_at
decreases-turn_at l = 3 * (length l.asking.now.nodes.now - l.at) + 2

abbrev pub decreases-work : goal.decreases-work
decreases-work l = 3 * (length l.asking.now.nodes.now - l.at) + 1

abbrev pub decreases-turn_parts : goal.decreases-turn_parts
decreases-turn_parts l = 3 * (length l.asking.now.nodes.now - l.at) + 3

abbrev pub invariant-turn_parts-loop : goal.invariant-turn_parts-loop
invariant-turn_parts-loop l = record {
  along : AlongIn l.asking l.fn.in_order l.fn.at l.fn.count l.fn.course l.course l.place l.counter l.all_ended;
  ready : IsReady l.asking l.course;
}
