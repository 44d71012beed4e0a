use Rattle.std.proofs.Common.{◌≡◌, take, map}
use Rattle.control_program.specs.Places.{fresh_mark}
use Rattle.control_program.proofs.opening.fresh_marks.Given as goal

abbrev pub invariant-loop-node : goal.invariant-loop-node
invariant-loop-node l = l.marks ≡ map fresh_mark (take l.node-index l.nodes)
