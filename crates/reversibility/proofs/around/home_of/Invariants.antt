use Rattle.std.proofs.Common.{length}
use Rattle.reversibility.specs.Homes.{EdgeRepairs}
use Rattle.reversibility.specs.Levels.{MoveLeads}
use Rattle.reversibility.proofs.around.home_of.Given as goal

-- so many repairs lead on, each along an edge
abbrev pub invariant-loop-taken : goal.invariant-loop-taken
invariant-loop-taken l = EdgeRepairs l.model.moves (MoveLeads l.model l.numbers (length l.numbers)) l.component l.mode l.at l.taken
