use Rattle.std.proofs.Common.{◌≡◌}
use Rattle.conformance_run.proofs.programs.makes_turns.Given as goal

abbrev pub invariant-loop-turn : goal.invariant-loop-turn
invariant-loop-turn l = l.runner.program ≡ l.initial.runner.program
