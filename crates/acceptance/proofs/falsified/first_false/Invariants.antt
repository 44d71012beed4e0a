use Rattle.std.proofs.Common.{take}
use Rattle.std.specs.Option.{option_map}
use Rattle.cca_base.specs.declared.state.State.{State}
use Rattle.acceptance.specs.Falsified.{IsFirstOrNone}
use Rattle.acceptance.proofs.falsified.first_false.Given as goal

abbrev pub invariant-loop-clause : goal.invariant-loop-clause
invariant-loop-clause l = IsFirstOrNone l.sizes (take l.clause-index l.clauses.clauses) (option_map (λ (s : State). s.modes) l.best)
