use Rattle.acceptance.proofs.FirstFalsified.{IsLeastTo}
use Rattle.acceptance.proofs.falsified.least_false.Given as goal

abbrev pub invariant-loop-subject : goal.invariant-loop-subject
invariant-loop-subject l = IsLeastTo l.sizes l.clause.literals l.subject l.modes
