use Rattle.std.proofs.Common.{◌≡◌, take}
use Rattle.std.specs.List.{filter}
use Rattle.clause_form.proofs.ConditionedClauses.{is_other}
use Rattle.clause_form.proofs.condition.rest_of.Given as goal

abbrev pub invariant-loop-literal : goal.invariant-loop-literal
invariant-loop-literal l = l.literals ≡ filter (is_other l.subject) (take l.literal-index l.clause.literals)
