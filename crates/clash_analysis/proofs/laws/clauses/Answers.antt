use Rattle.clash_analysis.specs.Laws.{Passes}
use Rattle.clash_analysis.proofs.VisitLaws.{clause_apart, clause_learned, open_literal, pair_learned}
use Rattle.clash_analysis.proofs.laws.clauses.Goals as goal

pub returns-clause-open : goal.returns-clause-open
returns-clause-open c want literals dom one reason met = open_literal (Passes want) literals met dom one reason

pub returns-clause-shut : goal.returns-clause-shut
returns-clause-shut c want literals start dom learn met all inside clause out = (clause_learned (Passes want) literals met start learn all inside clause, clause_apart start dom learn literals out clause)

pub returns-clause-lost : goal.returns-clause-lost
returns-clause-lost c want = pair_learned (Passes want)
