use Rattle.model_syntax.proofs.ChainTests.{chains_are_tested}
use Rattle.model_syntax.proofs.RepairCodes.{codes_keep_rules, rules_give_no_code}
use Rattle.model_syntax.proofs.RepairsAsBefore.{first_version_as_before}
use Rattle.model_syntax.proofs.laws.repairs_have_codes.Goals as goal

pub returns-clause-tested : goal.returns-clause-tested
returns-clause-tested c = chains_are_tested

pub returns-clause-kept : goal.returns-clause-kept
returns-clause-kept c = codes_keep_rules

pub returns-clause-none : goal.returns-clause-none
returns-clause-none c = rules_give_no_code

pub returns-clause-first : goal.returns-clause-first
returns-clause-first c = first_version_as_before
