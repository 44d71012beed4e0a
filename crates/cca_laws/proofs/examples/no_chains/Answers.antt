use Rattle.cca_laws.proofs.ChainExamples.{no_chain_goes_round, no_repair_stays, one_next_mode, only_repairs_enter, only_repairs_leave}
use Rattle.cca_laws.proofs.examples.no_chains.Goals as goal

pub returns-clause-round : goal.returns-clause-round
returns-clause-round c = no_chain_goes_round

pub returns-clause-stays : goal.returns-clause-stays
returns-clause-stays c = no_repair_stays

pub returns-clause-next : goal.returns-clause-next
returns-clause-next c = one_next_mode

pub returns-clause-enter : goal.returns-clause-enter
returns-clause-enter c = only_repairs_enter

pub returns-clause-leave : goal.returns-clause-leave
returns-clause-leave c = only_repairs_leave
