use Rattle.std.proofs.Common.{refl}
use Rattle.cca_laws.proofs.ChainExamples.{unit_is_well_formed, only_in_second, next_is_latched, mended_is_ok, ok_has_no_mended, chain_of_hung, mendings_of_hung, mendings_of_latched, mendings_of_ok, two_commands_mend}
use Rattle.cca_laws.proofs.examples.chains.Goals as goal

pub returns-clause-well_formed : goal.returns-clause-well_formed
returns-clause-well_formed c = unit_is_well_formed

pub returns-clause-second : goal.returns-clause-second
returns-clause-second c = only_in_second

pub returns-clause-next : goal.returns-clause-next
returns-clause-next c = next_is_latched

pub returns-clause-mended : goal.returns-clause-mended
returns-clause-mended c = mended_is_ok

pub returns-clause-none : goal.returns-clause-none
returns-clause-none c = ok_has_no_mended

pub returns-clause-chain : goal.returns-clause-chain
returns-clause-chain c = chain_of_hung

pub returns-clause-hung : goal.returns-clause-hung
returns-clause-hung c = mendings_of_hung

pub returns-clause-latched : goal.returns-clause-latched
returns-clause-latched c = mendings_of_latched

pub returns-clause-ok : goal.returns-clause-ok
returns-clause-ok c = mendings_of_ok

pub returns-clause-sound : goal.returns-clause-sound
returns-clause-sound c = refl

pub returns-clause-plan : goal.returns-clause-plan
returns-clause-plan c = two_commands_mend
