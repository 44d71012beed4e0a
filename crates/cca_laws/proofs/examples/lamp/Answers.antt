use Rattle.cca_laws.proofs.LampIsLit.{lamp_is_lit}
use Rattle.cca_laws.proofs.examples.lamp.Goals as goal

pub returns : goal.returns
returns c = lamp_is_lit
