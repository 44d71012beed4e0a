use Rattle.cca_laws.proofs.Decided.{dec_follows}
use Rattle.cca_laws.proofs.Minimal.{prime_parts}
use Rattle.cca_laws.proofs.laws.conditions.Goals as goal

pub returns-clause-decided : goal.returns-clause-decided
returns-clause-decided c = dec_follows

pub returns-clause-primes : goal.returns-clause-primes
returns-clause-primes c = prime_parts
