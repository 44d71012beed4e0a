use Rattle.std.proofs.Common.{eqb, ap, w64, arith}
use Rattle.std.proofs.lemmas.Nat.Bits.{bit_at-trailing_zeros}
use Rattle.world_search.proofs.choose.least.Goals as goal

pub returns-clause-has : goal.returns-clause-has
returns-clause-has c = ap (λ b. eqb b 1) (bit_at-trailing_zeros w64 c.args.set (omega arith) (omega arith)).1
