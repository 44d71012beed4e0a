use Rattle.std.proofs.Common.{length}
use Rattle.prime_implicants.specs.DenseClauses.{is_wide}
use Rattle.prime_implicants.proofs.DenseClauseLaws.{wide-unions}
use Rattle.prime_implicants.proofs.gathering.join_row.Goals as goal

pub join_one-requires-clause-out : goal.join_one-requires-clause-out
join_one-requires-clause-out c = c.loop-other.invariant.same (is_wide (length c.args.sizes.now)) c.requires.out (wide-unions (length c.args.sizes.now) c.args.row.now c.args.others.now c.requires.wide c.requires.others)
