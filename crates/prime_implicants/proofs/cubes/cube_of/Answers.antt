use Rattle.std.proofs.Common.{rules}
use Rattle.prime_implicants.proofs.ListedPairs.{next_pair}
use Rattle.prime_implicants.proofs.cubes.cube_of.Goals as goal

pub overflow_cast-item : goal.overflow_cast-item
overflow_cast-item c =
    let fits = (next_pair c.args.key.now c.loop-rest.rest.now c.loop-rest.cube c.requires c.loop-rest.invariant c.in-len2-up.len_at_least).0 in
    search rules

pub overflow_cast-value : goal.overflow_cast-value
overflow_cast-value c =
    let fits = (next_pair c.args.key.now c.loop-rest.rest.now c.loop-rest.cube c.requires c.loop-rest.invariant c.in-len2-up.len_at_least).1 in
    search rules

pub push-requires : goal.push-requires
push-requires c = (next_pair c.args.key.now c.loop-rest.rest.now c.loop-rest.cube c.requires c.loop-rest.invariant c.in-len2-up.len_at_least).2
