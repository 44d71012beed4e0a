use Rattle.std.proofs.Common.{◌≡◌, ◌≤◌, ◌+◌, ◌*◌, ◌^◌, take, sum_by, slice_index}
use Rattle.acceptance.proofs.bounds.bound_of.Given as goal

abbrev pub invariant-loop-u : goal.invariant-loop-u
invariant-loop-u l = record { sum_is : l.sum ≡ 1 + sum_by (slice_index l.bounds) (take l.u-index l.needs); small : l.sum ≤ 1 + l.u-index * 2 ^ 64 }
