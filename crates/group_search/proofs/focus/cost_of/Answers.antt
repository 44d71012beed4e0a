use Rattle.std.proofs.Common.{slice_index, arith}
use Rattle.std.proofs.lemmas.List.Sums.{sum_by-le, sum_by-take-le}
use Rattle.group_search.specs.declared.columns.TheConstants.{MAX_PATH}
use Rattle.group_search.proofs.focus.cost_of.Goals as goal

pub overflow_add-cost : goal.overflow_add-cost
overflow_add-cost c =
    let members = c.args.members.now in
    let part = sum_by-take-le (λ x. slice_index c.args.costs.now x) members c.loop-c.c-index in
    let all = sum_by-le (λ x. slice_index c.args.costs.now x) MAX_PATH members c.requires.cheap in
    let next = c.requires.cheap c.loop-c.c-index 0 c.loop-c-test.true in
    omega (arith, c.loop-c.invariant, part, all, next, c.requires.few)
