use Rattle.std.proofs.Common.{◌≡◌, map, take}
use Rattle.want_form.proofs.WeightsSet.{zeros}
use Rattle.want_form.proofs.weights.no_weights.Given as goal

-- each component so far has its row
abbrev pub invariant-loop-component : goal.invariant-loop-component
invariant-loop-component l = l.rows ≡ map zeros (take l.component-index l.component-items)
