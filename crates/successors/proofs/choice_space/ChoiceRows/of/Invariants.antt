use Rattle.std.proofs.Common.{◌≡◌, length, map, take, vec_capacity}
use Rattle.successors.proofs.choice_space.ChoiceRows.of.Given as goal

abbrev pub invariant-loop-component : goal.invariant-loop-component
invariant-loop-component l = map vec_capacity l.rows.items ≡ map (λ x. length x.modes) (take l.component-index l.model.components)
