use Rattle.successors.specs.Choices.{AreAllLeast, AreRowsTo}
use Rattle.successors.specs.Spaces.{IsChoiceSpace}
use Rattle.successors.proofs.options.choices_in.Given as goal

abbrev pub invariant-loop-c : goal.invariant-loop-c
invariant-loop-c l = record {
  rows : AreRowsTo l.compiled.model l.state.modes l.moved l.c l.space.rows.rows;
  least : AreAllLeast l.compiled.model.failures l.state.modes l.space.costs.items;
  space : IsChoiceSpace l.compiled.model l.space;
}
