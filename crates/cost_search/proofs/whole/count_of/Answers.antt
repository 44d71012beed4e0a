use Rattle.std.proofs.Common.{◌<◌, ◌^◌, arith}
use Rattle.std.proofs.lemmas.List.Elements.{All-more}
use Rattle.cost_search.specs.SearchParts.{nothing}
use Rattle.cost_search.proofs.Wholes.{few_choices}
use Rattle.cost_search.proofs.whole.count_of.Goals as goal

pub overflow_add-count : goal.overflow_add-count
overflow_add-count c =
    let i = c.loop-choice.choice-index in
    omega (arith, c.loop-choice.invariant.full, few_choices (2 ^ 8) c.args.row.now i c.requires.once c.loop-choice.invariant.modes (omega (arith, c.loop-choice-test.true)))

pub loop-choice-preserved : goal.loop-choice-preserved
loop-choice-preserved c = record {
  full = omega (arith, c.loop-choice.invariant.full);
  modes = All-more (λ x. x.mode < 2 ^ 8) c.args.row.now c.loop-choice.choice-index nothing c.loop-choice-test.true c.loop-choice.invariant.modes c.mode_of.ensures;
}
