use Rattle.std.proofs.Common.{◌≡◌, ◌<◌, ◌^◌, All, take}
use Rattle.cost_search.proofs.whole.count_of.Given as goal

abbrev pub invariant-loop-choice : goal.invariant-loop-choice
invariant-loop-choice l = record {
  full : l.count ≡ l.choice-index;
  modes : All (λ x. x.mode < 2 ^ 8) (take l.choice-index l.row);
}
