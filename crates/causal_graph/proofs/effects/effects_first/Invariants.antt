use Rattle.std.proofs.Common.{length}
use Rattle.causal_graph.proofs.EffectsFirst.{IsTaking}
use Rattle.causal_graph.proofs.effects.effects_first.Given as goal

abbrev pub invariant-taking : goal.invariant-taking
invariant-taking l = IsTaking l.needs l.remaining.items l.order

abbrev pub decreases-taking : goal.decreases-taking
decreases-taking l = length l.remaining.items
