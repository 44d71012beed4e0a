use Rattle.goal_interpreter.proofs.WeightLaws.{weigh_more}
use Rattle.goal_interpreter.proofs.weights.Weights.weigh.Goals as goal

pub loop-c-preserved : goal.loop-c-preserved
loop-c-preserved c =
    weigh_more c.args.model.now c.args.self.now.rows c.requires.weights c.args.state.now.modes c.requires.state c.loop-c.c c.loop-c.sum c.get-in-loop-c.result.now
    c.get.result.now c.get-row.result.now c.get-row.ensures.value c.get.ensures.value c.get-in-loop-c.ensures.value c.loop-c.invariant
