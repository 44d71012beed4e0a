use Rattle.goal_interpreter.proofs.OneAnswer.{one_answer}
use Rattle.goal_interpreter.proofs.one_answer.Goals as goal

pub returns : goal.returns
returns c b weights s f x y compiled h k = one_answer b weights s f compiled x y h k
