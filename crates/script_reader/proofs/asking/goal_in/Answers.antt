use Rattle.script_reader.proofs.AskedItems.{goal_said}
use Rattle.script_reader.proofs.asking.goal_in.Goals as goal

pub returns-in-Some-clause-asked : goal.returns-in-Some-clause-asked
returns-in-Some-clause-asked c =
    let k = c.args.context.now in
    rw c.goal_asked.ensures (goal_said k.model k.pending.now k.mirrored c.args.rest c.in-Some.found c.found_in.new.pairs.items c.in-Some.ensures.found)
