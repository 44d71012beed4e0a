use Rattle.world_search.specs.Words.{IsMetIn}
use Rattle.world_search.proofs.FollowLaws.{followed_none}
use Rattle.world_search.proofs.propagate.visit_slot.Goals as goal

pub returns-then-are_two_open-clause-followed : goal.returns-then-are_two_open-clause-followed
returns-then-are_two_open-clause-followed c = followed_none (IsMetIn c.args.literals.now) c.args.work.now c.requires.ready c.requires.clear
