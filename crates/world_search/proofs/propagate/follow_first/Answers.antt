use Rattle.std.proofs.Common.{subst}
use Rattle.world_search.specs.Followed.{IsFollowed}
use Rattle.world_search.specs.Words.{AreMetIn}
use Rattle.world_search.proofs.FollowLaws.{followed_then}
use Rattle.world_search.proofs.propagate.follow_first.Goals as goal

pub returns : goal.returns
returns c =
    let clauses = c.args.rules.now.clauses.items in
    let one = c.args.work.now in
    let two = c.visit_first.new.work in
    followed_then (AreMetIn clauses) (AreMetIn clauses) (λ want is. is) one two c.follow_trail.new.work c.follow_trail.result
    (subst (λ b. IsFollowed (AreMetIn clauses) one two b) c.if-visit_first.false c.visit_first.ensures) c.follow_trail.ensures.followed
