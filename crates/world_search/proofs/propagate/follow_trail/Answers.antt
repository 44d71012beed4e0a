use Rattle.std.proofs.Common.{true, false, ◌+◌, ◌∙◌, subst}
use Rattle.world_search.specs.Followed.{IsFollowed}
use Rattle.world_search.specs.Words.{AreMetIn}
use Rattle.world_search.proofs.FollowLaws.{dom_long, followed_headed, followed_then, headed}
use Rattle.world_search.proofs.propagate.follow_trail.Goals as goal

pub returns-then-visit_places-clause-followed : goal.returns-then-visit_places-clause-followed
returns-then-visit_places-clause-followed c =
    let clauses = c.args.rules.now.clauses.items in
    let old = c.following.work in
    followed_then (AreMetIn clauses) (AreMetIn clauses) (λ want is. is) c.args.work.now old c.visit_places.new.work true c.following.invariant.followed
    (followed_headed old (old.head + 1) (AreMetIn clauses) c.visit_places.new.work true
    (subst (λ b. IsFollowed (AreMetIn clauses) (headed old (old.head + 1)) c.visit_places.new.work b) c.if-visit_places.true
    (subst (λ cs. IsFollowed (AreMetIn cs) (headed old (old.head + 1)) c.visit_places.new.work c.visit_places.result) c.as_slice.ensures.value c.visit_places.ensures.followed)))

pub following-preserved : goal.following-preserved
following-preserved c =
    let clauses = c.args.rules.now.clauses.items in
    let old = c.following.work in
    let last : IsFollowed (AreMetIn clauses) old c.visit_places.new.work false = followed_headed old (old.head + 1) (AreMetIn clauses) c.visit_places.new.work false
    (subst (λ b. IsFollowed (AreMetIn clauses) (headed old (old.head + 1)) c.visit_places.new.work b) c.if-visit_places.false
    (subst (λ cs. IsFollowed (AreMetIn cs) (headed old (old.head + 1)) c.visit_places.new.work c.visit_places.result) c.as_slice.ensures.value c.visit_places.ensures.followed)) in
    record {
      followed = followed_then (AreMetIn clauses) (AreMetIn clauses) (λ want is. is) c.args.work.now old c.visit_places.new.work false c.following.invariant.followed last;
      long = dom_long old c.visit_places.new.work c.following.invariant.followed.ready last.ready last.moved ∙ c.following.invariant.long;
    }
