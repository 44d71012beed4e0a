use Rattle.std.proofs.Common.{true, false, ◌∙◌, subst}
use Rattle.world_search.specs.Followed.{IsFollowed}
use Rattle.world_search.specs.Words.{AreMetIn}
use Rattle.world_search.proofs.FollowLaws.{dom_long, followed_then}
use Rattle.world_search.proofs.propagate.visit_named.Goals as goal

pub returns-then-visit_places : goal.returns-then-visit_places
returns-then-visit_places c =
    let clauses = c.args.rules.now.clauses.items in
    followed_then (AreMetIn clauses) (AreMetIn clauses) (λ want is. is) c.args.work.now c.loop-literal.work c.visit_places.new.work true c.loop-literal.invariant.followed
    (subst (λ b. IsFollowed (AreMetIn clauses) c.loop-literal.work c.visit_places.new.work b) c.if-visit_places.true
    (subst (λ cs. IsFollowed (AreMetIn cs) c.loop-literal.work c.visit_places.new.work c.visit_places.result) c.as_slice.ensures.value c.visit_places.ensures.followed))

pub loop-literal-preserved : goal.loop-literal-preserved
loop-literal-preserved c =
    let clauses = c.args.rules.now.clauses.items in
    let old = c.loop-literal.work in
    let last : IsFollowed (AreMetIn clauses) old c.visit_places.new.work false = subst (λ b. IsFollowed (AreMetIn clauses) old c.visit_places.new.work b) c.if-visit_places.false
    (subst (λ cs. IsFollowed (AreMetIn cs) old c.visit_places.new.work c.visit_places.result) c.as_slice.ensures.value c.visit_places.ensures.followed) in
    record {
      followed = followed_then (AreMetIn clauses) (AreMetIn clauses) (λ want is. is) c.args.work.now old c.visit_places.new.work false c.loop-literal.invariant.followed last;
      long = dom_long old c.visit_places.new.work c.loop-literal.invariant.followed.ready last.ready last.moved ∙ c.loop-literal.invariant.long;
    }
