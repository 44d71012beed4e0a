use Rattle.std.proofs.Common.{true, false, ◌∙◌, subst}
use Rattle.world_search.specs.Followed.{IsFollowed}
use Rattle.world_search.specs.Words.{AreMetIn}
use Rattle.world_search.proofs.FollowLaws.{dom_long, followed_then}
use Rattle.world_search.proofs.propagate.visit_near.Goals as goal

pub returns-then-visit_named : goal.returns-then-visit_named
returns-then-visit_named c =
    let clauses = c.args.rules.now.clauses.items in
    followed_then (AreMetIn clauses) (AreMetIn clauses) (λ want is. is) c.args.work.now c.loop-clause.work c.visit_named.new.work true c.loop-clause.invariant.followed
    (subst (λ b. IsFollowed (AreMetIn clauses) c.loop-clause.work c.visit_named.new.work b) c.if-visit_named.true c.visit_named.ensures)

pub loop-clause-preserved : goal.loop-clause-preserved
loop-clause-preserved c =
    let clauses = c.args.rules.now.clauses.items in
    let old = c.loop-clause.work in
    let last : IsFollowed (AreMetIn clauses) old c.visit_named.new.work false = subst (λ b. IsFollowed (AreMetIn clauses) old c.visit_named.new.work b) c.if-visit_named.false c.visit_named.ensures in
    record {
      followed = followed_then (AreMetIn clauses) (AreMetIn clauses) (λ want is. is) c.args.work.now old c.visit_named.new.work false c.loop-clause.invariant.followed last;
      long = dom_long old c.visit_named.new.work c.loop-clause.invariant.followed.ready last.ready last.moved ∙ c.loop-clause.invariant.long;
    }
