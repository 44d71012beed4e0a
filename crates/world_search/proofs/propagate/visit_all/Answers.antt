use Rattle.std.proofs.Common.{true, false, ap, ◌∙◌, subst}
use Rattle.world_search.specs.declared.words.WordClause.{WordClause}
use Rattle.world_search.specs.Followed.{IsFollowed}
use Rattle.world_search.specs.Words.{AreMetIn, IsMetIn}
use Rattle.world_search.proofs.FollowLaws.{dom_long, followed_then, one_met}
use Rattle.world_search.proofs.propagate.visit_all.Goals as goal

pub returns-then-visit_clause-clause-followed : goal.returns-then-visit_clause-clause-followed
returns-then-visit_clause-clause-followed c =
    let clauses = c.args.clauses.now in
    followed_then (AreMetIn clauses) (IsMetIn c.as_slice.result.now) (one_met clauses c.loop-clause.clause-index c.clause-item.result c.as_slice.result.now c.loop-clause-test.true (c.as_slice.ensures.value ∙ ap (λ (x : WordClause). x.literals.items) c.clause-item.is))
    c.args.work.now c.loop-clause.work c.visit_clause.new.work true c.loop-clause.invariant.followed
    (subst (λ b. IsFollowed (IsMetIn c.as_slice.result.now) c.loop-clause.work c.visit_clause.new.work b) c.if-visit_clause.true c.visit_clause.ensures.followed)

pub loop-clause-preserved : goal.loop-clause-preserved
loop-clause-preserved c =
    let clauses = c.args.clauses.now in
    record {
      followed = followed_then (AreMetIn clauses) (IsMetIn c.as_slice.result.now) (one_met clauses c.loop-clause.clause-index c.clause-item.result c.as_slice.result.now c.loop-clause-test.true (c.as_slice.ensures.value ∙ ap (λ (x : WordClause). x.literals.items) c.clause-item.is))
          c.args.work.now c.loop-clause.work c.visit_clause.new.work false c.loop-clause.invariant.followed
          (subst (λ b. IsFollowed (IsMetIn c.as_slice.result.now) c.loop-clause.work c.visit_clause.new.work b) c.if-visit_clause.false c.visit_clause.ensures.followed);
      head = c.visit_clause.ensures.head ∙ c.loop-clause.invariant.head;
      long = dom_long c.loop-clause.work c.visit_clause.new.work c.loop-clause.invariant.followed.ready c.visit_clause.ensures.followed.ready c.visit_clause.ensures.followed.moved ∙ c.loop-clause.invariant.long;
    }
