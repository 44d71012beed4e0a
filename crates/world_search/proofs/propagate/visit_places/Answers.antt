use Rattle.std.proofs.Common.{true, false, ◌∙◌, subst}
use Rattle.world_search.specs.Followed.{IsFollowed}
use Rattle.world_search.specs.Words.{AreMetIn, IsMetIn}
use Rattle.world_search.proofs.FollowLaws.{dom_long, followed_then, one_met}
use Rattle.world_search.proofs.propagate.visit_places.Goals as goal
use Rattle.world_search.proofs.propagate.visit_places.Goals.{else-place-clauses-via-then-place-clauses+else-visit_clause, else-place-clauses-via-else-place-clauses}

pub returns-then-visit_clause-clause-followed : goal.returns-then-visit_clause-clause-followed
returns-then-visit_clause-clause-followed c =
    let clauses = c.args.clauses.now in
    followed_then (AreMetIn clauses) (IsMetIn c.as_slice.result.now) (one_met clauses _ c.index-clauses-place.result c.as_slice.result.now c.if-place-clauses.true c.as_slice.ensures.value)
    c.args.work.now c.loop-place.work c.visit_clause.new.work true c.loop-place.invariant.followed
    (subst (λ b. IsFollowed (IsMetIn c.as_slice.result.now) c.loop-place.work c.visit_clause.new.work b) c.if-visit_clause.true c.visit_clause.ensures.followed)

pub loop-place-preserved : goal.loop-place-preserved
loop-place-preserved c =
    let clauses = c.args.clauses.now in
    elim c.else-place-clauses.branch [
      | else-place-clauses-via-then-place-clauses+else-visit_clause w ↦ rw w.work-is (record {
        followed = followed_then (AreMetIn clauses) (IsMetIn w.as_slice.result.now) (one_met clauses _ w.index-clauses-place.result w.as_slice.result.now w.if-place-clauses.true w.as_slice.ensures.value)
            c.args.work.now c.loop-place.work w.visit_clause.new.work false c.loop-place.invariant.followed
            (subst (λ b. IsFollowed (IsMetIn w.as_slice.result.now) c.loop-place.work w.visit_clause.new.work b) w.if-visit_clause.false w.visit_clause.ensures.followed);
        head = w.visit_clause.ensures.head ∙ c.loop-place.invariant.head;
        long = dom_long c.loop-place.work w.visit_clause.new.work c.loop-place.invariant.followed.ready w.visit_clause.ensures.followed.ready w.visit_clause.ensures.followed.moved ∙ c.loop-place.invariant.long;
      })
      | else-place-clauses-via-else-place-clauses w ↦ rw w.work-is c.loop-place.invariant
    ]
