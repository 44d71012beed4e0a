use Rattle.std.proofs.Common.{◌≡◌, ◌+◌, ◌∷◌, ◌++◌, ℕ, [], take, get_or, subst}
use Rattle.std.proofs.lemmas.List.{take_more}
use Rattle.causal_graph.proofs.NearestRow.{IsNearestOf, nearest_none, other_distance, first_one, lesser_one, greater_one}
use Rattle.causal_graph.proofs.cycle.nearest.Goals.{then-distances-u+in-Some, then-distances-u+in_default-2, then-distances-u+in_default, else-distances-u}
use Rattle.causal_graph.proofs.cycle.nearest.Goals as goal

pub loop-u-init : goal.loop-u-init
loop-u-init c = nearest_none c.args.distances.now c.args.distance

pub loop-u-preserved : goal.loop-u-preserved
loop-u-preserved c =
    let row = c.args.row.now in
    let distances = c.args.distances.now in
    let distance = c.args.distance in
    let i = c.loop-u.u-index in
    let seen = take i row in
    let u : ℕ = get_or row i 0 in
    let more : take (i + 1) row ≡ seen ++ u ∷ [] = take_more row i 0 c.loop-u-test.true in
    let was = c.loop-u.invariant in
    rw more (elim c.if-distances-u.branch [
      | then-distances-u+in-Some w ↦
          rw w.least-is (greater_one seen distances distance u w.in-Some.v (subst (IsNearestOf seen distances distance) w.in-Some.is was) w.if-v-u.true)
      | then-distances-u+in_default-2 w ↦
          rw w.least-is (lesser_one seen distances distance u w.in-Some.v (subst (IsNearestOf seen distances distance) w.in-Some.is was) w.if-v-u.false w.if-distances-u.true)
      | then-distances-u+in_default w ↦
          rw w.least-is (first_one seen distances distance u (subst (IsNearestOf seen distances distance) w.in_default.is was) w.if-distances-u.true)
      | else-distances-u w ↦ rw w.least-is (other_distance seen distances distance u c.loop-u.least was w.if-distances-u.false)
    ])
