use Rattle.std.proofs.Common.{◌≡◌, ◌+◌, ◌∷◌, ◌++◌, ℕ, List, [], take}
use Rattle.causal_graph.proofs.DistanceRound.{IsAnswer, row_more, direct_more, answer_yes, answer_no}
use Rattle.causal_graph.proofs.distance.direct.Goals.{then-needs_it, else-needs_it}
use Rattle.causal_graph.proofs.distance.direct.Goals as goal

pub loop-row-preserved : goal.loop-row-preserved
loop-row-preserved c =
    let rows = c.args.needs.now in
    let i = c.loop-row.row-index in
    let t = c.args.target in
    let row : List ℕ = c.as_slice.result.now in
    let seen : take (i + 1) rows ≡ take i rows ++ row ∷ [] = row_more rows c.as_slice-row-items.result.now i c.row-item.result row c.as_slice-row-items.ensures c.loop-row-test.true c.row-item.is c.as_slice.ensures in
    let answer : IsAnswer row t c.if-needs_it.push =
    elim c.if-needs_it.branch [
      | then-needs_it w ↦ rw w.push-is (answer_yes row t w.if-needs_it.ensures.cases)
      | else-needs_it w ↦ rw w.push-is (answer_no row t w.if-needs_it.ensures.cases)
    ]
    in
    rw (seen, c.in_ok-push.ensures.items) (direct_more (take i rows) row t c.loop-row.distances.items c.if-needs_it.push c.loop-row.invariant answer)
