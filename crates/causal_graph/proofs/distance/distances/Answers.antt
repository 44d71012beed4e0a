use Rattle.std.proofs.Common.{◌≡◌, ◌<◌, List, ℕ, ◌∙◌, arith}
use Rattle.std.proofs.lemmas.List.Sums.{count_by-le-length}
use Rattle.std.specs.Prelude.{◌==◌}
use Rattle.causal_graph.specs.Search.{unreached}
use Rattle.causal_graph.proofs.DistanceLevels.{levelled_direct, levelled_more, levelled_done}
use Rattle.list_laws.proofs.Elements.{written_back}
use Rattle.causal_graph.proofs.distance.distances.Goals as goal

pub levels-init : goal.levels-init
levels-init c =
    let distances = c.in_ok-distances.distances.items in
    record {
      levelled = levelled_direct c.args.needs.now c.args.target distances c.in_ok-distances.ensures;
      positive = omega arith;
      low = omega (arith, count_by-le-length (λ x. x == 0) distances, c.in_ok-distances.ensures.full);
    }

pub levels-preserved : goal.levels-preserved
levels-preserved c =
    let old : List ℕ = c.levels.distances.items in
    let new : List ℕ = c.farther.new.distances in
    let fewer : unreached new < unreached old = rw c.as_mut_slice.ensures.value at c.levels-test.ensures.fewer in
    rw (written_back c.levels.distances.len old _ new c.as_mut_slice.ensures.value c.as_mut_slice.ensures.len c.farther.auto.distances) (record {
      levelled = levelled_more c.args.needs.now c.args.target old new c.levels.level c.levels.invariant.levelled c.levels.invariant.positive (rw c.as_mut_slice.ensures.value at c.farther.ensures.step);
      positive = omega arith;
      low = omega (arith, fewer, c.levels.invariant.low);
    })

pub returns : goal.returns
returns c =
    let new : List ℕ = c.farther.new.distances in
    let none : new ≡ c.levels.distances.items = c.levels-test.ensures.fewer ∙ c.as_mut_slice.ensures.value in
    rw (written_back c.levels.distances.len c.levels.distances.items _ new c.as_mut_slice.ensures.value c.as_mut_slice.ensures.len c.farther.auto.distances, none)
    (levelled_done c.args.needs.now c.args.target c.levels.distances.items new c.levels.level c.levels.invariant.levelled c.levels.invariant.positive (rw c.as_mut_slice.ensures.value at c.farther.ensures.step) none)
