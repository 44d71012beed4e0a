use Rattle.std.proofs.Common.{◌≡◌, ◌≤◌, ◌+◌, List, ℕ, subst, arith}
use Rattle.group_search.specs.Answers.{IsFirstLeast}
use Rattle.group_search.specs.Floors.{every}
use Rattle.group_search.specs.Questions.{IsSolution, cost_in}
use Rattle.group_search.proofs.LowerLaws.{cost_read, first_least, fixed_more, lowered_more}
use Rattle.group_search.proofs.lower.lower.Goals as goal

pub loop-place-preserved : goal.loop-place-preserved
loop-place-preserved g c =
    let q = g.P.Paths.means.question c.args.problem.now in
    let base = c.args.work.now.boxed.masks in
    let i = c.loop-place.invariant in
    let low = c.lower_at.ensures in
    let x = c.lower_at.new.chosen in
    let s = low.settled in
    let limit = c.group_cost-limit.result + 1 in
    record {
      space = low.space;
      work = low.work;
      shape = low.shape;
      settled = s;
      fixed = fixed_more q base c.loop-place.place c.loop-place.chosen.values c.loop-place.work.boxed.masks x.values i.work.ready.masks (omega (arith, c.loop-place-test.true, c.requires.count)) i.fixed
          s.floored.has.paths.places low.inside c.lower_at.new.work.boxed.masks low.masks;
      lowered = lowered_more q base c.loop-place.place c.loop-place.chosen.values c.loop-place.work.boxed.masks x.values i.work.ready.masks (omega (arith, c.loop-place-test.true, c.requires.count)) i.fixed
          s.floored.has.paths.places low.inside limit x.costs (λ u want. (g.met.P.Paths.whole c.args.problem.now u want.0 want.1.solves).0) s.solves s.floored.less low.lowest i.lowered;
    }

pub returns-clause-first : goal.returns-clause-first
returns-clause-first g c =
    let q = g.P.Paths.means.question c.args.problem.now in
    let base = c.args.work.now.boxed.masks in
    let i = c.loop-place.invariant in
    let cost = c.group_cost-limit.result in
    let costs = c.args.chosen.now.costs in
    let is = cost_read q c.args.work.now.names costs c.as_slice.result.now c.as_slice-2.result.now cost c.requires.work.names c.as_slice.ensures c.as_slice-2.ensures c.group_cost-limit.ensures.cost in
    let end : c.loop-place.place ≡ c.args.count = omega (arith, c.loop-place-test.false, c.loop-place.auto.place-end) in
    let floor : (values others : List ℕ) → IsSolution q every base values others → cost ≤ cost_in q.count every others = λ values others sol.
    let under : cost_in q.count every costs ≤ cost_in q.count every others = c.requires.settled.floored.has.floors values others sol every in
    omega (arith, is, under) in
    subst (λ n. IsFirstLeast q base n c.loop-place.chosen) end (first_least q base c.loop-place.work.boxed.masks c.loop-place.work.names c.loop-place.place cost c.loop-place.chosen floor i.fixed i.settled i.lowered)
