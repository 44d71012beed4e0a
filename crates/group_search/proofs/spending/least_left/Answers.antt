use Rattle.std.proofs.Common.{◌≡◌, ◌+◌, ◌-◌, ◌∙◌, All, slice_index, get_or, take, sym, ap, subst}
use Rattle.std.proofs.lemmas.List.{take_all}
use Rattle.group_search.specs.Bounds.{Leaves, LeavesAt}
use Rattle.group_search.specs.Questions.{in_group}
use Rattle.group_search.proofs.PriceLaws.{least_first, least_next, least_passed, no_pair}
use Rattle.group_search.proofs.spending.least_left.Goals.{in-Some+in-None, in-Some+in-Some-least, in_default}
use Rattle.group_search.proofs.spending.least_left.Goals as goal

pub returns : goal.returns
returns g c =
    let q = g.P.Paths.means.question c.args.problem.now in
    subst (All (LeavesAt q (in_group c.args.names.now c.args.group) c.args.boxed.now c.args.spent.now c.loop-pair.least)) (take_all c.loop-pair.pair-index c.args.pairs.now c.loop-pair-test.false) c.loop-pair.invariant

pub loop-pair-preserved : goal.loop-pair-preserved
loop-pair-preserved g c =
    let q = g.P.Paths.means.question c.args.problem.now in
    let test = in_group c.args.names.now c.args.group in
    let b = c.args.boxed.now in
    let spent = c.args.spent.now in
    let pairs = c.args.pairs.now in
    let k = c.loop-pair.pair-index in
    let p = get_or pairs k no_pair in
    let inside = c.loop-pair-test.true in
    let held = c.requires.held k no_pair inside in
    let components = ap (λ of. slice_index spent (slice_index of p.item)) c.components-components.ensures in
    elim c.match-price_of.branch [
      | in-Some+in-None w ↦
          let left = w.saturating_sub-left.result in
          let is : left ≡ w.in-Some.price - slice_index spent (slice_index q.of p.item) = w.saturating_sub-left.ensures ∙ ap (λ n. w.in-Some.price - n) components in
          subst (λ o. All (LeavesAt q test b spent o) (take (k + 1) pairs)) (sym w.least-is)
          (least_first q test b spent pairs k inside held.own w.in-Some.price left is (subst (λ o. Leaves q b o p) w.in-Some.is c.price_of.ensures.more)
          (subst (λ o. All (LeavesAt q test b spent o) (take k pairs)) w.in-None.is c.loop-pair.invariant))
      | in-Some+in-Some-least w ↦
          let left = w.saturating_sub-left.result in
          let is : left ≡ w.in-Some.price - slice_index spent (slice_index q.of p.item) = w.saturating_sub-left.ensures ∙ ap (λ n. w.in-Some.price - n) components in
          subst (λ o. All (LeavesAt q test b spent o) (take (k + 1) pairs)) (sym w.least-is)
          (least_next q test b spent pairs k inside held.own w.in-Some.price left w.in-Some-least.other w.min.result is w.min.ensures (subst (λ o. Leaves q b o p) w.in-Some.is c.price_of.ensures.more)
          (subst (λ o. All (LeavesAt q test b spent o) (take k pairs)) w.in-Some-least.is c.loop-pair.invariant))
      | in_default w ↦
          subst (λ o. All (LeavesAt q test b spent o) (take (k + 1) pairs)) (sym w.least-is)
          (least_passed q test b spent pairs k inside held.own c.loop-pair.least (subst (λ o. Leaves q b o p) w.in_default.is c.price_of.ensures.more) c.loop-pair.invariant)
    ]
