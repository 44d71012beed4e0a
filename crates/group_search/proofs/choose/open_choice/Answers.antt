use Rattle.std.proofs.Common.{◌≡◌, List, Some, ℕ, slice_get, slice_index, subst, arith}
use Rattle.std.proofs.lemmas.Option.{get_or_from_slice_get}
use Rattle.group_search.specs.Questions.{in_group}
use Rattle.group_search.proofs.ChooseLaws.{price_leaves}
use Rattle.group_search.proofs.choose.open_choice.Goals as goal

pub returns-then-saturating_add-limit-clause-none : goal.returns-then-saturating_add-limit-clause-none
returns-then-saturating_add-limit-clause-none g c _ =
    let q = g.P.Paths.means.question c.args.problem.now in
    let p = c.args.pair in
    let spent = c.args.spending.now.spent in
    let at : slice_get spent (slice_index q.of p.item) ≡ Some c.get.result.now =
    subst (λ (of : List ℕ). slice_get spent (slice_index of p.item) ≡ Some c.get.result.now) c.components.ensures c.get.ensures.value in
    let is : slice_index spent (slice_index q.of p.item) ≡ c.get.result.now = get_or_from_slice_get spent (slice_index q.of p.item) c.get.result.now 0 at in
    price_leaves q (in_group c.args.names.now c.args.group) c.args.boxed.now p c.args.limit c.requires.held spent c.in_ok-price.price c.args.total
    (g.met.P.Paths.owned c.args.problem.now) c.requires.base c.requires.pays c.in_ok-price.ensures.more
    (omega (arith, c.if-saturating_add-limit.true, c.saturating_add.ensures, c.saturating_sub-left.ensures, is))
