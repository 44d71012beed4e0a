use Rattle.std.proofs.Common.{◌≡◌, ◌<◌, ◌≤◌, ◌+◌, List, [], ◌∷◌, ◌++◌, length, take, sym, ap, subst, ◌∙◌, refl, arith}
use Rattle.std.proofs.lemmas.List.{take_more, get_or_default}
use Rattle.cca_base.specs.declared.limits.TheConstants.{MAX_COST}
use Rattle.cca_base.specs.declared.choice.Choice.{Choice}
use Rattle.cost_search.specs.declared.part.Span.{Span}
use Rattle.cca_base.specs.Choices.{IsRow}
use Rattle.cost_search.proofs.Wholes.{whole_more, no_choice}
use Rattle.cost_search.proofs.whole.whole_part.Goals as goal

pub count_of-to-requires : goal.count_of-to-requires
count_of-to-requires c = subst IsRow (sym (c.as_slice.ensures ∙ c.row-item.is)) (c.requires.each c.loop-row.row-index c.row-item.result c.loop-row-test.true)

pub returns-then-to-eq0-clause-none : goal.returns-then-to-eq0-clause-none
returns-then-to-eq0-clause-none c e picks has =
    let row = c.row-item.is ∙ get_or_default c.args.rows.now c.loop-row.row-index c.row-item.result [] c.loop-row-test.true in
    no_choice c.args.rows.now picks c.loop-row.row-index c.loop-row-test.true (sym (ap length row) ∙ sym (c.count_of-to.ensures ∙ ap length c.as_slice.ensures) ∙ c.if-to-eq0.true) has

pub overflow_add-cost : goal.overflow_add-cost
overflow_add-cost c =
    let row = c.row-item.result in
    let own : IsRow row = subst IsRow (sym c.row-item.is) (c.requires.each c.loop-row.row-index row c.loop-row-test.true) in
    let some : 0 < length row = omega (arith, c.if-to-eq0.false, c.count_of-to.ensures, ap length c.as_slice.ensures) in
    let cheap : c.get-first.result.now.cost ≤ MAX_COST = subst (λ (z : Choice). z.cost ≤ MAX_COST) (sym c.get-first.ensures.item) (own.cheap 0 c.get-first.result.now some) in
    omega (arith, c.loop-row.invariant.small, c.loop-row-test.true, c.requires.few)

pub loop-row-preserved : goal.loop-row-preserved
loop-row-preserved c =
    let i = c.loop-row.row-index in
    let rows = c.args.rows.now in
    let row = c.row-item.result in
    let own : IsRow row = subst IsRow (sym c.row-item.is) (c.requires.each i row c.loop-row-test.true) in
    let to = c.count_of-to.ensures ∙ ap length c.as_slice.ensures in
    let some : 0 < length row = omega (arith, c.if-to-eq0.false, to) in
    let cheap : c.get-first.result.now.cost ≤ MAX_COST = subst (λ (z : Choice). z.cost ≤ MAX_COST) (sym c.get-first.ensures.item) (own.cheap 0 c.get-first.result.now some) in
    let small = c.loop-row.invariant.small in
    let next : Span = record { from = 0; to = c.count_of-to.result } in
    let more = whole_more (take i rows) c.loop-row.cost c.loop-row.modes c.loop-row.spans row c.get-first.result.now next c.loop-row.invariant.whole some c.get-first.ensures.item refl to in
    let longer : take (i + 1) rows ≡ take i rows ++ row ∷ [] = take_more rows i row c.loop-row-test.true ∙ ap (λ (r : List Choice). take i rows ++ r ∷ []) (sym c.row-item.is) in
    record {
      whole = rw (longer, c.in_ok-push.ensures.ok, c.in_ok-push-2.ensures.ok) more;
      small = omega arith;
    }
