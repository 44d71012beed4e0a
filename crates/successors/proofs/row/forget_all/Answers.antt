use Rattle.std.proofs.Common.{◌≡◌, ◌<◌, None, All, [], length, take, get_or, sym, subst, ap, ◌∙◌, arith}
use Rattle.std.proofs.Math.Seq.{map-set_same}
use Rattle.std.proofs.lemmas.List.{get_or_read, length-map, take_more_set}
use Rattle.std.proofs.lemmas.List.Elements.{All-push}
use Rattle.list_laws.proofs.GoneThrough.{all_gone}
use Rattle.successors.proofs.row.forget_all.Goals as goal

pub loop-component-preserved : goal.loop-component-preserved
loop-component-preserved c =
    let table = c.loop-component.table.items in
    let i = c.loop-component.component in
    let within : i < length table = omega (arith, c.loop-component-test.true, c.len-component-end.ensures, ap length c.loop-component.invariant.sizes, length-map table length, length-map c.args.table.now.items length) in
    let was : c.index_mut.result.now ≡ get_or table i [] = get_or_read table i c.index_mut.result.now within c.index_mut.ensures.value [] in
    record {
      sizes = map-set_same length table i c.forget.new.costs [] (c.forget.ensures.full ∙ ap length was) ∙ c.loop-component.invariant.sizes;
      none = subst (All (All (λ o. o ≡ None))) (sym (take_more_set table i c.forget.new.costs within))
          (All-push (All (λ o. o ≡ None)) (take i table) c.forget.new.costs c.loop-component.invariant.none c.forget.ensures.none);
    }

pub returns-clause-none : goal.returns-clause-none
returns-clause-none c =
    let table = c.loop-component.table.items in
    all_gone (All (λ o. o ≡ None)) table c.loop-component.component
    (omega (arith, c.loop-component-test.false, c.len-component-end.ensures, ap length c.loop-component.invariant.sizes, length-map table length, length-map c.args.table.now.items length))
    c.loop-component.invariant.none
