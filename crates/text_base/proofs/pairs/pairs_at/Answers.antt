use Rattle.std.proofs.Common.{arith}
use Rattle.std.proofs.lemmas.List.{map_push}
use Rattle.text_base.specs.Pairs.{shown_pair}
use Rattle.text_base.proofs.PairGrammar.{pair_grammar}
use Rattle.text_base.proofs.ListsRead.{ends_list, more_list, no_list}
use Rattle.text_base.proofs.pairs.pairs_at.Goals as goal

pub pairs-preserved : goal.pairs-preserved
pairs-preserved c =
    let h = more_list pair_grammar c.pairs.invariant (shown_pair c.in-Some.pair) _ c.in-Some.ensures _ c.in-Some-next_is.ensures in
    let e = c.in_ok-push.ensures.items in
    rw e (rw map_push h)

pub returns-in-None : goal.returns-in-None
returns-in-None c =
    let h = ends_list pair_grammar c.pairs.invariant (shown_pair c.in-Some.pair) _ c.in-Some.ensures c.in-None.ensures in
    let e = c.in_ok-push.ensures.items in
    rw e (rw map_push h)

pub returns : goal.returns
returns c = no_list pair_grammar c.pairs.invariant c.in_default.ensures

pub pairs-smaller : goal.pairs-smaller
pairs-smaller c =
    let h = more_list pair_grammar c.pairs.invariant (shown_pair c.in-Some.pair) _ c.in-Some.ensures _ c.in-Some-next_is.ensures in
    omega (arith, h.within)
