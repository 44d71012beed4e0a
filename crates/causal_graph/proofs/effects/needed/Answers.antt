use Rattle.std.proofs.Common.{◌≡◌, ◌+◌, ◌++◌, ◌∷◌, [], List, ℕ, Bool, false, length, get_or, take, drop, replicate, sym, subst, ◌∙◌, rules}
use Rattle.std.proofs.lemmas.List.{take_more}
use Rattle.std.proofs.lemmas.Option.{get_or_from_slice_get}
use Rattle.causal_graph.specs.Search.{Marks, AreNeeded}
use Rattle.causal_graph.proofs.RemainingNeeds.{needed_none, needed_more}
use Rattle.list_laws.proofs.Elements.{written_back}
use Rattle.causal_graph.proofs.effects.needed.Goals as goal

pub loop-c-init : goal.loop-c-init
loop-c-init c =
    let items : c.in_ok-flags.flags.items ≡ replicate c.len.result false = c.in_ok-flags.ensures.items_if_clones_equal (λ y h. search rules) in
    subst (AreNeeded c.args.needs.now []) (sym items) (needed_none c.args.needs.now c.len.result c.len.ensures)

pub loop-c-preserved : goal.loop-c-preserved
loop-c-preserved c =
    let rows = c.args.needs.now in
    let remaining = c.args.remaining.now in
    let i = c.loop-c.c-index in
    let d : ℕ = get_or remaining i 0 in
    let row : List ℕ = c.as_slice.result.now in
    let is_row : get_or rows d [] ≡ row = get_or_from_slice_get rows d c.get.result.now [] c.get.ensures.value ∙ sym c.as_slice.ensures in
    let old : List Bool = c.loop-c.flags.items in
    let new : List Bool = c.mark.new.flags in
    let same : c.as_mut_slice.result.now ≡ old = c.as_mut_slice.ensures.value in
    let back : take c.loop-c.flags.len (new ++ drop (length new) old) ≡ new = written_back c.loop-c.flags.len old c.as_mut_slice.result.now new same c.as_mut_slice.ensures.len c.mark.auto.flags in
    let marks : Marks row old new = subst (λ xs. Marks row xs new) same c.mark.ensures.marks in
    let more : take (i + 1) remaining ≡ take i remaining ++ d ∷ [] = take_more remaining i 0 c.loop-c-test.true in
    rw (more, back) (needed_more rows (take i remaining) d row old new is_row c.loop-c.invariant marks)
