use Rattle.std.proofs.Common.{◌≡◌, ◌++◌, ℕ, Bool, false, List, [], length, get_or, take, drop, replicate, sym, ap, subst, ◌∙◌, rules}
use Rattle.std.proofs.lemmas.Option.{get_or_from_slice_get}
use Rattle.std.proofs.lemmas.List.{length-replicate}
use Rattle.causal_graph.specs.Search.{AreNarrow, Marks, Spreads}
use Rattle.cca_base.specs.Flags.{IsSet}
use Rattle.causal_graph.proofs.ReachedRows.{reaching_first, reaching_more, reached_all}
use Rattle.list_laws.proofs.Elements.{written_back}
use Rattle.cca_base.proofs.FlagLaws.{none_set}
use Rattle.causal_graph.proofs.reach.reached.Goals as goal

pub rounds-init : goal.rounds-init
rounds-init c =
    let rows = c.args.needs.now in
    let old : List Bool = c.in_ok-flags.flags.items in
    let new : List Bool = c.mark.new.flags in
    let row : List ℕ = c.as_slice.result.now in
    let is_row : get_or rows c.args.component [] ≡ row = get_or_from_slice_get rows c.args.component c.get.result.now [] c.get.ensures.value ∙ sym c.as_slice.ensures in
    let same : c.as_mut_slice.result.now ≡ old = c.as_mut_slice.ensures.value in
    let back : take c.in_ok-flags.flags.len (new ++ drop (length new) old) ≡ new = written_back c.in_ok-flags.flags.len old c.as_mut_slice.result.now new same c.as_mut_slice.ensures.len c.mark.auto.flags in
    let marks : Marks row old new = subst (λ xs. Marks row xs new) same c.mark.ensures.marks in
    let narrow : AreNarrow old → AreNarrow new = subst (λ xs. AreNarrow xs → AreNarrow new) same c.mark.ensures.narrow in
    let items : old ≡ replicate c.len.result false = c.in_ok-flags.ensures.items_if_clones_equal (λ y h. search rules) in
    rw back (reaching_first rows c.args.component row old new is_row (ap length items ∙ length-replicate c.len.result false ∙ c.len.ensures)
    (λ u h. none_set c.len.result u (subst (λ xs. IsSet xs u) items h)) marks narrow)

pub rounds-preserved : goal.rounds-preserved
rounds-preserved c =
    let rows = c.args.needs.now in
    let old : List Bool = c.rounds.flags.items in
    let new : List Bool = c.spread.new.flags in
    let same : c.as_mut_slice-in-rounds.result.now ≡ old = c.as_mut_slice-in-rounds.ensures.value in
    let back : take c.rounds.flags.len (new ++ drop (length new) old) ≡ new = written_back c.rounds.flags.len old c.as_mut_slice-in-rounds.result.now new same c.as_mut_slice-in-rounds.ensures.len c.spread.auto.flags in
    let spreads : Spreads rows old new = subst (λ xs. Spreads rows xs new) same c.spread.ensures.spreads in
    let narrow : AreNarrow old → AreNarrow new = subst (λ xs. AreNarrow xs → AreNarrow new) same c.spread.ensures.narrow in
    rw back (reaching_more rows c.args.component old new c.rounds.invariant spreads narrow)

-- what is set when a round sets nothing new
module _ (c : goal.After-rounds) where
  abbrev old : List Bool
  old = c.rounds.flags.items

  abbrev new : List Bool
  new = c.spread.new.flags

  same : c.as_mut_slice-in-rounds.result.now ≡ old
  same = c.as_mut_slice-in-rounds.ensures.value

  back : take c.rounds.flags.len (new ++ drop (length new) old) ≡ new
  back = written_back c.rounds.flags.len old c.as_mut_slice-in-rounds.result.now new same c.as_mut_slice-in-rounds.ensures.len c.spread.auto.flags

  none : new ≡ old
  none = c.rounds-test.ensures.fresh ∙ same

pub returns-clause-reached : goal.returns-clause-reached
returns-clause-reached c =
    let rows = c.args.needs.now in
    let spreads : Spreads rows (old c) (new c) = subst (λ xs. Spreads rows xs (new c)) (same c) c.spread.ensures.spreads in
    rw (back c, none c) (reached_all rows c.args.component (old c) (new c) c.rounds.invariant spreads (none c))

pub returns-clause-narrow : goal.returns-clause-narrow
returns-clause-narrow c = rw (back c, none c) c.rounds.invariant.narrow
