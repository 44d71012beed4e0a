use Rattle.std.proofs.Common.{◌≡◌, ◌<◌, ◌≤◌, List, Bool, false, length, replicate, drop, take, ◌++◌, slice_get, Some, All, ap, sym, subst, ◌∙◌, arith, rules}
use Rattle.std.proofs.lemmas.Option.{slice_get_read}
use Rattle.cca_base.specs.declared.cube.Pair.{Pair}
use Rattle.cca_base.specs.declared.model.Move.{Move}
use Rattle.list_laws.proofs.Elements.{written_back}
use Rattle.acceptance.specs.Marks.{AddsMarks, OccursIn}
use Rattle.acceptance.proofs.NeededMarks.{AreMarkedTo, move_none, move_other, move_own, move_all, ways_within}
use Rattle.acceptance.proofs.needs.marks_of.Goals.{then-the_move-component, else-the_move-component}
use Rattle.acceptance.proofs.needs.marks_of.Goals as goal

pub loop-i-init : goal.loop-i-init
loop-i-init c =
    let items : c.in_ok-marks.marks.items ≡ replicate c.len.result false = c.in_ok-marks.ensures.items_if_clones_equal (λ y h. search rules) in
    subst (AreMarkedTo c.args.model.now c.args.ways.now c.args.component 0) (sym items) (move_none c.args.model.now c.args.ways.now c.args.component c.len.result (c.len.ensures ∙ ap length c.components.ensures.value))

pub mark_cubes-requires : goal.mark_cubes-requires
mark_cubes-requires c =
    let m = c.args.model.now in
    let i = c.loop-i.i in
    let items : List Move = c.as_slice-the_move-items.result.now in
    let at : slice_get m.moves i ≡ Some c.the_move-item.result =
    ap (λ l. slice_get l i) (sym (c.as_slice-the_move-items.ensures ∙ c.moves.ensures.value)) ∙ slice_get_read items (length items) i c.the_move-item.result (omega arith) c.loop-i-test.true c.the_move-item.is
    in
    let within = ways_within m c.the_move-item.result c.get.result.now (c.requires.each i c.the_move-item.result c.get.result.now at c.get.ensures.value) in
    let long : length m.components ≡ length c.as_mut_slice.result.now = sym c.loop-i.invariant.full ∙ sym (ap length c.as_mut_slice.ensures.value) in
    subst (λ n. All (λ cube. All (λ (p : Pair). p.item < n) cube) c.as_slice.result.now) long
    (subst (All (λ cube. All (λ (p : Pair). p.item < length m.components) cube)) (sym c.as_slice.ensures) within)

pub loop-i-preserved : goal.loop-i-preserved
loop-i-preserved c =
    let m = c.args.model.now in
    let ways = c.args.ways.now in
    let i = c.loop-i.i in
    let old : List Bool = c.loop-i.marks.items in
    let move = c.the_move-item.result in
    let items : List Move = c.as_slice-the_move-items.result.now in
    let at : slice_get m.moves i ≡ Some move =
    ap (λ l. slice_get l i) (sym (c.as_slice-the_move-items.ensures ∙ c.moves.ensures.value)) ∙ slice_get_read items (length items) i move (omega arith) c.loop-i-test.true c.the_move-item.is
    in
    elim c.if-the_move-component.branch [
      | then-the_move-component w ↦
          let new : List Bool = w.mark_cubes.new.marks in
          let same : w.as_mut_slice.result.now ≡ old = w.as_mut_slice.ensures.value in
          let back : take c.loop-i.marks.len (new ++ drop (length new) old) ≡ new = written_back c.loop-i.marks.len old w.as_mut_slice.result.now new same w.as_mut_slice.ensures.len w.mark_cubes.auto.marks in
          let cubes = w.get.result.now in
          let adds : AddsMarks (OccursIn cubes) old new = subst (λ l. AddsMarks (OccursIn l) old new) w.as_slice.ensures (subst (λ z. AddsMarks (OccursIn w.as_slice.result.now) z new) same w.mark_cubes.ensures) in
          rw (w.marks-is, back) (move_own m ways c.args.component i move old at c.loop-i.invariant cubes new w.get.ensures.value w.if-the_move-component.true adds)
      | else-the_move-component w ↦ rw w.marks-is (move_other m ways c.args.component i move old at c.loop-i.invariant w.if-the_move-component.false)
    ]

pub returns : goal.returns
returns c =
    let whole : length c.args.model.now.moves ≤ c.loop-i.i = omega (arith, c.loop-i-test.false, ap length (c.as_slice-the_move-items.ensures ∙ c.moves.ensures.value)) in
    move_all c.args.model.now c.args.ways.now c.args.component c.loop-i.i c.loop-i.marks.items c.requires whole c.loop-i.invariant
