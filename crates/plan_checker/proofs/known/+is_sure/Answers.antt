use Rattle.std.proofs.Common.{◌≡◌, ◌+◌, Bool, false, not, List, drop, sym, ap, subst, ◌∙◌, arith}
use Rattle.std.proofs.lemmas.List.{drop_all}
use Rattle.cca_base.specs.declared.formula.Formula.{Formula}
use Rattle.cca_base.specs.declared.formula.Formula.TheFolds.{fold-roll-Formula}
use Rattle.cca_base.specs.declared.formula.Formula.TheOpen.{Formula-F}
use Rattle.cca_base.specs.declared.formula.Formula.TheViews.{roll-Formula}
use denote.Hole.Carrier.{roll}
use Rattle.cca_base.specs.Formula.{truth, truth_step}
use Rattle.cca_base.proofs.SureFormulas.{AllLeft, AnyLeft, part_left, all_goes_on, all_fails, all_ends, any_goes_on, any_holds, any_ends, not_wanted, not_not, sure_other, sure_same, found_same, found_other}
use Rattle.plan_checker.proofs.known.+is_sure.Goals as goal

pub returns-then-is_sure-want : goal.returns-then-is_sure-want
returns-then-is_sure-want t c h s w extends =
    let want = c.args.want in
    let items : List Formula = c.as_slice-part-items.result.now in
    let x : Formula = c.part-item.result in
    let other : want ≡ false = not_wanted want h in
    let left = subst (λ (l : List Formula). AllLeft want s w l (truth s w c.args.formula.now)) (part_left items c.loop-part.part-index x c.loop-part-test.true c.part-item.is) (c.loop-part.invariant s w extends) in
    all_fails want s w x (drop (c.loop-part.part-index + 1) items) (truth s w c.args.formula.now) left
    (c.is_sure-in-loop-part.ensures (sure_other c.is_sure-in-loop-part.result want c.if-is_sure-want.true other) s w extends ∙ other) ∙ sym other

pub loop-part-preserved : goal.loop-part-preserved
loop-part-preserved t c s w extends =
    let want = c.args.want in
    let items : List Formula = c.as_slice-part-items.result.now in
    let x : Formula = c.part-item.result in
    let left = subst (λ (l : List Formula). AllLeft want s w l (truth s w c.args.formula.now)) (part_left items c.loop-part.part-index x c.loop-part-test.true c.part-item.is) (c.loop-part.invariant s w extends) in
    all_goes_on want s w x (drop (c.loop-part.part-index + 1) items) (truth s w c.args.formula.now) left
    (λ e. c.is_sure-in-loop-part.ensures (sure_same c.is_sure-in-loop-part.result want c.if-is_sure-want.false e) s w extends ∙ e)

pub returns-after-loop-part : goal.returns-after-loop-part
returns-after-loop-part t c h s w extends =
    all_ends c.args.want s w (drop c.loop-part.part-index c.as_slice-part-items.result.now) (truth s w c.args.formula.now) (drop_all c.loop-part.part-index c.as_slice-part-items.result.now (omega arith))
    (c.loop-part.invariant s w extends) h

pub returns-then-is_sure-want-2 : goal.returns-then-is_sure-want-2
returns-then-is_sure-want-2 t c h s w extends =
    let want = c.args.want in
    let items : List Formula = c.as_slice-part-items-in-Any.result.now in
    let x : Formula = c.part-item-in-loop-part-2.result in
    let left = subst (λ (l : List Formula). AnyLeft want s w l (truth s w c.args.formula.now)) (part_left items c.loop-part-2.part-index x c.loop-part-2-test.true c.part-item-in-loop-part-2.is) (c.loop-part-2.invariant s w extends) in
    any_holds want s w x (drop (c.loop-part-2.part-index + 1) items) (truth s w c.args.formula.now) left
    (c.is_sure-in-loop-part-2.ensures (found_same c.is_sure-in-loop-part-2.result want c.if-is_sure-want-2.true h) s w extends ∙ h) ∙ sym h

pub loop-part-2-preserved : goal.loop-part-2-preserved
loop-part-2-preserved t c s w extends =
    let want = c.args.want in
    let items : List Formula = c.as_slice-part-items-in-Any.result.now in
    let x : Formula = c.part-item-in-loop-part-2.result in
    let left = subst (λ (l : List Formula). AnyLeft want s w l (truth s w c.args.formula.now)) (part_left items c.loop-part-2.part-index x c.loop-part-2-test.true c.part-item-in-loop-part-2.is) (c.loop-part-2.invariant s w extends) in
    any_goes_on want s w x (drop (c.loop-part-2.part-index + 1) items) (truth s w c.args.formula.now) left
    (λ e. c.is_sure-in-loop-part-2.ensures (found_other c.is_sure-in-loop-part-2.result want c.if-is_sure-want-2.false e) s w extends ∙ e)

pub returns-after-loop-part-2 : goal.returns-after-loop-part-2
returns-after-loop-part-2 t c h s w extends =
    any_ends c.args.want s w (drop c.loop-part-2.part-index c.as_slice-part-items-in-Any.result.now) (truth s w c.args.formula.now)
    (drop_all c.loop-part-2.part-index c.as_slice-part-items-in-Any.result.now (omega arith)) (c.loop-part-2.invariant s w extends) (not_wanted c.args.want h)

pub returns-in-Not : goal.returns-in-Not
unfolding roll-Formula roll
returns-in-Not t c h s w extends =
    ap (truth s w) c.in-Not.is ∙ fold-roll-Formula Bool (truth_step s w) (Formula-F.Not c.in-Not.part) ∙ ap not (ap (truth s w) (sym c.get.ensures) ∙ c.is_sure.ensures h s w extends) ∙ not_not c.args.want
