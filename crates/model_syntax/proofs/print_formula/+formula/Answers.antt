use Rattle.model_syntax.specs.Printing.{said, part_said, formula_said}
use Rattle.std.proofs.Common.{codes}
use Rattle.text_base.specs.Lexemes.{word}
use Rattle.model_syntax.proofs.PrintedTokens.{bare_done, enclosed_done, formulas_go_on, linked_done, implies_said, iff_said}
use Rattle.model_syntax.proofs.print_formula.+formula.Goals as goal

pub part-returns-then-precedence-allowed : goal.part-returns-then-precedence-allowed
part-returns-then-precedence-allowed t c =
    bare_done c.args.out.now c.formula.new.out c.args.allowed c.precedence.result (said c.args.model.now c.args.part.now) (c.precedence.ensures c.args.model.now) c.if-precedence-allowed.true c.in_ok-formula.ensures

pub part-returns : goal.part-returns
part-returns t c =
    enclosed_done c.args.out.now c.symbol.new.self c.formula-2.new.out c.symbol-2.new.self c.args.allowed c.precedence.result (said c.args.model.now c.args.part.now) (c.precedence.ensures c.args.model.now)
    c.if-precedence-allowed.false c.in_ok-symbol.ensures c.in_ok-formula-2.ensures c.in_ok-symbol-2.ensures

pub formula-loop-k-preserved : goal.formula-loop-k-preserved
formula-loop-k-preserved t c =
    formulas_go_on c.args.model.now c.loop-k.out c.between.new.out c.part-in-loop-k.new.out _ c.loop-k.k 0 (codes "and") c.as_slice-inner-items.result.now c.inner-item.result c.loop-k-test.true c.inner-item.is
    c.in_ok-between-in-All.ensures c.in_ok-part-in-All.ensures c.loop-k.invariant

pub formula-loop-k-2-preserved : goal.formula-loop-k-2-preserved
formula-loop-k-2-preserved t c =
    formulas_go_on c.args.model.now c.loop-k-2.out c.between-in-loop-k-2.new.out c.part-in-loop-k-2.new.out _ c.loop-k-2.k 1 (codes "or") c.as_slice-inner-items-in-Any.result.now c.inner-item-in-loop-k-2.result
    c.loop-k-2-test.true c.inner-item-in-loop-k-2.is c.in_ok-between-in-Any.ensures c.in_ok-part-in-Any.ensures c.loop-k-2.invariant

pub formula-returns-in_ok-part-in-Implies-2 : goal.formula-returns-in_ok-part-in-Implies-2
formula-returns-in_ok-part-in-Implies-2 t c =
    linked_done c.args.out.now c.part-in-Implies.new.out c.word-in-Implies.new.self c.part-in-Implies-2.new.out (part_said 2 (said c.args.model.now c.get-in-Implies.result.now)) (part_said 2 (said c.args.model.now c.get-in-Implies-2.result.now))
    (formula_said c.args.model.now c.args.whole.now) (word (codes "implies")) c.in_ok-part-in-Implies.ensures c.in_ok-word-in-Implies.ensures c.in_ok-part-in-Implies-2.ensures
    (implies_said c.args.model.now c.args.whole.now _ _ _ _ c.in-Implies.is c.get-in-Implies.ensures c.get-in-Implies-2.ensures)

pub formula-returns-in_ok-part-in-Iff-2 : goal.formula-returns-in_ok-part-in-Iff-2
formula-returns-in_ok-part-in-Iff-2 t c =
    linked_done c.args.out.now c.part-in-Iff.new.out c.word-in-Iff.new.self c.part-in-Iff-2.new.out (part_said 2 (said c.args.model.now c.get-in-Iff.result.now)) (part_said 2 (said c.args.model.now c.get-in-Iff-2.result.now))
    (formula_said c.args.model.now c.args.whole.now) (word (codes "iff")) c.in_ok-part-in-Iff.ensures c.in_ok-word-in-Iff.ensures c.in_ok-part-in-Iff-2.ensures
    (iff_said c.args.model.now c.args.whole.now _ _ _ _ c.in-Iff.is c.get-in-Iff.ensures c.get-in-Iff-2.ensures)
