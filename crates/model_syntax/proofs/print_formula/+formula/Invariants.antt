use Rattle.std.proofs.Common.{◌≡◌, codes, drop, map}
use Rattle.model_syntax.specs.Printing.{said, formula_said}
use Rattle.model_syntax.specs.Drafts.{with_tokens}
use Rattle.model_syntax.proofs.PrintedTokens.{parts_from}
use Rattle.model_syntax.proofs.print_formula.+formula.Given as goal

-- with what is left, the formula is whole
abbrev pub invariant-formula-loop-k : goal.invariant-formula-loop-k
invariant-formula-loop-k l =
    with_tokens l.out (parts_from l.k 0 (codes "and") (map (said l.model) (drop l.k l.inner-items))) ≡ with_tokens l.fn.out (formula_said l.model l.whole)

abbrev pub invariant-formula-loop-k-2 : goal.invariant-formula-loop-k-2
invariant-formula-loop-k-2 l =
    with_tokens l.out (parts_from l.k 1 (codes "or") (map (said l.model) (drop l.k l.inner-items))) ≡ with_tokens l.fn.out (formula_said l.model l.whole)
