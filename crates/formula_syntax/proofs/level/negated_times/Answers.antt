use Rattle.std.proofs.Common.{◌≡◌, ℕ, suc, ◌-◌, ◌+◌, ap, ◌∙◌, arith}
use Rattle.formula_syntax.specs.FormulaParser.{nots}
use Rattle.formula_syntax.proofs.level.negated_times.Goals as goal

pub nots-preserved : goal.nots-preserved
nots-preserved c =
    let e : suc (c.args.times - (c.nots._i + 1)) ≡ c.args.times - c.nots._i = omega arith in
    ap (nots (c.args.times - (c.nots._i + 1))) c.in_ok-part.ensures ∙ ap (λ (n : ℕ). nots n c.nots.part) e ∙ c.nots.invariant
