use Rattle.std.proofs.Common.{◌≡◌, ◌-◌}
use Rattle.formula_syntax.specs.FormulaParser.{nots}
use Rattle.formula_syntax.proofs.level.negated_times.Given as goal

abbrev pub invariant-nots : goal.invariant-nots
invariant-nots l = nots (l.times - l._i) l.part ≡ nots l.times l.initial.part
