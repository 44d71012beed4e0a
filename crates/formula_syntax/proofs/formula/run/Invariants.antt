use Rattle.formula_syntax.specs.FormulaParser.{state_of}
use Rattle.formula_syntax.proofs.FormulaReadWhole.{IsRunning}
use Rattle.formula_syntax.proofs.formula.run.Given as goal

abbrev pub invariant-tokens : goal.invariant-tokens
invariant-tokens l = IsRunning l.strict l.model l.tokens l.token-index (state_of l.machine)
