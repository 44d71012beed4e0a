use Rattle.std.proofs.Common.{IsTrue, All, take}
use Rattle.cca_base.specs.Formula.{truth}
use Rattle.plan_checker.proofs.states.keeps_rules.Given as goal

abbrev pub invariant-loop-rule : goal.invariant-loop-rule
invariant-loop-rule l = All (λ rule. IsTrue (truth l.state.modes l.world.values rule)) (take l.rule-index l.rule-items)
