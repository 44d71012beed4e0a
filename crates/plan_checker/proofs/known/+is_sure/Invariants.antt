use Rattle.std.proofs.Common.{ℕ, List, drop}
use Rattle.cca_base.specs.Formula.{truth}
use Rattle.cca_base.proofs.SureFormulas.{AllLeft, AnyLeft}
use Rattle.plan_checker.specs.Steps.{HasSupport}
use Rattle.plan_checker.proofs.known.+is_sure.Given as goal

abbrev pub decreases-is_sure : goal.decreases-is_sure
decreases-is_sure l = goal.size-is_sure l

abbrev pub invariant-loop-part : goal.invariant-loop-part
invariant-loop-part l = (s w : List ℕ) → HasSupport l.support.model.now l.support.state.now.modes l.support.own s → AllLeft l.want s w (drop l.part-index l.part-items) (truth s w l.formula)

abbrev pub invariant-loop-part-2 : goal.invariant-loop-part-2
invariant-loop-part-2 l = (s w : List ℕ) → HasSupport l.support.model.now l.support.state.now.modes l.support.own s → AnyLeft l.want s w (drop l.part-index l.part-items) (truth s w l.formula)
