use Rattle.std.proofs.Common.{List, length, ap, subst, ◌∙◌}
use Rattle.std.proofs.lemmas.Result.{IfOk-weaker}
use Rattle.clause_form.specs.declared.clause.Clause.{Clause}
use Rattle.guard_compiler.specs.Rules.{AreRulesOf}
use Rattle.guard_compiler.specs.Shared.{AreShared}
use Rattle.guard_compiler.proofs.SharedClauses.{are_rules}
use Rattle.guard_compiler.proofs.rules.rules_of.Goals as goal

pub returns : goal.returns
returns c =
    let m = c.args.model.now in
    let whole = c.in_ok-whole.whole in
    let n = c.len-components.result in
    IfOk-weaker c.shared_out.result (AreShared whole.sizes n c.as_slice.result.now) (AreRulesOf m)
    (λ rules h. are_rules m whole n rules (c.len-components.ensures ∙ ap length c.components.ensures.value) c.in_ok-whole.ensures (subst (λ (z : List Clause). AreShared whole.sizes n z rules) c.as_slice.ensures h))
    c.shared_out.ensures
