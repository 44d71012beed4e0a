use Rattle.std.proofs.Common.{List, length, ap, subst, sym, ◌∙◌}
use Rattle.guard_compiler.specs.Relevant.{IsWithRelevant}
use Rattle.guard_compiler.specs.Rules.{AreRulesBelow}
use Rattle.guard_compiler.specs.declared.rules.RuleClause.{RuleClause}
use Rattle.guard_compiler.proofs.AskedOfState.{asked, same_subjects}
use Rattle.guard_compiler.proofs.guards.asked_of.Goals as goal

pub with_relevant-requires-clause-rules : goal.with_relevant-requires-clause-rules
with_relevant-requires-clause-rules c =
    let denied = c.in_ok-denied.denied in
    subst (AreRulesBelow (length denied.sizes)) (sym c.as_slice.ensures) (same_subjects c.args.model.now c.args.guard.now c.args.rules.now denied c.requires.rules c.in_ok-denied.ensures)

pub returns : goal.returns
returns c =
    let n = c.len-components.result in
    let denied = c.in_ok-denied.denied in
    let all = c.in_ok-asked.asked in
    asked c.args.model.now c.args.guard.now n c.args.rules.now denied all (c.len-components.ensures ∙ ap length c.components.ensures.value) c.requires.worlds c.requires.rules c.in_ok-denied.ensures
    c.in_ok-asked.ensures.sizes (subst (λ (z : List RuleClause). IsWithRelevant n z denied.clauses all.clauses) c.as_slice.ensures c.in_ok-asked.ensures.relevant)
