use Rattle.std.proofs.Common.{◌≡◌, ◌++◌, Some, None, List, ap, sym, subst, ◌∙◌}
use Rattle.std.proofs.lemmas.Result.{IfOk-weaker}
use Rattle.clause_form.specs.declared.clause.Clauses.{Clauses}
use Rattle.clause_form.specs.declared.clause.Clause.{Clause}
use Rattle.clause_form.specs.Formulas.{AreClausesOf}
use Rattle.clause_form.proofs.DeniedClauses.{denied_beside_rules}
use Rattle.consistency.proofs.denied.denied_problem.Goals as goal

pub returns : goal.returns
returns c =
    let m = c.args.model.now in
    let denied = c.in_ok-sizes.field-0 in
    let both : Clauses = record { sizes = denied.sizes; clauses = denied.clauses ++ c.args.rules.now.clauses } in
    let made : AreClausesOf m None (Some c.args.formula.now) both = denied_beside_rules m c.args.formula.now denied c.args.rules.now c.in_ok-sizes.ensures c.requires.rules in
    let after : c.add_copies.new.clauses ≡ denied.clauses ++ c.args.rules.now.clauses =
    c.in_ok-add_copies.ensures ∙ ap (λ (cs : List Clause). denied.clauses ++ cs) (c.as_slice.ensures ∙ ap (λ (x : Clauses). x.clauses) c.clauses.ensures.value) in
    IfOk-weaker c.of.result (λ p. p ≡ record { sizes = denied.sizes; clauses = c.add_copies.new.clauses }) (AreClausesOf m None (Some c.args.formula.now))
    (λ p e. subst (AreClausesOf m None (Some c.args.formula.now)) (sym (e ∙ ap (λ (cs : List Clause). record { sizes = denied.sizes; clauses = cs }) after)) made)
    c.of.ensures
