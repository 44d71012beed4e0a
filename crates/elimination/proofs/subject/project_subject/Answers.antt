use Rattle.std.proofs.Common.{◌≡◌, ◌∙◌, List, ap}
use Rattle.clause_form.specs.declared.clause.Clause.{Clause}
use Rattle.clause_form.specs.Clauses.{all_met}
use Rattle.elimination.proofs.SubjectProjected.{some_value_exact}
use Rattle.elimination.proofs.subject.project_subject.Goals as goal

pub returns-clause-exact : goal.returns-clause-exact
returns-clause-exact c =
    let all = c.args.clauses.now in
    let given : c.in_ok-all.all.items ≡ all.clauses = c.in_ok-all.ensures ∙ c.as_slice.ensures in
    let met = rw given at c.in_ok-rest.ensures.met in
    some_value_exact all c.args.subject (record { sizes = c.in_ok-sizes.sizes; clauses = c.of.result }) (λ xs h. ap (λ (z : List Clause). all_met xs z) c.of.ensures ∙ met xs h)
