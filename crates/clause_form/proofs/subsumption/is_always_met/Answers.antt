use Rattle.std.proofs.Common.{◌≡◌, ◌<◌, true, subst, sym, ◌∙◌, slice_index, length, arith}
use Rattle.std.proofs.lemmas.Bool.{lt-ltb}
use Rattle.std.proofs.lemmas.List.Folds.{list_any_at}
use Rattle.cca_base.proofs.SetLaws.{within}
use Rattle.clause_form.specs.declared.clause.Literal.{Literal}
use Rattle.clause_form.specs.Clauses.{is_true}
use Rattle.clause_form.proofs.subsumption.is_always_met.Goals as goal

pub returns-then-is_within : goal.returns-then-is_within
returns-then-is_within c h xs values =
    let literal = c.literal-item.result in
    let all = c.args.literals.now in
    let at = c.loop-literal.literal-index in
    let inside : at < length all = omega arith in
    let below : literal.subject < length c.args.sizes.now = subst (λ (l : Literal). l.subject < length c.args.sizes.now) (sym c.literal-item.is) (c.requires.below at literal inside) in
    let small = values.values literal.subject below in
    let holds : is_true xs literal ≡ true = within c.full-all.result literal.values (slice_index xs literal.subject) (sym c.is_within.ensures ∙ c.if-is_within.true) (c.full-all.ensures.members (slice_index xs literal.subject) ∙ lt-ltb (slice_index xs literal.subject) c.get.result (subst (λ n. slice_index xs literal.subject < n) (sym c.get.ensures.value) small)) in
    list_any_at (is_true xs) all at literal inside (subst (λ (l : Literal). is_true xs l ≡ true) c.literal-item.is holds)
