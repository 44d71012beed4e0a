use Rattle.std.proofs.Common.{subst, sym, ap, ◌∙◌, not, true}
use Rattle.std.proofs.lemmas.Result.{IfOk-weaker}
use Rattle.cca_base.specs.declared.formula.Formula.{Formula}
use Rattle.cca_base.specs.declared.formula.Formula.TheVariants.{Implies, Iff}
use Rattle.clause_form.specs.Formulas.{Means}
use Rattle.clause_form.proofs.Subjects.{means_implies, means_iff, truth_implies, truth_iff}
use Rattle.clause_form.proofs.convert.+clauses_where.Goals as goal

pub returns-in_ok-second-in-Implies-clause-means : goal.returns-in_ok-second-in-Implies-clause-means
returns-in_ok-second-in-Implies-clause-means t c =
    let a = c.get-in-Implies.result.now in
    let b = c.get-in-Implies-2.result.now in
    IfOk-weaker c.combined-in-Implies.result _ _
    (λ r says. means_implies c.args.components c.args.sizes.now c.args.formula.now a b c.args.wanted c.in_ok-first-in-Implies.first.items c.in_ok-second-in-Implies.second.items r.items
    (λ modes values. truth_implies modes values c.args.formula.now a b (c.in-Implies.is ∙ (ap (λ x. Implies x c.in-Implies.b) (sym c.get-in-Implies.ensures) ∙ ap (λ y. Implies a y) (sym c.get-in-Implies-2.ensures))))
    c.in_ok-first-in-Implies.ensures.means c.in_ok-second-in-Implies.ensures.means says)
    c.combined-in-Implies.ensures.met

pub returns-in_ok-two-in-Iff-clause-means : goal.returns-in_ok-two-in-Iff-clause-means
returns-in_ok-two-in-Iff-clause-means t c =
    let n = c.args.components in
    let sizes = c.args.sizes.now in
    let f = c.args.formula.now in
    let a = c.get-in-Iff.result.now in
    let b = c.get-in-Iff-2.result.now in
    let with = c.in_ok-with-in-Iff.with.items in
    let other = c.in_ok-other-in-Iff.other.items in
    IfOk-weaker c.combined-in-Iff-3.result _ _
    (λ r says. means_iff n sizes f a b c.args.wanted
    c.in_ok-without-in-Iff.without.items c.in_ok-same-in-Iff.same.items c.in_ok-one-in-Iff.one.items with other c.in_ok-two-in-Iff.two.items r.items
    (λ modes values. truth_iff modes values f a b (c.in-Iff.is ∙ (ap (λ x. Iff x c.in-Iff.b) (sym c.get-in-Iff.ensures) ∙ ap (λ y. Iff a y) (sym c.get-in-Iff-2.ensures))))
    c.in_ok-without-in-Iff.ensures.means c.in_ok-same-in-Iff.ensures.means c.in_ok-one-in-Iff.ensures.met
    (subst (λ (z : Formula). Means n sizes z true with) (c.get-in-Iff-3.ensures ∙ sym c.get-in-Iff.ensures) c.in_ok-with-in-Iff.ensures.means)
    (subst (λ (z : Formula). Means n sizes z (not c.args.wanted) other) (c.get-in-Iff-4.ensures ∙ sym c.get-in-Iff-2.ensures) c.in_ok-other-in-Iff.ensures.means)
    c.in_ok-two-in-Iff.ensures.met
    says)
    c.combined-in-Iff-3.ensures.met
