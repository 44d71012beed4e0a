use Rattle.std.proofs.Common.{◌≡◌, ◌≤◌, ◌++◌, All, length, ap, subst, sym, ◌∙◌, arith}
use Rattle.std.proofs.lemmas.List.{take_all}
use Rattle.cca_base.specs.declared.limits.TheConstants.{MAX_CHOICES}
use Rattle.cca_base.specs.Model.{mode_counts, value_counts}
use Rattle.clause_form.proofs.ModelSizes.{counts_few, subjects_counted}
use Rattle.clause_form.proofs.sizes.sizes_of.Goals as goal

pub invariant_of-result : goal.invariant_of-result
invariant_of-result c =
    let m = c.args.model.now in
    let whole : c.loop-subject.counts ≡ mode_counts m ++ value_counts m = c.loop-subject.invariant ∙ take_all c.loop-subject.subject (mode_counts m ++ value_counts m)
    (omega (arith, subjects_counted m, c.loop-subject-test.false, c.len.ensures, c.len-2.ensures, ap length c.components.ensures.value, ap length c.variables.ensures.value)) in
    subst (All (λ n. n ≤ MAX_CHOICES)) (sym whole) (counts_few m c.components.ensures.well_formed)
