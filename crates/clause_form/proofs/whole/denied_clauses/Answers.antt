use Rattle.std.proofs.Common.{◌≡◌, ◌++◌, length, ap, ◌∙◌}
use Rattle.cca_base.specs.Model.{mode_counts, value_counts}
use Rattle.clause_form.proofs.ModelSizes.{within_counts, denying}
use Rattle.clause_form.proofs.whole.denied_clauses.Goals as goal

pub add_formula-requires-clause-within : goal.add_formula-requires-clause-within
add_formula-requires-clause-within c =
    let m = c.args.model.now in
    within_counts m c.len-components.result c.in_ok-sizes.sizes c.args.formula.now (c.len-components.ensures ∙ ap length c.components.ensures.value) c.in_ok-sizes.ensures c.requires

pub returns : goal.returns
returns c =
    let m = c.args.model.now in
    let n : c.len-components.result ≡ length m.components = c.len-components.ensures ∙ ap length c.components.ensures.value in
    let s : c.in_ok-sizes.sizes ≡ mode_counts m ++ value_counts m = c.in_ok-sizes.ensures in
    record {
      sizes = c.in_ok-sizes.ensures;
      proper = c.in_ok-add_formula.ensures.below;
      meaning = denying m c.args.formula.now c.len-components.result c.in_ok-sizes.sizes _ _ n s c.new-clauses.ensures c.in_ok-add_formula.ensures.adds;
    }
