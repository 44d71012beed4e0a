use Rattle.std.proofs.Common.{◌≡◌, ◌<◌, ◌++◌, length, subst, sym, ap, ◌∙◌}
use Rattle.cca_base.specs.Model.{mode_counts, value_counts}
use Rattle.clause_form.proofs.ModelSizes.{within_counts, all_within_counts, asked}
use Rattle.cca_base.proofs.Within.{mode_within}
use Rattle.cca_base.proofs.StateLaws.{mode_is_small}
use Rattle.clause_form.proofs.whole.clauses_of.Goals as goal

pub add_rules-requires-clause-within : goal.add_rules-requires-clause-within
add_rules-requires-clause-within c =
    let m = c.args.model.now in
    let n : c.len-components.result ≡ length m.components = c.len-components.ensures ∙ ap length c.components.ensures.value in
    let s : c.in_ok-sizes.sizes ≡ mode_counts m ++ value_counts m = c.in_ok-sizes.ensures in
    let r : c.as_slice.result.now ≡ m.rules = c.as_slice.ensures ∙ c.rules.ensures.value in
    all_within_counts m c.len-components.result c.in_ok-sizes.sizes c.as_slice.result.now n s r c.components.ensures.well_formed

pub add_fixed-requires-clause-fixed : goal.add_fixed-requires-clause-fixed
add_fixed-requires-clause-fixed c p is =
    let m = c.args.model.now in
    let mode = c.requires.fixed p is in
    let n : c.len-components.result ≡ length m.components = c.len-components.ensures ∙ ap length c.components.ensures.value in
    (subst (λ k. p.item < k) (sym n) (mode_within m p.item p.value mode), mode_is_small m p.item p.value c.components.ensures.well_formed mode)

pub add_denied-requires-clause-within : goal.add_denied-requires-clause-within
add_denied-requires-clause-within c f is =
    let m = c.args.model.now in
    within_counts m c.len-components.result c.in_ok-sizes.sizes f.now (c.len-components.ensures ∙ ap length c.components.ensures.value) c.in_ok-sizes.ensures (c.requires.denied f is)

pub returns : goal.returns
returns c =
    let m = c.args.model.now in
    let n : c.len-components.result ≡ length m.components = c.len-components.ensures ∙ ap length c.components.ensures.value in
    let s : c.in_ok-sizes.sizes ≡ mode_counts m ++ value_counts m = c.in_ok-sizes.ensures in
    let r : c.as_slice.result.now ≡ m.rules = c.as_slice.ensures ∙ c.rules.ensures.value in
    record {
      sizes = c.in_ok-sizes.ensures;
      proper = c.in_ok-add_denied.ensures.below;
      meaning = asked m c.args.fixed _ c.len-components.result c.in_ok-sizes.sizes c.as_slice.result.now _ _ _ _ n s r c.new-clauses.ensures
          c.in_ok-add_rules.ensures.adds c.in_ok-add_fixed.ensures.adds c.in_ok-add_denied.ensures.adds;
    }
