use Rattle.std.proofs.Common.{◌≡◌, false, length, replicate, sym, ap, subst, ◌∙◌, rules}
use Rattle.cca_base.specs.Flags.{IsSet}
use Rattle.cca_base.proofs.FlagLaws.{none_set}
use Rattle.policy_tables.proofs.tables.no_flags.Goals as goal

pub returns-clause-full : goal.returns-clause-full
returns-clause-full c =
    let long : length c.in_ok-vec.field-0.items ≡ length c.rows.result.now = sym c.in_ok-vec.field-0.ok.0 ∙ c.in_ok-vec.ensures.len in
    ap length c.of.ensures ∙ long ∙ ap length c.rows.ensures.value ∙ c.rows.ensures.classes.rows_full

pub returns-clause-unset : goal.returns-clause-unset
returns-clause-unset c =
    let n = length c.rows.result.now in
    let items : c.in_ok-vec.field-0.items ≡ replicate n false = c.in_ok-vec.ensures.items_if_clones_equal (λ y h. search rules) in
    λ d set. none_set n d (subst (λ l. IsSet l d) (c.of.ensures ∙ items) set)
