use Rattle.std.proofs.Common.{sym, ap, ◌∙◌}
use Rattle.std.specs.Cmp.{booleans_Decides}
use Rattle.list_laws.proofs.Places.{value_at}
use Rattle.cca_base.specs.Formula.{subject_value}
use Rattle.cca_base.specs.Sets.{has}
use Rattle.plan_checker.proofs.known.is_sure_of.Goals as goal

pub returns-in-Some : goal.returns-in-Some
returns-in-Some c h t w keeps =
    let item = c.in-Component.c in
    let mode = c.in-Some.mode in
    let known = c.in-Some.ensures in
    let there = keeps (record { item = item; value = mode }) known.0 known.1 in
    ap (λ x. has c.args.values (subject_value x t w)) c.in-Component.is ∙ ap (has c.args.values) (value_at t item mode there) ∙ sym c.has.ensures ∙ (booleans_Decides c.has.result c.args.want).0 h
