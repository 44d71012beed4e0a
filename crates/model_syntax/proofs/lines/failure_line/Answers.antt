use Rattle.std.proofs.Common.{◌<◌, ◌^◌, sym, subst, refl, arith}
use Rattle.model_syntax.specs.Items.{shown_ends}
use Rattle.model_syntax.specs.Lines.{Goes, IsNextOfNumber, failure_next}
use Rattle.model_syntax.proofs.FailureLines.{failure_unknown, failure_limit, failure_added, failure_well_formed}
use Rattle.model_syntax.proofs.lines.failure_line.Goals as goal

pub returns-in_default-ends_of : goal.returns-in_default-ends_of
returns-in_default-ends_of c =
    let small : c.in-Some.cost < 2 ^ 128 = omega arith in
    let e = c.in_default-ends_of.ensures.ends in
    rw c.refused-in_default-ends_of.ensures (failure_unknown c.args.model.now c.args.cost.now (shown_ends c.args.ends) c.in-Some.cost small c.in-Some.ensures.some e, refl, refl)

pub returns-then-failure_passes : goal.returns-then-failure_passes
returns-then-failure_passes c =
    let small : c.in-Some.cost < 2 ^ 128 = omega arith in
    rw c.refused-then-failure_passes.ensures
    (failure_limit c.args.model.now c.args.cost.now (shown_ends c.args.ends) c.in-Some.cost small c.in-Some.ensures.some _ c.in-Some-ends_of.ensures.ends (sym c.if-failure_passes.ensures.value), refl, refl)

pub add_failure-requires : goal.add_failure-requires
add_failure-requires c =
    failure_well_formed c.args.model.now _ _ _ c.in-Some.cost c.failure_passes.ensures.well_formed c.in-Some-ends_of.ensures.source c.in-Some-ends_of.ensures.target (sym c.if-failure_passes.ensures.value)

pub returns : goal.returns
returns c =
    let small : c.in-Some.cost < 2 ^ 128 = omega arith in
    subst (λ n. IsNextOfNumber c.args.cost.now (failure_next c.args.model.now (shown_ends c.args.ends)) (Goes n)) (sym c.in_ok-add_failure.ensures.ok)
    (failure_added c.args.model.now c.args.cost.now (shown_ends c.args.ends) c.in-Some.cost small c.in-Some.ensures.some _ c.in-Some-ends_of.ensures.ends (sym c.if-failure_passes.ensures.value))
