use Rattle.std.proofs.Common.{◌∙◌, ◌≡◌, ◌++◌, ℕ, List, length, sym, ap, arith}
use Rattle.std.proofs.lemmas.List.{length-map}
use Rattle.cca_base.specs.declared.model.Component.{Component}
use Rattle.trajectory_estimator.specs.Asked.{entry_of}
use Rattle.trajectory_estimator.specs.Windows.{rows_of}
use Rattle.trajectory_estimator.proofs.FirstMasks.{gate_sets, made_first, mode_sets}
use Rattle.trajectory_estimator.proofs.places.first_masks.Goals as goal

pub returns : goal.returns
returns c =
    let records : ℕ = length c.records-records.result.now in
    let components : List Component = c.as_slice-components.result.now in
    let all : c.loop-2.counter ≡ records = omega arith in
    made_first c.args.query.now c.loop-2.masks records components
    (sym (length-map c.records-records.result.now entry_of) ∙ ap length c.records-records.ensures.value)
    (c.as_slice-components.ensures ∙ c.components.ensures.value ∙ ap (λ m. m.components) c.model.ensures.value)
    (c.loop-2.invariant ∙ ap (λ n. rows_of records (mode_sets components) ++ rows_of n (gate_sets (length components))) all)
