use Rattle.std.proofs.Common.{◌≡◌, ◌+◌, ℕ, true, List, length, refl, sym, ap, subst, ◌∙◌, inl, inr, arith}
use Rattle.std.proofs.lemmas.Bool.{both_ways, cases_Bool}
use Rattle.cca_base.specs.PlantModel.{PlantModel}
use Rattle.cca_base.specs.Model.{is_broken}
use Rattle.plan_checker.proofs.GuardLaws.{AreSupportTo, support_more, support_same, support_whole}
use Rattle.plan_checker.proofs.guards.support_pairs.Goals.{then-is_leaned_on+in_ok-push, else-is_leaned_on}
use Rattle.plan_checker.proofs.guards.support_pairs.Goals as goal

pub loop-item-preserved : goal.loop-item-preserved
loop-item-preserved c =
    let m : PlantModel = c.args.known.now.model.now in
    let s : List ℕ = c.args.known.now.state.now.modes in
    let own : ℕ = c.args.known.now.own in
    let i : ℕ = c.loop-item.item in
    let mode : ℕ = c.get-value.result.now in
    elim c.if-is_leaned_on.branch [
      | then-is_leaned_on+in_ok-push w ↦
          subst (AreSupportTo m s own (i + 1)) (sym (w.pairs-is ∙ w.in_ok-push.ensures.ok))
          (support_more m s own i c.loop-item.pairs c.loop-item.invariant (record { item = i; value = mode }) refl c.get-value.ensures.value (c.is_leaned_on.ensures.0 w.if-is_leaned_on.true))
      | else-is_leaned_on w ↦
          let broken : is_broken m.moves i mode ≡ true = elim (cases_Bool (is_broken m.moves i mode)) [
            | inl is ↦ is
            | inr whole ↦ absurd (both_ways c.is_leaned_on.result w.if-is_leaned_on.false (c.is_leaned_on.ensures.1 (inr whole)))
          ] in
          subst (AreSupportTo m s own (i + 1)) (sym w.pairs-is)
          (support_same m s own i c.loop-item.pairs c.loop-item.invariant mode c.get-value.ensures.value
          (λ e. both_ways c.is_leaned_on.result w.if-is_leaned_on.false (c.is_leaned_on.ensures.1 (inl e))) broken)
    ]

pub returns : goal.returns
returns c =
    let full : length c.args.known.now.state.now.modes ≡ length c.args.known.now.model.now.components = c.requires.full in
    support_whole c.args.known.now.model.now c.args.known.now.state.now.modes c.args.known.now.own c.loop-item.item c.loop-item.pairs
    (omega (arith, full, c.loop-item-test.false, c.len-item-end.ensures, ap length c.components.ensures.value)) c.loop-item.invariant
