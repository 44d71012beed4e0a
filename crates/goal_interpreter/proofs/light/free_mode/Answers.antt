use Rattle.std.proofs.Common.{◌≤◌, ◌∙◌, inl, inr, [], length, sym, subst}
use Rattle.std.proofs.lemmas.Option.{get_or_from_slice_get}
use Rattle.cca_base.specs.declared.limits.TheConstants.{MAX_CHOICES}
use Rattle.goal_interpreter.proofs.LightModes.{few_in_row, free_by_classes}
use Rattle.goal_interpreter.proofs.light.free_mode.Goals as goal

pub lightest_of-requires : goal.lightest_of-requires
lightest_of-requires c =
    let row = get_or_from_slice_get c.args.weights.now.rows c.args.component c.get.result.now [] c.get.ensures.value in
    subst (λ r. length r ≤ MAX_CHOICES) (row ∙ sym c.as_slice-row.ensures)
    (few_in_row c.args.classes.now c.class.ensures.classes c.args.weights.now.rows c.requires.weights c.args.state.now.modes c.requires.state c.args.component c.requires.component)

pub returns-in-Some : goal.returns-in-Some
returns-in-Some c =
    let row = get_or_from_slice_get c.args.weights.now.rows c.args.component c.get.result.now [] c.get.ensures.value in
    free_by_classes c.args.classes.now c.class.ensures.classes c.args.weights.now.rows c.requires.weights c.args.state.now.modes c.requires.state c.args.component c.class.result
    c.as_slice-row.result.now c.lightest_of.result c.in-Some.mode c.requires.component (c.as_slice-row.ensures ∙ sym row) c.class.ensures.value c.lightest_of.ensures (inl c.in-Some.is)

pub returns-in-None : goal.returns-in-None
returns-in-None c =
    let row = get_or_from_slice_get c.args.weights.now.rows c.args.component c.get.result.now [] c.get.ensures.value in
    free_by_classes c.args.classes.now c.class.ensures.classes c.args.weights.now.rows c.requires.weights c.args.state.now.modes c.requires.state c.args.component c.class.result
    c.as_slice-row.result.now c.lightest_of.result c.get-in-None.result.now c.requires.component (c.as_slice-row.ensures ∙ sym row) c.class.ensures.value c.lightest_of.ensures
    (inr (c.in-None.is, sym (get_or_from_slice_get c.args.state.now.modes c.args.component c.get-in-None.result.now 0 c.get-in-None.ensures.value)))
