use Rattle.std.proofs.Common.{◌≡◌, ◌+◌, ℕ, List, [], ◌∷◌, length, slice_index, get_or, sym, ap, subst, ◌∙◌, arith}
use Rattle.std.proofs.lemmas.List.{length-append}
use Rattle.bounded_list.specs.Bounded.{Bounded}
use Rattle.cca_base.specs.declared.choice.Choice.{Choice}
use Rattle.cca_base.specs.declared.cube.Pair.{Pair}
use Rattle.mode_estimator.specs.Ticks.{is_asked, own_mode}
use Rattle.mode_estimator.proofs.ComponentPairs.{AreBefore}
use Rattle.mode_estimator.proofs.TickPairs.{takes_fixed, takes_free, takes_none}
use Rattle.mode_estimator.proofs.tick.write_pairs.Goals as goal
use Rattle.mode_estimator.proofs.tick.write_pairs.Goals.{then-row-eq1, else-row-eq1+then-is_in_group, else-row-eq1+else-is_in_group}

pub loop-c-preserved : goal.loop-c-preserved
loop-c-preserved c =
    let rows : List (List Choice) = c.args.rows.now.rows in
    let names : List ℕ = c.args.names.now in
    let modes : List ℕ = c.args.modes.now in
    let i : ℕ = c.loop-c.c in
    let row : List Choice = c.get-row.result.now in
    let here : get_or rows i [] ≡ row = sym c.get-row.ensures.row in
    let old = c.loop-c.pairs.items in let kept = c.loop-c.invariant in let new = c.if-row-eq1.pairs.items in
    let items = λ (b : Bounded Pair). b.items in let room = λ (b : Bounded Pair). b.room in
    elim c.if-row-eq1.branch [
      | then-row-eq1 w ↦
          let put = ap items w.pairs-is ∙ w.push.ensures.items in record {
            before = takes_fixed rows names c.args.group modes i row here old new kept.before w.if-row-eq1.true put;
            few = omega (arith, ap length put, length-append old (record { item = i; value = (get_or row 0 (record { mode = 0; cost = 0 })).mode } ∷ []), kept.few);
            room = ap room w.pairs-is ∙ w.push.ensures.room ∙ kept.room;
          }
      | else-row-eq1+then-is_in_group w ↦
          let put = ap items w.pairs-is ∙ w.push-then-is_in_group.ensures.items in record {
            before = takes_free rows names c.args.group modes i row here old kept.before w.if-row-eq1.false new (sym w.is_in_group.ensures ∙ w.if-is_in_group.true) put;
            few = omega (arith, ap length put, length-append old (record { item = i; value = slice_index modes i } ∷ []), kept.few);
            room = ap room w.pairs-is ∙ w.push-then-is_in_group.ensures.room ∙ kept.room;
          }
      | else-row-eq1+else-is_in_group w ↦
          let same = ap items w.pairs-is in record {
            before = subst (AreBefore (is_asked rows names c.args.group) (own_mode rows modes) (i + 1)) (sym same)
                (takes_none rows names c.args.group modes i row here old kept.before w.if-row-eq1.false (sym w.is_in_group.ensures ∙ w.if-is_in_group.false));
            few = omega (arith, ap length same, kept.few);
            room = ap room w.pairs-is ∙ kept.room;
          }
    ]
