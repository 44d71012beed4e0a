use Rattle.std.proofs.Common.{◌≡◌, ◌<◌, ℕ, List, [], length, get_or, sym, ◌∙◌, arith}
use Rattle.cca_base.specs.declared.choice.Choice.{Choice}
use Rattle.mode_estimator.proofs.TickRows.{masks_long, masks_more}
use Rattle.mode_estimator.proofs.first.write_masks.Goals as goal

pub loop-at-preserved : goal.loop-at-preserved
loop-at-preserved c =
    let rows : List (List Choice) = c.args.rows.now.rows in
    let i : ℕ = c.loop-at.at in
    let row : List Choice = c.get.result.now in
    let was = c.loop-at.masks in
    let inside : i < length was = omega (arith, c.loop-at-test.true, c.loop-at.invariant.long) in
    let here : get_or rows i [] ≡ row = sym c.get.ensures.row in
    record {
      long = masks_long rows was c.set.new.self i c.mask_of.result row c.set.ensures inside here ∙ c.loop-at.invariant.long;
      each = λ k x less. masks_more rows was c.set.new.self i c.mask_of.result row c.set.ensures inside here
          (λ d under y. c.loop-at.invariant.each d y under) c.mask_of.ensures k less x;
    }
