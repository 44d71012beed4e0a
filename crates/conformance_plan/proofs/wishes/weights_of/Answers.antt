use Rattle.std.proofs.Common.{rules, ◌≡◌, ◌∙◌, ◌<◌, ◌≤◌, ◌++◌, ◌∷◌, ℕ, List, [], All, length, map, get_or, sym, ap, subst, arith}
use Rattle.std.proofs.lemmas.List.{get_or-map, length-map, map_push, take_more}
use Rattle.std.proofs.lemmas.List.Elements.{All-push}
use Rattle.cca_base.specs.declared.model.Component.{Component}
use Rattle.cca_base.specs.Model.{mode_counts}
use Rattle.cca_base.specs.declared.limits.TheConstants.{MAX_WEIGHT}
use Rattle.conformance_plan.proofs.wishes.weights_of.Goals as goal

abbrev IsSmall : ℕ → Type 0
IsSmall weight = weight ≤ MAX_WEIGHT

pub loop-c-preserved : goal.loop-c-preserved
loop-c-preserved c =
    let components = c.args.model.now.components in
    let k : ℕ = c.loop-c.c in
    let row : List ℕ = c.in_ok-row.row in
    let listed = c.components-components.ensures.value in
    let within : k < length components = omega (arith, c.loop-c-test.true, c.if-table-len.false, c.len.ensures, ap length listed) in
    let x : Component = c.get.result.now in
    let item : x ≡ get_or components k x = c.get.ensures.item ∙ ap (λ (xs : List Component). get_or xs k x) listed in
    let full : length row ≡ get_or (mode_counts c.args.model.now) k 0 =
    c.in_ok-row.ensures.full ∙ c.len-in-loop-c.ensures ∙ ap (λ (y : Component). length y.modes) item
    ∙ sym (get_or-map (λ (y : Component). length y.modes) components k x 0 within) in
    let in_counts : k < length (mode_counts c.args.model.now) = omega (arith, within, length-map components (λ (y : Component). length y.modes)) in
    let pushed : c.push.new.self ≡ c.loop-c.rows ++ row ∷ [] = search rules in (
      ap (map length) pushed ∙ map_push length c.loop-c.rows row
          ∙ (λ i. c.loop-c.invariant.0 i ++ full i ∷ []) ∙ sym (take_more (mode_counts c.args.model.now) k 0 in_counts),
      subst (All (All IsSmall)) (sym pushed) (All-push (All IsSmall) c.loop-c.rows row c.loop-c.invariant.1 c.in_ok-row.ensures.small),
    )
