use Rattle.std.proofs.Common.{◌≡◌, ◌<◌, ℕ, List, length, get_or, set, inl, inr, sym, ap, ◌∙◌, arith, get_or-set_same, get_or-set_other}
use Rattle.std.proofs.lemmas.List.{length-map, length-set, get_or-map}
use Rattle.std.proofs.lemmas.Grind.{same_number_lists}
use Rattle.list_laws.proofs.Orders.{below_next}
use Rattle.cca_base.specs.declared.model.Component.{Component}
use Rattle.cca_base.specs.State.{start_modes}
use Rattle.executive_loop.proofs.kept_standing.write_start.Goals as goal

pub set-requires : goal.set-requires
set-requires c = omega (arith, c.loop-at.invariant.long, c.loop-at-test.true, ap length c.components-components.ensures.value)

pub loop-at-preserved : goal.loop-at-preserved
loop-at-preserved c =
    let i = c.loop-at.at in let old : List ℕ = c.loop-at.modes in let all : List Component = c.args.model.now.components in
    let from : List ℕ = start_modes c.args.model.now in let x = c.get.result.now.start in
    let within : i < length all = omega (arith, c.loop-at-test.true, ap length c.components-components.ensures.value) in
    let inside : i < length old = omega (arith, within, c.loop-at.invariant.long) in
    let here : x ≡ get_or from i 0 = ap (λ (k : Component). k.start) (c.get.ensures.item ∙ ap (λ (l : List Component). get_or l i c.get.result.now) c.components-components.ensures.value) ∙ sym (get_or-map (λ (k : Component). k.start) all i c.get.result.now 0 within) in
    record {
      long = ap length c.set.ensures ∙ length-set old i x ∙ c.loop-at.invariant.long;
      same = λ k less. ap (λ (l : List ℕ). get_or l k 0) c.set.ensures ∙ elim (below_next k i less) [
        | inl before ↦ get_or-set_other old i k x 0 (λ e. omega (arith, e, before)) ∙ c.loop-at.invariant.same k before
        | inr e ↦ ap (λ n. get_or (set old i x) n 0) e ∙ get_or-set_same old i x 0 inside ∙ here ∙ sym (ap (λ n. get_or from n 0) e)
      ];
    }

pub returns : goal.returns
returns c = same_number_lists c.loop-at.modes (start_modes c.args.model.now) (c.loop-at.invariant.long ∙ sym (length-map c.args.model.now.components (λ (k : Component). k.start))) (λ k less. c.loop-at.invariant.same k (omega (arith, less, c.loop-at.invariant.long, c.loop-at-test.false, ap length c.components-components.ensures.value)))
