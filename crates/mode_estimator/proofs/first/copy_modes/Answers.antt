use Rattle.std.proofs.Common.{◌≡◌, ◌<◌, ℕ, List, length, get_or, set, inl, inr, sym, ap, ◌∙◌, arith, get_or-set_same, get_or-set_other}
use Rattle.std.proofs.lemmas.List.{length-set, get_or_default}
use Rattle.std.proofs.lemmas.Grind.{same_number_lists}
use Rattle.list_laws.proofs.Orders.{below_next}
use Rattle.mode_estimator.proofs.first.copy_modes.Goals as goal

pub set-requires : goal.set-requires
set-requires c = omega (arith, c.loop-at.invariant.long, c.loop-at-test.true)

pub loop-at-preserved : goal.loop-at-preserved
loop-at-preserved c =
    let i = c.loop-at.at in let old : List ℕ = c.loop-at.to in let from : List ℕ = c.args.from.now in let x = c.get.result.now in
    let inside : i < length old = omega (arith, c.loop-at.invariant.long, c.loop-at-test.true) in
    let within : i < length from = omega (arith, inside, c.loop-at.invariant.long) in
    let here : x ≡ get_or from i 0 = c.get.ensures.item ∙ get_or_default from i x 0 within in
    record {
      long = ap length c.set.ensures ∙ length-set old i x ∙ c.loop-at.invariant.long;
      same = λ k less. ap (λ (l : List ℕ). get_or l k 0) c.set.ensures ∙ elim (below_next k i less) [
        | inl before ↦ get_or-set_other old i k x 0 (λ e. omega (arith, e, before)) ∙ c.loop-at.invariant.same k before
        | inr e ↦ ap (λ n. get_or (set old i x) n 0) e ∙ get_or-set_same old i x 0 inside ∙ here ∙ sym (ap (λ n. get_or from n 0) e)
      ];
    }

pub returns : goal.returns
returns c = same_number_lists c.loop-at.to c.args.from.now c.loop-at.invariant.long (λ k less. c.loop-at.invariant.same k (omega (arith, less, c.loop-at.invariant.long)))
