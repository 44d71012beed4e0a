use Rattle.std.proofs.Common.{◌≡◌, ◌<◌, ℕ, Some, List, get_or, length, slice_get, true, sym, subst, ◌∙◌, arith}
use Rattle.std.proofs.lemmas.Bool.{both_ways}
use Rattle.std.proofs.lemmas.List.Elements.{All-contains, All-more}
use Rattle.list_laws.proofs.GoneThrough.{all_gone}
use Rattle.cca_base.specs.declared.cube.Pair.{Pair}
use Rattle.trajectory_estimator.specs.Clashes.{knows}
use Rattle.trajectory_estimator.proofs.KnownModes.{value_stands}
use Rattle.trajectory_estimator.proofs.before.Before.failing.Goals.{else-knows-via-then-knows+else-mode-pair, else-knows-via-else-knows}
use Rattle.trajectory_estimator.proofs.before.Before.failing.Goals as goal

pub loop-pair-preserved : goal.loop-pair-preserved
loop-pair-preserved c =
    let b = c.args.self.now in
    let pairs = c.as_slice-pair-items.result.now in
    let i = c.loop-pair.pair-index in
    let none : Pair = record { item = 0; value = 0 } in
    let p : Pair = get_or pairs i none in
    let inside : i < length c.args.cube.now = subst (λ (l : List Pair). i < length l) c.as_slice-pair-items.ensures.pairs c.loop-pair-test.true in
    let within : p.item < length b.modes.now = subst (λ (l : List Pair). (get_or l i none).item < length b.modes.now) (sym c.as_slice-pair-items.ensures.pairs) (c.requires i none inside) in
    All-more (λ (p : Pair). knows b p.item ≡ true → slice_get b.modes.now p.item ≡ Some p.value) pairs i none c.loop-pair-test.true c.loop-pair.invariant
    (λ known. elim c.else-knows.branch [
      | else-knows-via-then-knows+else-mode-pair w ↦ value_stands b.modes.now p.item p.value within w.if-mode-pair.false
      | else-knows-via-else-knows w ↦ absurd (both_ways c.knows.result w.if-knows.false (c.knows.ensures ∙ known))
    ])

pub returns-clause-none : goal.returns-clause-none
returns-clause-none c e p among =
    let b = c.args.self.now in
    let P : Pair → Type 0 = λ p. knows b p.item ≡ true → slice_get b.modes.now p.item ≡ Some p.value in
    let all = all_gone P c.as_slice-pair-items.result.now c.loop-pair.pair-index (omega arith) c.loop-pair.invariant in
    All-contains P c.args.cube.now p (subst (λ (l : List Pair). (k : ℕ) (d : Pair) → k < length l → P (get_or l k d)) c.as_slice-pair-items.ensures.pairs all) among
