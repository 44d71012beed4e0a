use Rattle.std.proofs.Common.{◌≡◌, ◌+◌, ◌∙◌, ℕ, [], ◌∷◌, ◌++◌, length, length-append, slice_get, slice_index, Some, sym, ap, subst, arith}
use Rattle.std.proofs.lemmas.Option.{slice_get_within, same_Some}
use Rattle.bounded_list.specs.Bounded.{Bounded}
use Rattle.cca_base.specs.declared.model.Move.{Move}
use Rattle.cca_base.specs.Relations.{AreExactly}
use Rattle.reversibility.specs.Levels.{IsAmong}
use Rattle.reversibility.proofs.Exactly.{some_no, some_yes}
use Rattle.policy_tables.specs.Leaving.{LeavesMode}
use Rattle.policy_tables.proofs.leaving.write_leaving.Goals.{then-get-from, else-get-from}
use Rattle.policy_tables.proofs.leaving.write_leaving.Goals as goal

pub get-requires : goal.get-requires
get-requires c =
    let is = c.requires.within.1 c.loop-k.k c.loop-k-test.true in
    omega (arith, slice_get_within c.args.model.now.moves (slice_index c.args.numbers.now c.loop-k.k) is.0 is.1, ap length c.moves-moves.ensures.value)

pub loop-k-preserved : goal.loop-k-preserved
loop-k-preserved c =
    let m = c.args.model.now in
    let xs = c.args.numbers.now in
    let k = c.loop-k.k in
    let number = slice_index xs k in
    let leaving = c.loop-k.leaving.items in
    let Q : ℕ → Type 0 = LeavesMode m c.args.from in
    let at : slice_get m.moves number ≡ Some c.get.result.now = subst (λ l. slice_get l number ≡ Some c.get.result.now) c.moves-moves.ensures.value c.get.ensures.value in
    elim c.if-get-from.branch [
      | then-get-from w ↦
          let pushed : c.if-get-from.leaving.items ≡ leaving ++ number ∷ [] = ap (λ (z : Bounded ℕ). z.items) w.leaving-is ∙ w.push.ensures.items in (
            subst (AreExactly (λ i. IsAmong xs (k + 1) i × Q i)) (sym pushed)
                (some_yes Q xs c.requires.rising k leaving c.loop-k.invariant.0 c.loop-k-test.true (c.get.result.now, at, w.if-get-from.true)),
            omega (arith, ap length pushed, length-append leaving (number ∷ []), c.loop-k.invariant.1),
            ap (λ (z : Bounded ℕ). z.room) w.leaving-is ∙ w.push.ensures.room ∙ c.loop-k.invariant.2,
          )
      | else-get-from w ↦
          let same : c.if-get-from.leaving.items ≡ leaving = ap (λ (z : Bounded ℕ). z.items) w.leaving-is in (
            subst (AreExactly (λ i. IsAmong xs (k + 1) i × Q i)) (sym same)
                (some_no Q xs c.requires.rising k leaving c.loop-k.invariant.0
                (λ leaves. w.if-get-from.false (sym (ap (λ (z : Move). z.source) (same_Some leaves.0 c.get.result.now (sym leaves.1 ∙ at))) ∙ leaves.2))),
            omega (arith, ap length same, c.loop-k.invariant.1),
            ap (λ (z : Bounded ℕ). z.room) w.leaving-is ∙ c.loop-k.invariant.2,
          )
    ]

pub returns-clause-numbers : goal.returns-clause-numbers
returns-clause-numbers c =
    let all : c.loop-k.k ≡ length c.args.numbers.now = omega (arith, c.loop-k-test.false, c.loop-k.auto.k-end) in
    subst (λ n. AreExactly (λ i. IsAmong c.args.numbers.now n i × LeavesMode c.args.model.now c.args.from i) c.loop-k.leaving.items) all c.loop-k.invariant.0
