use Rattle.std.proofs.Common.{◌≡◌, [], length, slice_get, slice_index, Some, refl, ap, subst, inl, inr, arith}
use Rattle.std.proofs.lemmas.Option.{slice_get_within}
use Rattle.reversibility.proofs.Near.{last_or}
use Rattle.reversibility.proofs.around.leads.Goals.{else-m-from-via-then-m-from+else-m-to, else-m-from-via-else-m-from}
use Rattle.reversibility.proofs.around.leads.Goals as goal

pub get-m-requires : goal.get-m-requires
get-m-requires c =
    let is = c.requires.1 c.loop-k.k c.loop-k-test.true in
    omega (arith, slice_get_within c.args.model.now.moves (slice_index c.args.numbers.now c.loop-k.k) is.0 is.1, ap length c.moves-moves.ensures.value)

pub returns-then-m-to : goal.returns-then-m-to
returns-then-m-to c = (
  (λ _. record {
    place = c.loop-k.k;
    below = c.loop-k-test.true;
    move = c.get-m.result.now;
    move_at = subst (λ l. slice_get l (slice_index c.args.numbers.now c.loop-k.k) ≡ Some c.get-m.result.now) c.moves-moves.ensures.value c.get-m.ensures.value;
    source = c.if-m-from.true;
    target = c.if-m-to.true;
  }),
  (λ _. refl),
)

pub loop-k-preserved : goal.loop-k-preserved
loop-k-preserved c h =
    let at : slice_get c.args.model.now.moves (slice_index c.args.numbers.now c.loop-k.k) ≡ Some c.get-m.result.now =
    subst (λ l. slice_get l (slice_index c.args.numbers.now c.loop-k.k) ≡ Some c.get-m.result.now) c.moves-moves.ensures.value c.get-m.ensures.value in
    elim (last_or c.args.model.now c.args.numbers.now [] c.loop-k.k c.args.from c.args.to c.get-m.result.now at h) [
      | inl before ↦ c.loop-k.invariant before
      | inr here ↦ elim c.else-m-from.branch [
        | else-m-from-via-then-m-from+else-m-to w ↦ w.if-m-to.false here.1
        | else-m-from-via-else-m-from w ↦ w.if-m-from.false here.0
      ]
    ]
