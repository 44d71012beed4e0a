use Rattle.std.proofs.Common.{◌≡◌, ◌∙◌, true, length, slice_get, slice_index, Some, sym, ap, subst, arith}
use Rattle.std.proofs.lemmas.Bool.{both_ways}
use Rattle.std.proofs.lemmas.Option.{slice_get_within, same_Some}
use Rattle.cca_base.specs.declared.model.Move.{Move}
use Rattle.cca_base.specs.Sets.{has}
use Rattle.reversibility.specs.ClassParts.{in_row}
use Rattle.reversibility.proofs.Near.{move_within}
use Rattle.reversibility.proofs.OpenMoves.{row_at}
use Rattle.reversibility.proofs.Standing.{below_next}
use Rattle.policy_tables.specs.Distances.{NearAt}
use Rattle.policy_tables.proofs.near.first_near.Goals as goal

pub get-requires : goal.get-requires
get-requires c =
    let is = c.requires c.loop-k.k c.loop-k-test.true in
    omega (arith, slice_get_within c.args.model.now.moves (slice_index c.args.numbers.now c.loop-k.k) is.0 is.1, ap length c.moves-moves.ensures.value)

pub bounds-level-target : goal.bounds-level-target
bounds-level-target c =
    let at = subst (λ l. slice_get l (slice_index c.args.numbers.now c.loop-k.k) ≡ Some c.get.result.now) c.moves-moves.ensures.value c.get.ensures.value in
    (move_within c.args.model.now (length c.args.level.now) c.args.numbers.now c.requires c.loop-k.k c.loop-k-test.true c.get.result.now at).1

pub returns-then-has : goal.returns-then-has
returns-then-has c =
    let at = subst (λ l. slice_get l (slice_index c.args.numbers.now c.loop-k.k) ≡ Some c.get.result.now) c.moves-moves.ensures.value c.get.ensures.value in
    let within = (move_within c.args.model.now (length c.args.level.now) c.args.numbers.now c.requires c.loop-k.k c.loop-k-test.true c.get.result.now at).1 in
    record {
      within = c.loop-k-test.true;
      near = (
        c.get.result.now,
        at,
        ap (λ r. has r c.args.to) (row_at c.args.level.now c.get.result.now.target c.index-level-target.result within c.index-level-target.is) ∙ (sym c.has.ensures ∙ c.if-has.true),
      );
      first = c.loop-k.invariant;
    }

pub loop-k-preserved : goal.loop-k-preserved
loop-k-preserved c =
    let at = subst (λ l. slice_get l (slice_index c.args.numbers.now c.loop-k.k) ≡ Some c.get.result.now) c.moves-moves.ensures.value c.get.ensures.value in
    let within = (move_within c.args.model.now (length c.args.level.now) c.args.numbers.now c.requires c.loop-k.k c.loop-k-test.true c.get.result.now at).1 in
    below_next (λ j. NearAt c.args.model.now c.args.numbers.now c.args.level.now c.args.to j → ⊥) c.loop-k.k c.loop-k.invariant (λ near.
    let same : near.0 ≡ c.get.result.now = same_Some near.0 c.get.result.now (sym near.1 ∙ at) in
    both_ways c.has.result c.if-has.false (c.has.ensures ∙ (sym (ap (λ r. has r c.args.to) (row_at c.args.level.now c.get.result.now.target c.index-level-target.result within c.index-level-target.is))
    ∙ subst (λ (z : Move). in_row c.args.level.now z.target c.args.to ≡ true) same near.2)))

pub returns : goal.returns
returns c k lt = c.loop-k.invariant k (omega (arith, lt, c.loop-k-test.false))
