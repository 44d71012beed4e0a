use Rattle.std.proofs.Common.{◌≡◌, ◌+◌, ◌∙◌, length, slice_get, slice_index, Some, sym, ap, subst, arith}
use Rattle.std.proofs.lemmas.Option.{slice_get_within}
use Rattle.reversibility.proofs.Near.{IsExpandedBy, move_within, read_within, expand_more}
use Rattle.reversibility.proofs.OpenMoves.{row_at}
use Rattle.reversibility.proofs.level.expand.Goals as goal

pub get-m-requires : goal.get-m-requires
get-m-requires c =
    let is = c.requires.within c.loop-k.k c.loop-k-test.true in
    omega (arith, slice_get_within c.args.model.now.moves (slice_index c.args.numbers.now c.loop-k.k) is.0 is.1, ap length c.moves-moves.ensures.value)

pub get-requires : goal.get-requires
get-requires c =
    omega (arith, (read_within c.args.model.now (length c.args.level.now) c.args.numbers.now c.requires.within c.loop-k.k c.loop-k-test.true c.moves-moves.ensures.value c.get-m.ensures.value).0, c.loop-k.invariant.expanded.full)

pub bounds-level-m : goal.bounds-level-m
bounds-level-m c =
    (read_within c.args.model.now (length c.args.level.now) c.args.numbers.now c.requires.within c.loop-k.k c.loop-k-test.true c.moves-moves.ensures.value c.get-m.ensures.value).1

pub set-requires : goal.set-requires
set-requires c =
    omega (arith, (read_within c.args.model.now (length c.args.level.now) c.args.numbers.now c.requires.within c.loop-k.k c.loop-k-test.true c.moves-moves.ensures.value c.get-m.ensures.value).0, c.loop-k.invariant.expanded.full)

pub loop-k-preserved : goal.loop-k-preserved
loop-k-preserved c =
    let at = subst (λ l. slice_get l (slice_index c.args.numbers.now c.loop-k.k) ≡ Some c.get-m.result.now) c.moves-moves.ensures.value c.get-m.ensures.value in
    let within = (move_within c.args.model.now (length c.args.level.now) c.args.numbers.now c.requires.within c.loop-k.k c.loop-k-test.true c.get-m.result.now at).1 in record {
      expanded = subst (IsExpandedBy c.args.model.now c.args.numbers.now c.args.level.now (c.loop-k.k + 1)) (sym c.set.ensures.items)
          (expand_more c.args.model.now c.args.numbers.now c.args.level.now c.loop-k.k c.loop-k.next.items c.loop-k.invariant.expanded c.get-m.result.now at
          c.get.result.now c.index-level-m.result c.union-set.result c.get.ensures.value (row_at c.args.level.now c.get-m.result.now.target c.index-level-m.result within c.index-level-m.is) c.union-set.ensures.members);
      room = c.set.ensures.room ∙ c.loop-k.invariant.room;
    }
