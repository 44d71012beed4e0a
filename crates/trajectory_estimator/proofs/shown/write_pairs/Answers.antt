use Rattle.std.proofs.Common.{◌≡◌, ◌+◌, ◌<◌, ◌++◌, ◌∷◌, [], ℕ, Bool, List, length, get_or, slice_index, sym, ap, subst, ◌∙◌, arith}
use Rattle.std.proofs.lemmas.Bool.{cond-false, cond-true, or_from, or_left, or_right}
use Rattle.std.proofs.lemmas.List.{length-append}
use Rattle.std.proofs.lemmas.Option.{get_or_from_slice_get}
use Rattle.cca_base.specs.declared.cube.Pair.{Pair}
use Rattle.group_search.specs.Questions.{in_group}
use Rattle.trajectory_estimator.specs.Clashes.{is_asked, mode_asked, stands_still}
use Rattle.trajectory_estimator.specs.Walks.{mode_place}
use Rattle.trajectory_estimator.specs.declared.group_paths.GroupPaths.{GroupPaths}
use Rattle.trajectory_estimator.proofs.GroupPairs.{AreBefore, one_less, one_more}
use Rattle.trajectory_estimator.proofs.StatesAt.{mode_in}
use Rattle.trajectory_estimator.proofs.shown.write_pairs.Goals as goal
use Rattle.trajectory_estimator.proofs.shown.write_pairs.Goals.{then-paths-c, else-paths-c+then-has, else-paths-c+else-has}

pub loop-c-preserved : goal.loop-c-preserved
loop-c-preserved c =
    let x : GroupPaths = c.args.paths.now in
    let i : ℕ = c.loop-c.c in
    let at : ℕ = c.args.at in
    let before = c.loop-c.invariant.pairs in
    let few = c.loop-c.invariant.few in
    let pairs : List Pair = c.loop-c.pairs.items in
    let inside : i < length x.query.now.model.components = omega (arith, c.loop-c-test.true, c.count-c-end.ensures.count) in
    let group : Bool = in_group x.names.now x.group i in
    let still : Bool = stands_still x i in
    let first : ℕ = slice_index x.query.now.anchor i in
    let behind : ℕ = slice_index x.values.now (mode_place x.query.now i at) in
    elim c.if-paths-c.branch [
      | then-paths-c w ↦
          let more = ap (λ l. l.items) w.pairs-is ∙ w.push.ensures.items in
          record {
            pairs = one_more (is_asked x) (mode_asked x at) i pairs before w.get.result.now c.if-paths-c.pairs.items (or_right group still w.if-paths-c.true)
                (sym (get_or_from_slice_get c.anchor-anchor.result.now.modes i w.get.result.now 0 w.get.ensures.value) ∙ ap (λ (l : List ℕ). get_or l i 0) c.anchor-anchor.ensures.value
                ∙ sym (cond-true still first behind w.if-paths-c.true)) more;
            few = omega (arith, few, ap length more, length-append pairs (record { item = i; value = w.get.result.now } ∷ []));
            room = ap (λ l. l.room) w.pairs-is ∙ w.push.ensures.room ∙ c.loop-c.invariant.room;
          }
      | else-paths-c+then-has w ↦
          let value : ℕ = slice_index c.modes_at-modes.result.now i in
          let more = ap (λ l. l.items) w.pairs-is ∙ w.push-then-has.ensures.items in
          record {
            pairs = one_more (is_asked x) (mode_asked x at) i pairs before value c.if-paths-c.pairs.items (or_left group still (sym w.has.ensures ∙ w.if-has.true))
                (ap (λ (l : List ℕ). get_or l i 0) c.modes_at-modes.ensures ∙ mode_in x.query.now x.values.now x.full at c.requires.at i 0 inside ∙ sym (cond-false still first behind w.if-paths-c.false)) more;
            few = omega (arith, few, ap length more, length-append pairs (record { item = i; value = value } ∷ []));
            room = ap (λ l. l.room) w.pairs-is ∙ w.push-then-has.ensures.room ∙ c.loop-c.invariant.room;
          }
      | else-paths-c+else-has w ↦
          let same = ap (λ l. l.items) w.pairs-is in
          record {
            pairs = subst (AreBefore (is_asked x) (mode_asked x at) (i + 1)) (sym same)
                (one_less (is_asked x) (mode_asked x at) i pairs before (or_from group still (sym w.has.ensures ∙ w.if-has.false) w.if-paths-c.false));
            few = omega (arith, few, ap length same);
            room = ap (λ l. l.room) w.pairs-is ∙ c.loop-c.invariant.room;
          }
    ]
