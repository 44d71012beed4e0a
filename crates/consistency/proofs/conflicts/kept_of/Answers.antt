use Rattle.std.proofs.Common.{◌≡◌, ◌+◌, ◌-◌, ◌<◌, ◌++◌, ℕ, List, IfSome, length, get_or, take, drop, is_some, ap, subst, sym, ◌∙◌}
use Rattle.std.proofs.lemmas.List.Elements.{All-append, All-drop}
use Rattle.cca_base.specs.declared.cube.Pair.{Pair}
use Rattle.cca_base.specs.Cube.{IsCube}
use Rattle.cca_base.specs.Model.{HasMode}
use Rattle.consistency.specs.Cores.{IsCore, IsShowable}
use Rattle.consistency.specs.Spaces.{IsWorldSpace}
use Rattle.cca_base.proofs.Trying.{trying_others, trying_lacks}
use Rattle.consistency.proofs.CoreTrying.{outside_dropped, inside_dropped, inside_kept}
use Rattle.consistency.proofs.Fitting.{showable_fits, read_here, rest_of}
use Rattle.consistency.proofs.conflicts.kept_of.Goals as goal
use Rattle.consistency.proofs.conflicts.kept_of.Goals.{then-has_subject+in_ok-smaller+in-Some, then-has_subject+in_ok-smaller+in-None+in_ok-push-in-None, else-has_subject}

abbrev none : Pair
none = record { item = 0; value = 0 }

pub core_left-requires-clause-cube : goal.core_left-requires-clause-cube
core_left-requires-clause-cube c =
    let m = c.args.rules.now.model.now in
    let xs : List Pair = c.as_slice-pair-items.result.now in
    let p : Pair = get_or xs c.loop-at.at none in
    let e = c.as_slice-pair-items.ensures.pairs in
    subst (λ ps. IsCube (c.loop-at.kept ++ ps)) (sym (rest_of c.args.pairs.now c.as_slice.result.now (c.loop-at.at + 1) c.as_slice.ensures.pairs))
    (trying_others m c.args.seen.now.pairs c.args.pairs.now c.loop-at.kept c.loop-at.at p c.loop-at.invariant.trying.trying
    (subst (λ (ps : List Pair). c.loop-at.at < length ps) e c.loop-at-test.true) (read_here xs c.args.pairs.now c.loop-at.at none e c.loop-at-test.true))

pub core_left-requires-clause-modes : goal.core_left-requires-clause-modes
core_left-requires-clause-modes c =
    let m = c.args.rules.now.model.now in
    let rest = rest_of c.args.pairs.now c.as_slice.result.now (c.loop-at.at + 1) c.as_slice.ensures.pairs in
    subst (λ (ps : List Pair). (k : ℕ) (d : Pair) → k < length (c.loop-at.kept ++ ps) → HasMode m (get_or (c.loop-at.kept ++ ps) k d).item (get_or (c.loop-at.kept ++ ps) k d).value) (sym rest)
    (All-append (λ p. HasMode m p.item p.value) c.loop-at.kept (drop (c.loop-at.at + 1) c.args.pairs.now) c.loop-at.invariant.trying.trying.modes
    (All-drop (λ p. HasMode m p.item p.value) (c.loop-at.at + 1) c.args.pairs.now c.requires.pairs))

pub push-requires : goal.push-requires
push-requires c =
    let m = c.args.rules.now.model.now in
    let xs : List Pair = c.as_slice-pair-items.result.now in
    let p : Pair = get_or xs c.loop-at.at none in
    let e = c.as_slice-pair-items.ensures.pairs in
    trying_lacks m c.args.seen.now.pairs c.args.pairs.now c.loop-at.kept c.loop-at.at p c.loop-at.invariant.trying.trying
    (subst (λ (ps : List Pair). c.loop-at.at < length ps) e c.loop-at-test.true) (read_here xs c.args.pairs.now c.loop-at.at none e c.loop-at-test.true)

pub loop-at-preserved : goal.loop-at-preserved
loop-at-preserved c =
    let m = c.args.rules.now.model.now in
    let seen = c.args.seen.now.pairs in
    let pairs : List Pair = c.args.pairs.now in
    let kept = c.loop-at.kept in
    let at = c.loop-at.at in
    let xs : List Pair = c.as_slice-pair-items.result.now in
    let p : Pair = get_or xs at none in
    let e = c.as_slice-pair-items.ensures.pairs in
    let within : at < length pairs = subst (λ (ps : List Pair). at < length ps) e c.loop-at-test.true in
    let here : get_or pairs at p ≡ p = read_here xs pairs at none e c.loop-at-test.true in
    elim c.if-has_subject.branch [
      | then-has_subject+in_ok-smaller+in-Some w ↦
          let rest = rest_of pairs w.as_slice.result.now (at + 1) w.as_slice.ensures.pairs in
          let core = subst (λ o. IfSome o (IsCore m seen (kept ++ take (length w.as_slice.result.now - (at + 1)) (drop (at + 1) w.as_slice.result.now)))) w.in-Some.is w.in_ok-smaller.ensures.some in
          rw (w.kept-is, w.core-is) (record {
            trying = inside_dropped m seen pairs kept at c.loop-at.core p c.loop-at.invariant.trying within here w.in-Some.smaller (subst (λ ps. IsCore m seen (kept ++ ps) w.in-Some.smaller) rest core);
            space = subst (IsWorldSpace c.args.rules.now.worlds.now) (sym w.space-is) w.in_ok-smaller.ensures.space;
          })
      | then-has_subject+in_ok-smaller+in-None+in_ok-push-in-None w ↦
          let rest = rest_of pairs w.as_slice.result.now (at + 1) w.as_slice.ensures.pairs in
          let mode : HasMode m p.item p.value = subst (λ (q : Pair). HasMode m q.item q.value) here (c.requires.pairs at p within) in
          rw (w.kept-is, w.core-is, w.in_ok-push-in-None.ensures.ok) (record {
            trying = inside_kept m seen pairs kept at c.loop-at.core p c.loop-at.invariant.trying within here mode
                (showable_fits m (kept ++ drop (at + 1) pairs) seen (subst (λ ps. IsShowable m seen (kept ++ ps)) rest (w.in_ok-smaller.ensures.none (ap is_some w.in-None.is))));
            space = subst (IsWorldSpace c.args.rules.now.worlds.now) (sym w.space-is) w.in_ok-smaller.ensures.space;
          })
      | else-has_subject w ↦
          rw (w.kept-is, w.core-is) (record {
            trying = outside_dropped m seen pairs kept at c.loop-at.core p c.loop-at.invariant.trying within here (sym c.has_subject.ensures ∙ w.if-has_subject.false);
            space = subst (IsWorldSpace c.args.rules.now.worlds.now) (sym w.space-is) c.loop-at.invariant.space;
          })
    ]
