use Rattle.std.proofs.Common.{◌≡◌, ◌-◌, ◌++◌, ℕ, List, [], IfSome, length, filter, not, take, All, is_some, ap, subst, sym, ◌∙◌, arith, refl}
use Rattle.std.proofs.lemmas.List.{length-take-le, take_all}
use Rattle.std.proofs.lemmas.List.Filters.{length-filter_both}
use Rattle.cca_base.specs.declared.cube.Pair.{Pair}
use Rattle.cca_base.specs.Cube.{IsCube}
use Rattle.cca_base.specs.Model.{HasMode}
use Rattle.std.proofs.lemmas.List.Elements.{All-contains}
use Rattle.list_laws.proofs.Members.{all_from}
use Rattle.consistency.specs.Cores.{IsCore, IsShowable, pairs_in}
use Rattle.clash_analysis.specs.Subjects.{is_in}
use Rattle.consistency.proofs.Fitting.{showable_fits}
use Rattle.consistency.proofs.Shrinking.{IsShrinking, none_kept, last_left, front, others_cube, others_among, last_lacks, left_out, one_kept, none_left}
use Rattle.consistency.proofs.minimal.minimal_part.Goals as goal

pub leaving-init : goal.leaving-init
leaving-init c =
    let m = c.args.rules.now.model.now in
    let seen = c.args.seen.now.pairs in
    let ps : List Pair = c.args.pairs in
    let all : take c.len-count.result ps ≡ ps = take_all c.len-count.result ps (omega (arith, c.len-count.ensures)) in
    record {
      shrinking = subst (λ (ks : List Pair). IsShrinking m seen ps ks (take c.len-count.result ps)) (sym c.new-kept.ensures)
          (subst (IsShrinking m seen ps []) (sym all) (none_kept m seen ps (subst IsCube c.left.view_is c.left.invariant) c.requires.clash));
      room = omega (arith, c.len-count.ensures);
      space = c.requires.space;
    }

pub core_left-requires-clause-cube : goal.core_left-requires-clause-cube
core_left-requires-clause-cube c =
    let m = c.args.rules.now.model.now in
    let seen = c.args.seen.now.pairs in
    let kept : List Pair = c.leaving.kept in
    let left : List Pair = c.leaving.left in
    let h = last_left m seen c.args.pairs kept left c.leaving.count c.get-pair.result.now c.leaving-test.true c.leaving.invariant.room c.get-pair.ensures c.leaving.invariant.shrinking in
    subst (λ (ps : List Pair). IsCube (kept ++ take (c.leaving.count - 1) ps)) (sym c.as_slice.ensures.pairs) (others_cube m seen c.args.pairs kept (take (c.leaving.count - 1) left) c.get-pair.result.now h)

pub core_left-requires-clause-modes : goal.core_left-requires-clause-modes
core_left-requires-clause-modes c =
    let m = c.args.rules.now.model.now in
    let seen = c.args.seen.now.pairs in
    let kept : List Pair = c.leaving.kept in
    let left : List Pair = c.leaving.left in
    let others : List Pair = take (c.leaving.count - 1) left in
    let h = last_left m seen c.args.pairs kept left c.leaving.count c.get-pair.result.now c.leaving-test.true c.leaving.invariant.room c.get-pair.ensures c.leaving.invariant.shrinking in
    subst (λ (ps : List Pair). All (λ p. HasMode m p.item p.value) (kept ++ take (c.leaving.count - 1) ps)) (sym c.as_slice.ensures.pairs)
    (all_from (λ p. HasMode m p.item p.value) (kept ++ others) (λ q there.
    All-contains (λ p. HasMode m p.item p.value) c.args.pairs q c.requires.modes (others_among m seen c.args.pairs kept others c.get-pair.result.now h q there)))

pub cube_in-requires : goal.cube_in-requires
cube_in-requires c =
    let m = c.args.rules.now.model.now in
    let seen = c.args.seen.now.pairs in
    let kept : List Pair = c.leaving.kept in
    let left : List Pair = c.leaving.left in
    let h = last_left m seen c.args.pairs kept left c.leaving.count c.get-pair.result.now c.leaving-test.true c.leaving.invariant.room c.get-pair.ensures c.leaving.invariant.shrinking in
    subst (λ (ps : List Pair). IsCube (take (c.leaving.count - 1) ps)) (sym c.as_slice.ensures.pairs) (front m seen c.args.pairs kept (take (c.leaving.count - 1) left) c.get-pair.result.now h).0

pub push-requires : goal.push-requires
push-requires c =
    let m = c.args.rules.now.model.now in
    let seen = c.args.seen.now.pairs in
    let kept : List Pair = c.leaving.kept in
    let left : List Pair = c.leaving.left in
    let h = last_left m seen c.args.pairs kept left c.leaving.count c.get-pair.result.now c.leaving-test.true c.leaving.invariant.room c.get-pair.ensures c.leaving.invariant.shrinking in
    last_lacks m seen c.args.pairs kept (take (c.leaving.count - 1) left) c.get-pair.result.now h

pub leaving-smaller-in-Some : goal.leaving-smaller-in-Some
leaving-smaller-in-Some c =
    let n : ℕ = c.leaving.count - 1 in
    let others : List Pair = c.as_slice.result.now in
    let test = λ (q : Pair). is_in c.in-Some.core q.item in
    let full : length (take n others) ≡ n = length-take-le n others (omega (arith, c.leaving.invariant.room, ap length c.as_slice.ensures.pairs)) in
    let fewer = length-filter_both test (λ q. not (test q)) (λ q. refl) (take n others) in
    let made : c.in_ok-left-in-Some.left ≡ filter test (take n others) = c.in_ok-left-in-Some.ensures in
    omega (arith, c.len-count-in-Some.ensures, fewer, full, ap length made, c.leaving-test.true)

pub leaving-preserved-in-Some : goal.leaving-preserved-in-Some
leaving-preserved-in-Some c =
    let m = c.args.rules.now.model.now in
    let seen = c.args.seen.now.pairs in
    let kept : List Pair = c.leaving.kept in
    let left : List Pair = c.leaving.left in
    let n : ℕ = c.leaving.count - 1 in
    let core = c.in-Some.core in
    let h = last_left m seen c.args.pairs kept left c.leaving.count c.get-pair.result.now c.leaving-test.true c.leaving.invariant.room c.get-pair.ensures c.leaving.invariant.shrinking in
    let asked = subst (λ o. IfSome o (IsCore m seen (kept ++ take n c.as_slice.result.now))) c.in-Some.is c.in_ok-core.ensures.some in
    let clash = subst (λ (ps : List Pair). IsCore m seen (kept ++ take n ps) core) c.as_slice.ensures.pairs asked in
    let new : List Pair = c.in_ok-left-in-Some.left in
    let made : new ≡ pairs_in core (take n left) = c.in_ok-left-in-Some.ensures ∙ ap (λ (ps : List Pair). pairs_in core (take n ps)) c.as_slice.ensures.pairs in
    let all : take c.len-count-in-Some.result new ≡ new = take_all c.len-count-in-Some.result new (omega (arith, c.len-count-in-Some.ensures)) in
    record {
      shrinking = subst (IsShrinking m seen c.args.pairs kept) (sym (all ∙ made)) (left_out m seen c.args.pairs kept (take n left) c.get-pair.result.now h core clash);
      room = omega (arith, c.len-count-in-Some.ensures);
      space = c.in_ok-core.ensures.space;
    }

pub leaving-preserved : goal.leaving-preserved
leaving-preserved c =
    let m = c.args.rules.now.model.now in
    let seen = c.args.seen.now.pairs in
    let kept : List Pair = c.leaving.kept in
    let left : List Pair = c.leaving.left in
    let n : ℕ = c.leaving.count - 1 in
    let h = last_left m seen c.args.pairs kept left c.leaving.count c.get-pair.result.now c.leaving-test.true c.leaving.invariant.room c.get-pair.ensures c.leaving.invariant.shrinking in
    let shows = subst (λ (ps : List Pair). IsShowable m seen (kept ++ take n ps)) c.as_slice.ensures.pairs (c.in_ok-core.ensures.none (ap is_some c.in-None.is)) in
    record {
      shrinking = subst (λ (ks : List Pair). IsShrinking m seen c.args.pairs ks (take n left)) (sym c.in_ok-push-in-None.ensures.ok)
          (one_kept m seen c.args.pairs kept (take n left) c.get-pair.result.now h (showable_fits m (kept ++ take n left) seen shows));
      room = omega (arith, c.leaving.invariant.room);
      space = c.in_ok-core.ensures.space;
    }

pub returns : goal.returns
returns c =
    let m = c.args.rules.now.model.now in
    let seen = c.args.seen.now.pairs in
    let none : c.leaving.count ≡ 0 = omega (arith, c.leaving-test.false) in
    none_left m seen c.args.pairs c.leaving.kept (subst (λ (k : ℕ). IsShrinking m seen c.args.pairs c.leaving.kept (take k c.leaving.left)) none c.leaving.invariant.shrinking)
