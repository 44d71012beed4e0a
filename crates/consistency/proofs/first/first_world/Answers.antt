use Rattle.std.proofs.Common.{◌≡◌, ◌∙◌, ◌+◌, ◌<◌, ◌≤◌, ℕ, List, length, sym, subst, ap, arith}
use Rattle.std.specs.Vec.{with_items}
use Rattle.std.proofs.lemmas.List.{with_items_is}
use Rattle.world_search.specs.Worlds.{HasAll, IsSolution}
use Rattle.consistency.specs.Lowest.{IsLowest}
use Rattle.consistency.specs.Search.{IsFirst}
use Rattle.consistency.proofs.FirstLaws.{IsFirstTo, all_fixed, has_own, one_fixed}
use Rattle.consistency.proofs.PairLaws.{has_none}
use Rattle.consistency.proofs.first.first_world.Goals as goal

pub returns-in-Clash : goal.returns-in-Clash
returns-in-Clash c xs world = c.in-Clash.ensures.answer xs (subst (λ (b : List ℕ). IsSolution c.args.problem.now.clauses b xs) (sym c.ask.ensures.base) world) (λ p among _. has_none xs p among)

pub put_lowest-requires-clause-has : goal.put_lowest-requires-clause-has
put_lowest-requires-clause-has c =
    subst (HasAll c.loop-subject.pairs) (sym c.deref_mut.ensures.value)
    (has_own c.args.problem.now.clauses c.args.space.now.base.items c.loop-subject.subject c.loop-subject.world.items c.loop-subject.pairs c.loop-subject.invariant.first)

pub loop-subject-preserved : goal.loop-subject-preserved
loop-subject-preserved c =
    let clauses = c.args.problem.now.clauses in
    let base = c.args.space.now.base.items in
    let inv = c.loop-subject.invariant in
    let old = c.loop-subject.world in
    let new = c.put_lowest.new.world in
    let pairs = c.put_lowest.new.pairs in
    let kept : length new ≡ length old.items = c.put_lowest.ensures.long ∙ ap length c.deref_mut.ensures.value in
    let is : (with_items old new).items ≡ new = with_items_is old new (kept ∙ sym old.ok.0) in
    let long : length c.in_ok-world.world.items ≡ length base = ap length c.in_ok-world.ensures.items ∙ ap length c.world.ensures ∙ c.in-Agrees.ensures.answer.0.full ∙ ap length c.ask.ensures.base in
    let room : c.loop-subject.subject < length base = omega (arith, c.len-subject-end.ensures, c.in_ok-world.world.ok.0) in
    record {
      space = c.put_lowest.ensures.space;
      base = c.put_lowest.ensures.base ∙ inv.base;
      asked = c.in_ok-put_lowest.ensures.asked;
      first = subst (λ (xs : List ℕ). IsFirstTo clauses base (c.loop-subject.subject + 1) xs pairs) (sym is)
          (one_fixed clauses base c.loop-subject.subject old.items new c.loop-subject.pairs pairs room inv.first
          (subst (λ (b : List ℕ). IsLowest clauses b c.loop-subject.pairs c.loop-subject.subject new pairs) inv.base c.in_ok-put_lowest.ensures.lowest));
    }

pub returns : goal.returns
returns c =
    let clauses = c.args.problem.now.clauses in
    let base = c.args.space.now.base.items in
    let long : length c.in_ok-world.world.items ≡ length base = ap length c.in_ok-world.ensures.items ∙ ap length c.world.ensures ∙ c.in-Agrees.ensures.answer.0.full ∙ ap length c.ask.ensures.base in
    let full : length c.loop-subject.world.items ≡ length base = c.loop-subject.invariant.first.world.full in
    let end : length c.loop-subject.world.items ≤ c.loop-subject.subject = omega (arith, c.len-subject-end.ensures, c.in_ok-world.world.ok.0) in
    subst (IsFirst clauses base) (sym c.of.ensures) (all_fixed clauses base c.loop-subject.subject c.loop-subject.world.items c.loop-subject.pairs end c.loop-subject.invariant.first)
