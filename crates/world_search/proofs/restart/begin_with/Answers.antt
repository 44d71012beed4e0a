use Rattle.std.proofs.Common.{◌≡◌, ◌+◌, ◌≤◌, [], true, length, slice_index, sym, subst, ◌∙◌, arith}
use Rattle.cca_base.specs.Sets.{has}
use Rattle.cca_base.specs.declared.limits.TheConstants.{MAX_CHOICES}
use Rattle.clash_analysis.specs.Ends.{AreSets, count_all}
use Rattle.clash_analysis.specs.Trails.{AllWithin}
use Rattle.clash_analysis.specs.Laws.{Passes}
use Rattle.world_search.proofs.SettleLaws.{all_in_dom, low_member, none_empty, none_left}
use Rattle.world_search.proofs.StepLaws.{none, none_met, within_before}
use Rattle.world_search.proofs.WorkLaws.{moved_below}
use Rattle.world_search.proofs.restart.begin_with.Goals as goal

pub returns-then-not-all_some-clause-stuck : goal.returns-then-not-all_some-clause-stuck
returns-then-not-all_some-clause-stuck c _ want holds all =
    let none = c.all_some.ensures.no c.if-not-all_some.true in
    none_empty want c.args.base.now none.0 none.1 none.2 all

pub restart_at-requires-clause-roomy : goal.restart_at-requires-clause-roomy
restart_at-requires-clause-roomy c = record {
  sets = subst (AreSets MAX_CHOICES) (sym c.copy_from_slice.ensures.items) (record {
    some = c.all_some.ensures.yes c.if-not-all_some.false;
    small = λ v a. low_member (slice_index c.args.base.now v) a (omega (arith, c.type_inv.base v));
  });
  room = subst (λ l. count_all MAX_CHOICES l ≤ length c.args.work.now.trail.items + length l) (sym c.copy_from_slice.ensures.items) c.requires.room;
}

pub returns-then-follow_first-clause-stuck : goal.returns-then-follow_first-clause-stuck
returns-then-follow_first-clause-stuck c _ want holds all =
    let begun = c.restart_at.new.work in
    let start : begun.start.items ≡ c.args.base.now = c.restart_at.ensures.start ∙ c.copy_from_slice.ensures.items in
    let f = c.follow_first.ensures in
    let new = c.follow_first.new.work in
    let within = subst (AllWithin (Passes want)) (sym (f.moved.longer.start ∙ start)) all in
    let learned = f.clash c.if-follow_first.true want holds within in
    none_left want new f.ready (f.moved.levels.levels ∙ c.restart_at.ensures.levels) within (f.right want [] holds (c.restart_at.ensures.right want [])) learned.0 learned.1

pub returns-clause-within : goal.returns-clause-within
returns-clause-within c _ v a held =
    let clauses = c.args.rules.now.clauses.items in
    let begun = c.restart_at.new.work in
    let new = c.follow_first.new.work in
    let f = c.follow_first.ensures in
    let t = c.restart_at.ensures.right none [] in
    subst (λ d. has (slice_index d v) a ≡ true) (c.restart_at.ensures.dom ∙ c.copy_from_slice.ensures.items)
    (within_before begun new [] t (f.right none [] (none_met clauses) t) f.moved.longer.start c.restart_at.ensures.levels (moved_below begun new f.moved) v a
    (subst (λ d. has (slice_index d v) a ≡ true) (c.copy_from_slice-2.ensures.items ∙ c.deref.ensures.value) held))

pub returns-clause-all : goal.returns-clause-all
returns-clause-all c _ want holds all =
    let begun = c.restart_at.new.work in
    let new = c.follow_first.new.work in
    let start : begun.start.items ≡ c.args.base.now = c.restart_at.ensures.start ∙ c.copy_from_slice.ensures.items in
    let f = c.follow_first.ensures in
    let within = subst (AllWithin (Passes want)) (sym (f.moved.longer.start ∙ start)) all in
    subst (AllWithin (Passes want)) (sym (c.copy_from_slice-2.ensures.items ∙ c.deref.ensures.value))
    (all_in_dom want new f.ready (f.moved.levels.levels ∙ c.restart_at.ensures.levels) within (f.right want [] holds (c.restart_at.ensures.right want [])))
