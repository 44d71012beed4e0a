use Rattle.std.proofs.Common.{◌-◌, ◌<◌, length, get_or, take, drop, slice_index, refl, sym, ap, subst, ◌∙◌, arith}
use Rattle.std.specs.Prelude.{All}
use Rattle.std.proofs.lemmas.Bool.{OnFalse_at, OnTrue_at}
use Rattle.clash_analysis.specs.declared.entry.Entry.{Entry}
use Rattle.clash_analysis.specs.declared.entry.Why.TheVariants.{Assumed}
use Rattle.clash_analysis.specs.Subjects.{is_in}
use Rattle.clash_analysis.specs.Learning.{SharesNone}
use Rattle.clash_analysis.specs.Clashes.{AreInside}
use Rattle.clash_analysis.proofs.LevelLaws.{back_of}
use Rattle.clash_analysis.proofs.ClimbLaws.{clash_last, front_inside, front_plain, is_derived, last_below, learned_at, marks_low, no_choice, one_inside, part_inside, some_between, stands_less, stands_same}
use Rattle.clash_analysis.proofs.analysis.climb.Goals as goal

abbrev some_entry : Entry
some_entry = record { subject = 0; before = 0; kept = 0; why = Assumed }

pub is_learned-requires-clause-inside : goal.is_learned-requires-clause-inside
is_learned-requires-clause-inside c =
    let from = slice_index c.args.marks.now (c.levels.level - 1) in
    let low = last_below c.args.marks.now c.levels.level c.args.trail.now c.levels.left c.levels.invariant.stands c.levels-test.true in
    subst (λ n. AreInside n (take (c.levels.left - 1 - from) (drop from c.args.trail.now))) (sym (c.levels.invariant.learn ∙ c.requires.learn))
    (part_inside (length c.args.dom.now) c.args.trail.now c.args.long c.requires.inside c.requires.levels.trail_room from (c.levels.left - 1) (omega (arith, low)) (omega (arith, c.levels.invariant.shorter)))

pub is_learned-requires-clause-subject : goal.is_learned-requires-clause-subject
is_learned-requires-clause-subject c =
    let low = last_below c.args.marks.now c.levels.level c.args.trail.now c.levels.left c.levels.invariant.stands c.levels-test.true in
    subst (λ n. (get_or c.args.trail.now (c.levels.left - 1) some_entry).subject < n) (sym (c.levels.invariant.learn ∙ c.requires.learn))
    (one_inside (length c.args.dom.now) c.args.trail.now c.args.long c.requires.inside c.requires.levels.trail_room (c.levels.left - 1) some_entry (omega (arith, low, c.levels.invariant.shorter)))

pub take_back-requires-clause-inside : goal.take_back-requires-clause-inside
take_back-requires-clause-inside c =
    let low = last_below c.args.marks.now c.levels.level c.args.trail.now c.levels.left c.levels.invariant.stands c.levels-test.true in
    subst (λ n. (get_or c.args.trail.now (c.levels.left - 1) some_entry).subject < n) (sym c.levels.invariant.dom)
    (one_inside (length c.args.dom.now) c.args.trail.now c.args.long c.requires.inside c.requires.levels.trail_room (c.levels.left - 1) some_entry (omega (arith, low, c.levels.invariant.shorter)))

pub returns-then-is_learned-clause-point : goal.returns-then-is_learned-clause-point
returns-then-is_learned-clause-point c =
    let from = slice_index c.args.marks.now (c.levels.level - 1) in
    let stands = c.levels.invariant.stands in
    let low = last_below c.args.marks.now c.levels.level c.args.trail.now c.levels.left stands c.levels-test.true in
    let e = get_or c.args.trail.now (c.levels.left - 1) some_entry in
    record {
      subject = one_inside (length c.args.dom.now) c.args.trail.now c.args.long c.requires.inside c.requires.levels.trail_room (c.levels.left - 1) some_entry (omega (arith, low, c.levels.invariant.shorter));
      room = omega (arith, low, stands.trail_room);
      some = c.levels-test.true;
      levels = stands.marks_room;
      marks_within = λ k h. omega (arith, low, marks_low c.args.marks.now c.levels.level c.args.trail.now c.levels.left stands c.levels-test.true k h);
      inside = front_inside (length c.args.dom.now) c.args.trail.now c.args.long c.requires.inside c.requires.levels.trail_room (c.levels.left - 1) (omega (arith, c.levels.invariant.shorter));
      first = subst (All (SharesNone c.levels.learn e.subject)) (back_of c.args.trail.now from (c.levels.left - 1) (omega (arith, low))) (OnTrue_at c.if-is_learned.true c.is_learned.ensures.yes).1;
    }

pub returns-then-is_learned-clause-climbed : goal.returns-then-is_learned-clause-climbed
returns-then-is_learned-clause-climbed c want pairs clash empty =
    let stands = c.levels.invariant.stands in
    let low = last_below c.args.marks.now c.levels.level c.args.trail.now c.levels.left stands c.levels-test.true in
    learned_at want pairs c.args.start.now c.args.trail.now c.levels.left (omega (arith, low)) stands.trail_room some_entry c.levels.dom c.levels.learn (is_in c.levels.blamed) (c.levels.invariant.clash want pairs clash empty)
    (get_or c.args.trail.now (c.levels.left - 1) some_entry) refl (c.levels.invariant.blamed empty c.levels-test.true) (OnTrue_at c.if-is_learned.true c.is_learned.ensures.yes).0

pub levels-preserved-then-left-from : goal.levels-preserved-then-left-from
levels-preserved-then-left-from c =
    let from = slice_index c.args.marks.now (c.levels.level - 1) in
    let stands = c.levels.invariant.stands in
    let low = last_below c.args.marks.now c.levels.level c.args.trail.now c.levels.left stands c.levels-test.true in
    let back = OnFalse_at c.if-is_learned.false c.is_learned.ensures.no in
    record {
      dom = c.take_back.ensures.dom ∙ c.levels.invariant.dom;
      learn = c.take_back.ensures.learn ∙ c.levels.invariant.learn;
      lower = omega (arith, c.levels.invariant.lower);
      shorter = omega (arith, c.levels.invariant.shorter);
      stands = stands_less c.args.marks.now c.levels.level c.args.trail.now c.levels.left stands c.levels-test.true c.if-left-from.true;
      blamed = λ empty some v.
          ap (λ s. is_in s v)
          (c.take_back.ensures.still (λ s. is_derived c.args.marks.now c.levels.level c.args.trail.now c.levels.left stands c.levels-test.true some_entry (some_between c.args.trail.now from (c.levels.left - 1) (back s))))
          ∙ c.levels.invariant.blamed empty c.levels-test.true v;
      clash = λ want pairs clash empty. c.take_back.ensures.clash want pairs (take (c.levels.left - 1) c.args.trail.now)
          (λ s. no_choice (get_or c.args.trail.now (c.levels.left - 1) some_entry).why
          (is_derived c.args.marks.now c.levels.level c.args.trail.now c.levels.left stands c.levels-test.true some_entry (some_between c.args.trail.now from (c.levels.left - 1) (back s))))
          (clash_last want pairs c.args.start.now c.args.trail.now c.levels.left (omega (arith, low)) stands.trail_room some_entry c.levels.dom c.levels.learn (is_in c.levels.blamed)
          (c.levels.invariant.clash want pairs clash empty));
    }

pub levels-preserved : goal.levels-preserved
levels-preserved c =
    let from = slice_index c.args.marks.now (c.levels.level - 1) in
    let stands = c.levels.invariant.stands in
    let low = last_below c.args.marks.now c.levels.level c.args.trail.now c.levels.left stands c.levels-test.true in
    let back = OnFalse_at c.if-is_learned.false c.is_learned.ensures.no in
    record {
      dom = c.take_back.ensures.dom ∙ c.levels.invariant.dom;
      learn = c.take_back.ensures.learn ∙ c.levels.invariant.learn;
      lower = omega (arith, c.levels.invariant.lower);
      shorter = omega (arith, c.levels.invariant.shorter);
      stands = stands_same c.args.marks.now c.levels.level c.args.trail.now c.levels.left stands c.levels-test.true (λ e. c.if-left-from.false (sym e));
      blamed = λ empty some v.
          ap (λ s. is_in s v)
          (c.take_back.ensures.still (λ s. is_derived c.args.marks.now c.levels.level c.args.trail.now c.levels.left stands c.levels-test.true some_entry (some_between c.args.trail.now from (c.levels.left - 1) (back s))))
          ∙ c.levels.invariant.blamed empty c.levels-test.true v;
      clash = λ want pairs clash empty. c.take_back.ensures.clash want pairs (take (c.levels.left - 1) c.args.trail.now)
          (λ s. no_choice (get_or c.args.trail.now (c.levels.left - 1) some_entry).why
          (is_derived c.args.marks.now c.levels.level c.args.trail.now c.levels.left stands c.levels-test.true some_entry (some_between c.args.trail.now from (c.levels.left - 1) (back s))))
          (clash_last want pairs c.args.start.now c.args.trail.now c.levels.left (omega (arith, low)) stands.trail_room some_entry c.levels.dom c.levels.learn (is_in c.levels.blamed)
          (c.levels.invariant.clash want pairs clash empty));
    }

pub blame-requires-clause-inside : goal.blame-requires-clause-inside
blame-requires-clause-inside c =
    subst (λ n. AreInside n (take c.levels.left c.args.trail.now)) (sym c.levels.invariant.dom)
    (front_inside (length c.args.dom.now) c.args.trail.now c.args.long c.requires.inside c.requires.levels.trail_room c.levels.left c.levels.invariant.shorter)

pub returns-clause-climbed : goal.returns-clause-climbed
returns-clause-climbed c want pairs clash empty =
    c.blame.ensures want pairs (front_plain c.args.marks.now c.levels.level c.args.trail.now c.levels.left c.levels.invariant.stands (omega (arith, c.levels-test.false))) (c.levels.invariant.clash want pairs clash empty)
