use Rattle.std.proofs.Common.{get_or, refl, sym, subst}
use Rattle.group_search.specs.Answers.{NoneLower}
use Rattle.group_search.specs.Floors.{IsSettled, every}
use Rattle.group_search.specs.Questions.{IsInside}
use Rattle.group_search.proofs.LowerLaws.{IsLowering, alone_put, alone_settled, held_small, lowering_begins, lowering_goes_on, lowering_inside, lowering_none}
use Rattle.group_search.proofs.lower.lower_at.Goals as goal

pub loop-init : goal.loop-init
loop-init g c = record {
  space = c.requires.space;
  work = c.requires.work;
  shape = c.requires.shape;
  settled = c.requires.settled;
  lowering = lowering_begins c.args.place (get_or c.args.chosen.now.values c.args.place 0) c.args.work.now.boxed.masks;
}

pub loop-preserved : goal.loop-preserved
loop-preserved g c =
    let low = c.loop-test.ensures in
    record {
      space = c.lower_once.ensures.space;
      work = c.lower_once.ensures.work;
      shape = c.lower_once.ensures.shape;
      settled = low.settled refl;
      lowering = lowering_goes_on (g.P.Paths.means.question c.args.problem.now) c.args.place c.args.work.now.boxed.masks c.loop.work.boxed.masks c.requires.work.ready.masks c.requires.place
          (get_or c.loop.chosen.values c.args.place 0) (get_or c.lower_once.new.chosen.values c.args.place 0) c.lower_once.new.work.boxed.masks c.loop.invariant.lowering (low.masks refl) (low.lower refl);
    }

pub only-requires : goal.only-requires
only-requires g c =
    let q = g.P.Paths.means.question c.args.problem.now in
    let i = c.loop.invariant in
    let settled = subst (IsSettled q c.loop.work.boxed.masks c.loop.work.names c.args.limit) (sym (c.loop-test.ensures.kept refl)) i.settled in
    record {
      small = held_small q c.loop.work.boxed.masks c.loop.work.names c.lower_once.new.chosen c.args.place c.args.limit c.get-value.result.now c.requires.place settled c.get-value.ensures.item i.work.ready.masks i.work.ready.words;
    }

pub returns-clause-settled : goal.returns-clause-settled
returns-clause-settled g c =
    let q = g.P.Paths.means.question c.args.problem.now in
    let i = c.loop.invariant in
    let settled = subst (IsSettled q c.loop.work.boxed.masks c.loop.work.names c.args.limit) (sym (c.loop-test.ensures.kept refl)) i.settled in
    alone_settled q c.loop.work.boxed.masks c.lower_once.new.work.boxed.masks c.narrow.new.self.masks c.loop.work.names
    c.lower_once.new.work.names c.lower_once.new.chosen c.args.place c.args.limit c.get-value.result.now c.only.result i.work.ready.masks c.requires.place settled c.get-value.ensures.item
    (c.loop-test.ensures.same refl) c.narrow.ensures.masks i.work.names c.lower_once.ensures.joined c.only.ensures.has c.only.ensures.alone

pub returns-clause-lowest : goal.returns-clause-lowest
returns-clause-lowest g c =
    let q = g.P.Paths.means.question c.args.problem.now in
    let none = lowering_none q c.args.place c.args.work.now.boxed.masks c.loop.work.boxed.masks c.requires.work.ready.masks c.requires.place c.args.limit
    (get_or c.loop.chosen.values c.args.place 0) c.loop.invariant.lowering (c.loop-test.ensures.none refl) in
    subst (λ x. NoneLower q c.args.work.now.boxed.masks c.args.limit c.args.place (get_or x.values c.args.place 0)) (sym (c.loop-test.ensures.kept refl)) none

pub returns-clause-masks : goal.returns-clause-masks
returns-clause-masks g c =
    let q = g.P.Paths.means.question c.args.problem.now in
    let i = c.loop.invariant in
    let kept = sym (c.loop-test.ensures.kept refl) in
    let settled = subst (IsSettled q c.loop.work.boxed.masks c.loop.work.names c.args.limit) kept i.settled in
    let lowering = subst (λ x. IsLowering c.args.place (get_or x.values c.args.place 0) c.args.work.now.boxed.masks c.loop.work.boxed.masks) kept i.lowering in
    alone_put q c.loop.work.boxed.masks c.lower_once.new.work.boxed.masks c.narrow.new.self.masks c.loop.work.names
    c.lower_once.new.work.names c.lower_once.new.chosen c.args.place c.args.limit c.get-value.result.now c.only.result i.work.ready.masks c.requires.place settled c.get-value.ensures.item
    (c.loop-test.ensures.same refl) c.narrow.ensures.masks c.args.work.now.boxed.masks c.requires.work.ready.masks lowering c.only.ensures.word

pub returns-clause-inside : goal.returns-clause-inside
returns-clause-inside g c =
    let q = g.P.Paths.means.question c.args.problem.now in
    let i = c.loop.invariant in
    let inside = lowering_inside q c.args.place c.args.work.now.boxed.masks c.loop.work.boxed.masks c.requires.work.ready.masks c.requires.place
    (get_or c.loop.chosen.values c.args.place 0) i.lowering c.loop.chosen.values i.settled.floored.inside in
    subst (λ x. IsInside q every c.args.work.now.boxed.masks x.values) (sym (c.loop-test.ensures.kept refl)) inside
