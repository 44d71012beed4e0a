use Rattle.std.proofs.Common.{length, slice_index_or, false, true, ◌≡◌, ◌<◌, refl, sym, subst, ap, ◌∙◌, arith}
use Rattle.group_search.specs.Answers.{IsFirstLeast}
use Rattle.group_search.proofs.LeastLaws.{least_floored, none_costs, none_stands}
use Rattle.group_search.proofs.MemberLaws.{number_has, number_is, numbers_each}
use Rattle.group_search.proofs.RoomLaws.{work_room}
use Rattle.group_search.proofs.least.least_in.Goals as goal

pub all_stand-requires : goal.all_stand-requires
all_stand-requires g c =
    let is = c.begin.ensures in
    numbers_each (g.P.Paths.means.question c.args.problem.now).count c.as_slice-names.result.now (c.as_slice-names.ensures ∙ is.names)
    (λ k. k < length c.as_slice.result.now) (λ k less. omega (arith, less, ap length c.as_slice.ensures, is.work.ready.stands))

pub returns-then-not-all_stand-clause-room : goal.returns-then-not-all_stand-clause-room
returns-then-not-all_stand-clause-room g c = record {
  work = work_room (g.P.Paths.means.question c.args.problem.now) c.begin.new.self c.begin.ensures.work;
  chosen = c.requires.room.chosen;
  other = c.requires.room.other;
}

pub returns-then-not-all_stand-clause-answer : goal.returns-then-not-all_stand-clause-answer
returns-then-not-all_stand-clause-answer g c x s =
    let q = g.P.Paths.means.question c.args.problem.now in
    let is = c.begin.ensures in
    let none = c.if-not-all_stand.ensures.no refl in
    let falls : slice_index_or c.begin.new.self.boxed.stands none.0 false ≡ false = subst (λ l. slice_index_or l none.0 false ≡ false) c.as_slice.ensures none.2 in
    none_stands q c.begin.new.self.boxed c.args.masks.now none.0 is.work.ready is.masks
    (number_is q.count c.as_slice-names.result.now (c.as_slice-names.ensures ∙ is.names) none.0 none.1) falls x s

pub copy_to-requires-clause-values : goal.copy_to-requires-clause-values
copy_to-requires-clause-values g c = c.requires.room.chosen.values ∙ sym c.begin.ensures.work.ready.shape.values

pub copy_to-requires-clause-costs : goal.copy_to-requires-clause-costs
copy_to-requires-clause-costs g c = c.requires.room.chosen.costs ∙ sym c.begin.ensures.work.ready.shape.costs

pub settle-requires-clause-floored : goal.settle-requires-clause-floored
settle-requires-clause-floored g c =
    let p = c.args.problem.now in let q = g.P.Paths.means.question p in
    let is = c.begin.ensures in
    let each = number_has q.count c.as_slice-names.result.now (c.as_slice-names.ensures ∙ is.names) (λ k. slice_index_or c.as_slice.result.now k false ≡ true) (c.if-not-all_stand.ensures.yes refl) in
    least_floored q (g.met.P.Paths.owned p) (g.met.P.Paths.few p).0 c.begin.new.self.boxed c.begin.new.self.names is.work.ready
    (λ k less. subst (λ l. slice_index_or l k false ≡ true) c.as_slice.ensures (each k less))
    c.copy_to.new.chosen c.copy_to.ensures.values c.copy_to.ensures.costs

pub returns-then-not-settle-clause-room : goal.returns-then-not-settle-clause-room
returns-then-not-settle-clause-room g c = record {
  work = work_room (g.P.Paths.means.question c.args.problem.now) c.settle.new.work c.settle.ensures.work;
  chosen = c.settle.ensures.shape;
  other = c.requires.room.other;
}

pub returns-then-not-settle-clause-answer : goal.returns-then-not-settle-clause-answer
returns-then-not-settle-clause-answer g c x s =
    none_costs (g.P.Paths.means.question c.args.problem.now) c.args.masks.now c.begin.new.self.boxed.masks (g.met.P.Paths.few c.args.problem.now).0 (g.met.P.Paths.whole c.args.problem.now)
    c.begin.ensures.masks (c.if-not-settle.ensures.none refl) x s

pub returns-clause-room : goal.returns-clause-room
returns-clause-room g c = record {
  work = work_room (g.P.Paths.means.question c.args.problem.now) c.lower.new.work c.lower.ensures.work;
  chosen = c.lower.ensures.shape;
  other = c.lower.ensures.other_shape;
}

pub returns-clause-answer : goal.returns-clause-answer
returns-clause-answer g c =
    let q = g.P.Paths.means.question c.args.problem.now in
    subst (λ m. IsFirstLeast q m c.args.count c.lower.new.chosen) (c.settle.ensures.masks ∙ c.begin.ensures.masks) c.lower.ensures.first
