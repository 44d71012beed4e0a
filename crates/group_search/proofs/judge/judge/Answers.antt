use Rattle.std.proofs.Common.{length, refl, ap, ◌∙◌, arith}
use Rattle.group_search.specs.Questions.{in_group}
use Rattle.group_search.proofs.ChooseLaws.{least_cost, none_stands}
use Rattle.group_search.proofs.JudgeLaws.{cost_kept, pays_kept, seen_cheap, seen_cost, seen_few, seen_stand, seen_within, stand_kept}
use Rattle.group_search.proofs.MemberLaws.{member_is}
use Rattle.group_search.proofs.judge.judge.Goals as goal

pub all_stand-requires : goal.all_stand-requires
all_stand-requires g c =
    seen_within (g.P.Paths.means.question c.args.problem.now) c.args.group c.args.work.now c.requires.work c.requires.members c.as_slice-members.result.now c.as_slice-members.ensures.items _
    (ap length c.as_slice.ensures ∙ c.requires.work.ready.stands)

pub returns-then-not-all_stand-clause-judged : goal.returns-then-not-all_stand-clause-judged
returns-then-not-all_stand-clause-judged g c =
    let q = g.P.Paths.means.question c.args.problem.now in
    let work = c.args.work.now in
    let test = in_group work.names c.args.group in
    let no = c.if-not-all_stand.ensures.no refl in
    let out = rw (c.as_slice-members.ensures.items, c.as_slice.ensures) at no in
    let is = member_is test q.count work.focus.members.items c.requires.members out.0 out.1 in
    none_stands q test work.boxed c.requires.work.ready out.0 c.args.limit is.0 is.1 out.2

pub cost_of-base-requires-clause-few : goal.cost_of-base-requires-clause-few
cost_of-base-requires-clause-few g c =
    seen_few (g.P.Paths.means.question c.args.problem.now) c.args.group c.args.work.now c.requires.work c.requires.members c.as_slice-members.result.now c.as_slice-members.ensures.items (g.met.P.Paths.few c.args.problem.now).0

pub cost_of-base-requires-clause-cheap : goal.cost_of-base-requires-clause-cheap
cost_of-base-requires-clause-cheap g c =
    let stand = seen_stand (g.P.Paths.means.question c.args.problem.now) c.args.group c.args.work.now c.requires.work c.requires.members c.as_slice-members.result.now c.as_slice-members.ensures.items c.as_slice.result.now c.as_slice.ensures
    (c.if-not-all_stand.ensures.yes refl) in
    seen_cheap (g.P.Paths.means.question c.args.problem.now) c.args.group c.args.work.now c.requires.work c.requires.members c.as_slice-members.result.now c.as_slice-members.ensures.items stand c.as_slice-2.result.now c.as_slice-2.ensures

pub returns-then-base-limit-clause-judged : goal.returns-then-base-limit-clause-judged
returns-then-base-limit-clause-judged g c values costs s =
    let work = c.args.work.now in
    let stand = seen_stand (g.P.Paths.means.question c.args.problem.now) c.args.group c.args.work.now c.requires.work c.requires.members c.as_slice-members.result.now c.as_slice-members.ensures.items c.as_slice.result.now c.as_slice.ensures
    (c.if-not-all_stand.ensures.yes refl) in
    let base = seen_cost (g.P.Paths.means.question c.args.problem.now) c.args.group c.args.work.now c.requires.work c.requires.members c.as_slice-members.result.now c.as_slice-members.ensures.items c.as_slice-2.result.now c.cost_of-base.result
    c.as_slice-2.ensures c.cost_of-base.ensures in
    let least = least_cost (g.P.Paths.means.question c.args.problem.now) (in_group work.names c.args.group) work.boxed c.requires.work.ready stand values costs s in
    omega (arith, c.if-base-limit.true, base, least)

pub spend_all-requires-clause-stand : goal.spend_all-requires-clause-stand
spend_all-requires-clause-stand g c =
    seen_stand (g.P.Paths.means.question c.args.problem.now) c.args.group c.args.work.now c.requires.work c.requires.members c.as_slice-members.result.now c.as_slice-members.ensures.items c.as_slice.result.now c.as_slice.ensures
    (c.if-not-all_stand.ensures.yes refl)

pub spend_all-requires-clause-base : goal.spend_all-requires-clause-base
spend_all-requires-clause-base g c =
    seen_cost (g.P.Paths.means.question c.args.problem.now) c.args.group c.args.work.now c.requires.work c.requires.members c.as_slice-members.result.now c.as_slice-members.ensures.items c.as_slice-2.result.now c.cost_of-base.result
    c.as_slice-2.ensures c.cost_of-base.ensures

pub choose-requires-clause-stand : goal.choose-requires-clause-stand
choose-requires-clause-stand g c =
    let stand = seen_stand (g.P.Paths.means.question c.args.problem.now) c.args.group c.args.work.now c.requires.work c.requires.members c.as_slice-members.result.now c.as_slice-members.ensures.items c.as_slice.result.now c.as_slice.ensures
    (c.if-not-all_stand.ensures.yes refl) in
    stand_kept (g.P.Paths.means.question c.args.problem.now) c.args.group c.args.work.now c.spend_all.new.work c.spend_all.ensures.kept stand

pub choose-requires-clause-base : goal.choose-requires-clause-base
choose-requires-clause-base g c =
    let base = seen_cost (g.P.Paths.means.question c.args.problem.now) c.args.group c.args.work.now c.requires.work c.requires.members c.as_slice-members.result.now c.as_slice-members.ensures.items c.as_slice-2.result.now c.cost_of-base.result
    c.as_slice-2.ensures c.cost_of-base.ensures in
    omega (arith, base, cost_kept (g.P.Paths.means.question c.args.problem.now) c.args.group c.args.work.now c.spend_all.new.work c.spend_all.ensures.kept, c.in-Some.ensures.some.1)

pub choose-requires-clause-pays : goal.choose-requires-clause-pays
choose-requires-clause-pays g c =
    let base = seen_cost (g.P.Paths.means.question c.args.problem.now) c.args.group c.args.work.now c.requires.work c.requires.members c.as_slice-members.result.now c.as_slice-members.ensures.items c.as_slice-2.result.now c.cost_of-base.result
    c.as_slice-2.ensures c.cost_of-base.ensures in
    pays_kept (g.P.Paths.means.question c.args.problem.now) c.args.group c.args.work.now c.spend_all.new.work c.spend_all.ensures.kept c.spend_all.new.work.spending.spent c.cost_of-base.result c.in-Some.total base c.in-Some.ensures.some.2

pub ask_paths-requires-clause-stand : goal.ask_paths-requires-clause-stand
ask_paths-requires-clause-stand g c =
    let stand = seen_stand (g.P.Paths.means.question c.args.problem.now) c.args.group c.args.work.now c.requires.work c.requires.members c.as_slice-members.result.now c.as_slice-members.ensures.items c.as_slice.result.now c.as_slice.ensures
    (c.if-not-all_stand.ensures.yes refl) in
    stand_kept (g.P.Paths.means.question c.args.problem.now) c.args.group c.args.work.now c.spend_all.new.work c.spend_all.ensures.kept stand

pub ask_paths-requires-clause-base : goal.ask_paths-requires-clause-base
ask_paths-requires-clause-base g c =
    let base = seen_cost (g.P.Paths.means.question c.args.problem.now) c.args.group c.args.work.now c.requires.work c.requires.members c.as_slice-members.result.now c.as_slice-members.ensures.items c.as_slice-2.result.now c.cost_of-base.result
    c.as_slice-2.ensures c.cost_of-base.ensures in
    omega (arith, base, cost_kept (g.P.Paths.means.question c.args.problem.now) c.args.group c.args.work.now c.spend_all.new.work c.spend_all.ensures.kept, c.in-Some.ensures.some.1)

pub ask_paths-requires-clause-pays : goal.ask_paths-requires-clause-pays
ask_paths-requires-clause-pays g c =
    let base = seen_cost (g.P.Paths.means.question c.args.problem.now) c.args.group c.args.work.now c.requires.work c.requires.members c.as_slice-members.result.now c.as_slice-members.ensures.items c.as_slice-2.result.now c.cost_of-base.result
    c.as_slice-2.ensures c.cost_of-base.ensures in
    pays_kept (g.P.Paths.means.question c.args.problem.now) c.args.group c.args.work.now c.spend_all.new.work c.spend_all.ensures.kept c.spend_all.new.work.spending.spent c.cost_of-base.result c.in-Some.total base c.in-Some.ensures.some.2
