use Rattle.std.proofs.Common.{◌≡◌, ◌<◌, ◌≤◌, ℕ, true, All, length, slice_index, sym, ap, subst, ◌∙◌, arith}
use Rattle.bounded_list.specs.Bounded.{Bounded}
use Rattle.group_search.specs.Bounds.{IsOpen}
use Rattle.group_search.specs.Halves.{IsSplit}
use Rattle.group_search.specs.Questions.{cost_in, in_group}
use Rattle.group_search.specs.Searches.{IsJudged, IsTurned}
use Rattle.group_search.specs.declared.best.Best.{Best}
use Rattle.group_search.specs.declared.columns.TheConstants.{MAX_PATH}
use Rattle.group_search.specs.declared.halves.Half.{Half}
use Rattle.group_search.specs.declared.judge.Verdict.TheVariants.{Found}
use Rattle.group_search.specs.declared.path_box.PathBox.{PathBox}
use Rattle.group_search.proofs.HalfLaws.{open_some}
use Rattle.group_search.proofs.MemberLaws.{members_cost, members_each, members_few}
use Rattle.group_search.proofs.SearchLaws.{dropped_leads, found_leads, turned_back, turned_split}
use Rattle.group_search.proofs.find.turn.Goals as goal

pub returns-in-Split-clause-turned : goal.returns-in-Split-clause-turned
returns-in-Split-clause-turned g c =
    let q = g.P.Paths.means.question c.args.problem.now in let names = c.args.work.now.names in let group = c.args.group in
    let boxed = c.args.work.now.boxed in let pair = c.in-Split.pair in let best = c.args.work.now.best in
    let open_at : IsOpen q (in_group names group) boxed.masks pair =
    subst (IsJudged q names group best.limit boxed.masks boxed.columns.values boxed.columns.costs) c.in-Split.is c.judge.ensures.judged in
    let is : IsSplit pair boxed.masks c.split.new.boxed.masks c.args.work.now.halves.items c.split.new.halves.items =
    subst (λ (h : Bounded Half). IsSplit pair boxed.masks c.split.new.boxed.masks h.items c.split.new.halves.items) c.judge.ensures.kept.halves
    (subst (λ (b : PathBox). IsSplit pair b.masks c.split.new.boxed.masks c.judge.new.work.halves.items c.split.new.halves.items) c.judge.ensures.kept.boxed c.split.ensures.split) in
    subst (λ (b : Best). IsTurned q names group boxed.masks c.split.new.boxed.masks c.args.work.now.halves.items c.split.new.halves.items best b true) (sym c.judge.ensures.kept.best)
    (turned_split q names group pair boxed.masks c.split.new.boxed.masks c.args.work.now.halves.items c.split.new.halves.items best c.requires.work.ready.masks open_at is)

pub split-requires-clause-room : goal.split-requires-clause-room
split-requires-clause-room g c =
    let q = g.P.Paths.means.question c.args.problem.now in let names = c.args.work.now.names in let group = c.args.group in
    let boxed = c.args.work.now.boxed in let best = c.args.work.now.best in
    let open_at : IsOpen q (in_group names group) boxed.masks c.in-Split.pair =
    subst (IsJudged q names group best.limit boxed.masks boxed.columns.values boxed.columns.costs) c.in-Split.is c.judge.ensures.judged in
    let some = open_some q (in_group names group) boxed.masks c.in-Split.pair c.requires.work.ready.masks open_at in
    let items = ap (λ (h : Bounded Half). length h.items) c.judge.ensures.kept.halves in
    let room = ap (λ (h : Bounded Half). h.room) c.judge.ensures.kept.halves in
    omega (arith, some, items, room, c.requires.room)

pub returns-in-Dropped-clause-turned : goal.returns-in-Dropped-clause-turned
returns-in-Dropped-clause-turned g c =
    let q = g.P.Paths.means.question c.args.problem.now in let names = c.args.work.now.names in let group = c.args.group in
    let boxed = c.args.work.now.boxed in let was = c.args.work.now.best in let before = c.args.work.now.halves.items in let kept = c.judge.ensures.kept in
    let leads = dropped_leads q names group boxed.masks before was c.judge.new.work.best kept.best
    (subst (IsJudged q names group was.limit boxed.masks boxed.columns.values boxed.columns.costs) c.in-Dropped.is c.judge.ensures.judged) in
    turned_back q names group boxed.masks c.go_back.new.boxed.masks before c.go_back.new.halves.items was c.judge.new.work.best leads c.go_back.result
    c.judge.new.work.boxed.masks c.judge.new.work.halves.items (ap (λ (b : PathBox). b.masks) kept.boxed) (ap (λ (h : Bounded Half). h.items) kept.halves)
    c.go_back.ensures.back c.go_back.ensures.none c.go_back.ensures.end

pub returns-in-Found-clause-turned : goal.returns-in-Found-clause-turned
returns-in-Found-clause-turned g c =
    let q = g.P.Paths.means.question c.args.problem.now in let names = c.args.work.now.names in let group = c.args.group in
    let boxed = c.args.work.now.boxed in let was = c.args.work.now.best in let before = c.args.work.now.halves.items in let kept = c.judge.ensures.kept in
    let columns = c.judge.new.work.boxed.columns in let best = c.put.new.self in
    let judged : IsJudged q names group was.limit boxed.masks columns.values columns.costs Found =
    subst (λ (b : PathBox). IsJudged q names group was.limit boxed.masks b.columns.values b.columns.costs Found) (sym kept.boxed)
    (subst (IsJudged q names group was.limit boxed.masks boxed.columns.values boxed.columns.costs) c.in-Found.is c.judge.ensures.judged) in
    let cost : c.cost_of-cost.result ≡ cost_in q.count (in_group names group) columns.costs =
    members_cost (in_group names group) q.count c.args.work.now.focus.members.items c.requires.members c.as_slice.result.now columns.costs c.as_slice-in-Found.result.now c.cost_of-cost.result
    (c.as_slice.ensures.items ∙ ap (λ (b : Bounded ℕ). b.items) kept.members) c.as_slice-in-Found.ensures c.cost_of-cost.ensures in
    let leads = found_leads q names group boxed.masks before was best columns.values columns.costs c.cost_of-cost.result judged c.put.ensures.some c.put.ensures.values c.put.ensures.costs c.put.ensures.limit cost in
    turned_back q names group boxed.masks c.go_back-in-Found.new.boxed.masks before c.go_back-in-Found.new.halves.items was best leads c.go_back-in-Found.result
    c.judge.new.work.boxed.masks c.judge.new.work.halves.items (ap (λ (b : PathBox). b.masks) kept.boxed) (ap (λ (h : Bounded Half). h.items) kept.halves)
    c.go_back-in-Found.ensures.back c.go_back-in-Found.ensures.none c.go_back-in-Found.ensures.end

pub cost_of-cost-requires-clause-few : goal.cost_of-cost-requires-clause-few
cost_of-cost-requires-clause-few g c =
    let q = g.P.Paths.means.question c.args.problem.now in
    let few = members_few (in_group c.args.work.now.names c.args.group) q.count c.as_slice.result.now (c.as_slice.ensures.items ∙ ap (λ (b : Bounded ℕ). b.items) c.judge.ensures.kept.members ∙ c.requires.members) in
    omega (arith, few, (g.met.P.Paths.few c.args.problem.now).0)

pub cost_of-cost-requires-clause-within : goal.cost_of-cost-requires-clause-within
cost_of-cost-requires-clause-within g c =
    let q = g.P.Paths.means.question c.args.problem.now in
    members_each (in_group c.args.work.now.names c.args.group) q.count c.as_slice.result.now (c.as_slice.ensures.items ∙ ap (λ (b : Bounded ℕ). b.items) c.judge.ensures.kept.members ∙ c.requires.members)
    (λ k. k < length c.as_slice-in-Found.result.now) (λ k less own. omega (arith, less, ap length c.as_slice-in-Found.ensures, c.judge.ensures.work.ready.shape.costs))

pub cost_of-cost-requires-clause-cheap : goal.cost_of-cost-requires-clause-cheap
cost_of-cost-requires-clause-cheap g c =
    let q = g.P.Paths.means.question c.args.problem.now in let names = c.args.work.now.names in let boxed = c.args.work.now.boxed in
    let judged : IsJudged q names c.args.group c.args.work.now.best.limit boxed.masks boxed.columns.values boxed.columns.costs Found =
    subst (IsJudged q names c.args.group c.args.work.now.best.limit boxed.masks boxed.columns.values boxed.columns.costs) c.in-Found.is c.judge.ensures.judged in
    subst (λ l. All (λ k. slice_index l k ≤ MAX_PATH) c.as_slice.result.now) (sym (c.as_slice-in-Found.ensures ∙ ap (λ (b : PathBox). b.columns.costs) c.judge.ensures.kept.boxed))
    (members_each (in_group names c.args.group) q.count c.as_slice.result.now (c.as_slice.ensures.items ∙ ap (λ (b : Bounded ℕ). b.items) c.judge.ensures.kept.members ∙ c.requires.members)
    (λ k. slice_index boxed.columns.costs k ≤ MAX_PATH) (let paths = judged.1 in paths.cheap))
