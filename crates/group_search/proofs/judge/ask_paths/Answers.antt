use Rattle.std.proofs.Common.{All, refl, sym, subst, arith}
use Rattle.group_search.specs.Bounds.{IsHeld}
use Rattle.group_search.specs.Questions.{IsCut, in_group}
use Rattle.group_search.proofs.ChooseLaws.{cut_held, least_cost, least_inside, least_paths}
use Rattle.group_search.proofs.JudgeLaws.{work_keeps}
use Rattle.group_search.proofs.judge.ask_paths.Goals as goal

pub clash-requires-clause-paths : goal.clash-requires-clause-paths
clash-requires-clause-paths g c =
    let work = c.args.work.now in
    rw (c.as_slice-names.ensures, c.as_slice-values.ensures, c.as_slice-costs.ensures)
    (least_paths (g.P.Paths.means.question c.args.problem.now) (in_group work.names c.args.group) work.boxed c.requires.work.ready c.requires.stand)

pub returns-then-not-clash-clause-judged : goal.returns-then-not-clash-clause-judged
returns-then-not-clash-clause-judged g c =
    let q = g.P.Paths.means.question c.args.problem.now in
    let work = c.args.work.now in
    let test = in_group work.names c.args.group in
    let told = c.clash.ensures.none c.if-not-clash.true in (
      omega (arith, c.requires.base, c.requires.less),
      least_paths q test work.boxed c.requires.work.ready c.requires.stand,
      least_inside q test work.boxed c.requires.work.ready c.requires.stand (g.met.P.Paths.owned c.args.problem.now),
      rw (c.as_slice-names.ensures, c.as_slice-values.ensures, c.as_slice-costs.ensures) at told,
      least_cost q test work.boxed c.requires.work.ready c.requires.stand,
    )

pub choice_in-choice-requires-clause-held : goal.choice_in-choice-requires-clause-held
choice_in-choice-requires-clause-held g c =
    let q = g.P.Paths.means.question c.args.problem.now in
    let work = c.args.work.now in
    let has = rw c.as_slice-values.ensures at (c.clash.ensures.held c.if-not-clash.false) in
    subst (All (IsHeld q (in_group c.as_slice-names.result.now c.args.group) work.boxed)) (sym c.as_slice-pairs.ensures.items)
    (cut_held q (in_group c.as_slice-names.result.now c.args.group) work.boxed c.clash.new.cut.items has (c.clash.ensures.own c.if-not-clash.false))

pub returns-in-None-clause-work : goal.returns-in-None-clause-work
returns-in-None-clause-work g c =
    let q = g.P.Paths.means.question c.args.problem.now in let cut = c.as_slice-pairs.result.now in
    let is : IsCut q cut = subst (IsCut q) (sym c.as_slice-pairs.ensures.items) (c.clash.ensures.cut c.if-not-clash.false) in
    work_keeps q c.args.work.now _ cut c.requires.work refl refl refl is
    (record { members = refl; cuts = c.write_cuts.ensures; cut = c.clash.ensures.room; halves = refl; marks = refl; values = refl; costs = refl }) c.keep.ensures

pub returns-in-Some-clause-work : goal.returns-in-Some-clause-work
returns-in-Some-clause-work g c =
    let q = g.P.Paths.means.question c.args.problem.now in let cut = c.as_slice-pairs.result.now in
    let is : IsCut q cut = subst (IsCut q) (sym c.as_slice-pairs.ensures.items) (c.clash.ensures.cut c.if-not-clash.false) in
    work_keeps q c.args.work.now _ cut c.requires.work refl refl refl is
    (record { members = refl; cuts = c.write_cuts.ensures; cut = c.clash.ensures.room; halves = refl; marks = refl; values = refl; costs = refl }) c.keep.ensures
