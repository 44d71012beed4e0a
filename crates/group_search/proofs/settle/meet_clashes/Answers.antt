use Rattle.std.proofs.Common.{refl, ◌∙◌}
use Rattle.group_search.proofs.JoinLaws.{joined_none, joined_twice}
use Rattle.group_search.proofs.RoomLaws.{noted, work_noted}
use Rattle.group_search.proofs.StoreLaws.{work_kept}
use Rattle.group_search.proofs.settle.meet_clashes.Goals as goal

pub returns-then-not-clash-clause-work : goal.returns-then-not-clash-clause-work
returns-then-not-clash-clause-work g c = work_noted (g.P.Paths.means.question c.args.problem.now) c.args.work.now c.clear.new.marks c.clash.new.cut c.requires.work c.clear.ensures c.clash.ensures.room

pub returns-then-not-clash-clause-joined : goal.returns-then-not-clash-clause-joined
returns-then-not-clash-clause-joined g c = joined_none c.args.work.now.names

pub returns-then-not-take_cut-clause-work : goal.returns-then-not-take_cut-clause-work
returns-then-not-take_cut-clause-work g c =
    let q = g.P.Paths.means.question c.args.problem.now in
    let old = noted c.args.work.now c.clear.new.marks c.clash.new.cut in
    let work = work_noted q c.args.work.now c.clear.new.marks c.clash.new.cut c.requires.work c.clear.ensures c.clash.ensures.room in
    let taken = c.take_cut.ensures in
    work_kept q old c.take_cut.new.work c.clash.new.cut.items work (c.if-not-clash.ensures.cut refl) taken.boxed taken.names taken.spending taken.rooms taken.cuts

pub loop-init : goal.loop-init
loop-init g c =
    let q = g.P.Paths.means.question c.args.problem.now in
    let old = noted c.args.work.now c.clear.new.marks c.clash.new.cut in
    let work = work_noted q c.args.work.now c.clear.new.marks c.clash.new.cut c.requires.work c.clear.ensures c.clash.ensures.room in
    let taken = c.take_cut.ensures in
    record {
      space = c.clash.ensures.space;
      work = work_kept q old c.take_cut.new.work c.clash.new.cut.items work (c.if-not-clash.ensures.cut refl) taken.boxed taken.names taken.spending taken.rooms taken.cuts;
      joined = taken.joined;
      boxed = taken.boxed;
    }

pub returns-then-not-clash-2-clause-work : goal.returns-then-not-clash-2-clause-work
returns-then-not-clash-2-clause-work g c =
    work_noted (g.P.Paths.means.question c.args.problem.now) c.loop.work c.loop.work.marks c.clash-in-loop.new.cut c.loop.invariant.work refl c.clash-in-loop.ensures.room

pub returns-then-not-take_cut-2-clause-work : goal.returns-then-not-take_cut-2-clause-work
returns-then-not-take_cut-2-clause-work g c =
    let q = g.P.Paths.means.question c.args.problem.now in
    let old = noted c.loop.work c.loop.work.marks c.clash-in-loop.new.cut in
    let work = work_noted q c.loop.work c.loop.work.marks c.clash-in-loop.new.cut c.loop.invariant.work refl c.clash-in-loop.ensures.room in
    let taken = c.take_cut-in-loop.ensures in
    work_kept q old c.take_cut-in-loop.new.work c.clash-in-loop.new.cut.items work (c.if-not-clash-2.ensures.cut refl) taken.boxed taken.names taken.spending taken.rooms taken.cuts

pub returns-then-not-take_cut-2-clause-joined : goal.returns-then-not-take_cut-2-clause-joined
returns-then-not-take_cut-2-clause-joined g c = joined_twice c.args.work.now.names c.loop.work.names c.take_cut-in-loop.new.work.names c.loop.invariant.joined c.take_cut-in-loop.ensures.joined

pub loop-preserved : goal.loop-preserved
loop-preserved g c =
    let q = g.P.Paths.means.question c.args.problem.now in
    let kept = c.loop.invariant in
    let old = noted c.loop.work c.loop.work.marks c.clash-in-loop.new.cut in
    let work = work_noted q c.loop.work c.loop.work.marks c.clash-in-loop.new.cut kept.work refl c.clash-in-loop.ensures.room in
    let taken = c.take_cut-in-loop.ensures in
    record {
      space = c.clash-in-loop.ensures.space;
      work = work_kept q old c.take_cut-in-loop.new.work c.clash-in-loop.new.cut.items work (c.if-not-clash-2.ensures.cut refl) taken.boxed taken.names taken.spending taken.rooms taken.cuts;
      joined = joined_twice c.args.work.now.names c.loop.work.names c.take_cut-in-loop.new.work.names kept.joined taken.joined;
      boxed = taken.boxed ∙ kept.boxed;
    }
