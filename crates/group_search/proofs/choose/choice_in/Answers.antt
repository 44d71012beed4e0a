use Rattle.std.proofs.Common.{◌+◌, All, IsNone, refl, take, sym, subst}
use Rattle.std.proofs.lemmas.List.{take_all}
use Rattle.group_search.specs.Bounds.{IsOpen, LeavesCostAtLeast}
use Rattle.group_search.specs.Questions.{in_group}
use Rattle.group_search.proofs.ChooseLaws.{best_begins, best_passes, best_takes, cut_costs, is_at}
use Rattle.group_search.proofs.choose.choice_in.Goals.{in-Some+in-Some-best, in-Some+in_default-best-2, in-Some+in_default-best, in_default}
use Rattle.group_search.proofs.choose.choice_in.Goals as goal

pub loop-pair-init : goal.loop-pair-init
loop-pair-init g c = best_begins (g.P.Paths.means.question c.args.problem.now) (in_group c.args.names.now c.args.group) c.args.boxed.now.masks c.args.limit

pub loop-pair-preserved : goal.loop-pair-preserved
loop-pair-preserved g c =
    let q = g.P.Paths.means.question c.args.problem.now in
    let test = in_group c.args.names.now c.args.group in
    let masks = c.args.boxed.now.masks in
    let next = take (c.loop-pair.pair-index + 1) c.args.cut.now in
    let best = c.match-open_choice.best in
    elim c.match-open_choice.branch [
      | in-Some+in-Some-best w ↦
          best_takes q test masks c.args.limit next best w.in-Some-best.other w.best-is
          (is_at (λ x. IsOpen q test masks x.pair) c.loop-pair.best w.in-Some-best.other w.in-Some-best.is c.loop-pair.invariant.opens)
      | in-Some+in_default-best-2 w ↦
          best_takes q test masks c.args.limit next best w.in-Some.choice w.best-is (subst (IsOpen q test masks) (sym w.in-Some.ensures.some.0) w.in-Some.ensures.some.1)
      | in-Some+in_default-best w ↦
          best_takes q test masks c.args.limit next best w.in-Some.choice w.best-is (subst (IsOpen q test masks) (sym w.in-Some.ensures.some.0) w.in-Some.ensures.some.1)
      | in_default w ↦
          best_passes q test masks c.args.limit c.args.cut.now c.loop-pair.pair-index c.loop-pair.best best w.best-is c.loop-pair-test.true
          (c.open_choice.ensures.none (subst IsNone (sym w.in_default.is) refl)) c.loop-pair.invariant
    ]

pub returns-in_err-best-clause-none : goal.returns-in_err-best-clause-none
returns-in_err-best-clause-none g c _ =
    let q = g.P.Paths.means.question c.args.problem.now in
    let test = in_group c.args.names.now c.args.group in
    let b = c.args.boxed.now in
    let cut = c.args.cut.now in
    let each = subst (All (LeavesCostAtLeast q test b.masks c.args.limit)) (take_all c.loop-pair.pair-index cut c.loop-pair-test.false) (c.loop-pair.invariant.none (subst IsNone (sym c.in_err-best.was) refl)) in
    cut_costs q test b cut c.args.limit c.requires.cut (λ values costs s. (g.met.P.Paths.whole c.args.problem.now values costs s).0) c.requires.held each

pub returns-clause-some : goal.returns-clause-some
returns-clause-some g c =
    is_at (λ x. IsOpen (g.P.Paths.means.question c.args.problem.now) (in_group c.args.names.now c.args.group) c.args.boxed.now.masks x.pair)
    c.loop-pair.best c.in_ok-best.best c.in_ok-best.was c.loop-pair.invariant.opens
