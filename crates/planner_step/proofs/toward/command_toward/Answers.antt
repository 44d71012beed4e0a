use Rattle.std.proofs.Common.{◌≡◌, ◌+◌, suc, subst, arith}
use Rattle.reach_laws.specs.Cells.{Finds}
use Rattle.planner_step.specs.Planning.{cells_of}
use Rattle.planner_step.specs.Toward.{GoesOn}
use Rattle.planner_step.proofs.Stepping.{nearer_end}
use Rattle.planner_step.proofs.toward.command_toward.Goals as goal

pub toward-init : goal.toward-init
toward-init g c = (
  c.requires.wanted,
  (0, omega arith, λ k n found. (let same : n ≡ 0 + n = omega arith in subst (Finds (cells_of c.args.tables.now) c.args.state.now.modes c.args.pair.item c.args.pair.value k) same found)),
)

pub look-requires-clause-wanted : goal.look-requires-clause-wanted
look-requires-clause-wanted g c = c.toward.invariant.0

pub toward-smaller : goal.toward-smaller
toward-smaller g c =
    nearer_end c.args.tables.now c.classes-classes.ensures.tables c.args.state.now.modes c.requires.covers c.toward.at c.in-First.next c.toward.invariant.0 c.in-First.ensures.value

pub toward-preserved : goal.toward-preserved
toward-preserved g c =
    let before = c.toward.invariant.1 in
    let on : GoesOn c.args.tables.now c.args.state.now.modes c.toward.at c.in-First.next = c.in-First.ensures.value in (
      on.wanted,
      (
        suc before.0,
        omega (arith, before.1, c.in-First.ensures.steps),
        λ k n found. (let same : before.0 + suc n ≡ suc before.0 + n = omega arith in
            subst (Finds (cells_of c.args.tables.now) c.args.state.now.modes c.args.pair.item c.args.pair.value k) same (before.2 k (suc n) (on.finds k n found))),
      ),
    )

pub returns-in-Command : goal.returns-in-Command
returns-in-Command g c =
    let before = c.toward.invariant.1 in
    (before.0 + 1, before.2 c.in-Command.command 1 c.in-Command.ensures.value, omega (arith, before.1, c.in-Command.ensures.steps))
