use Rattle.std.proofs.Common.{sym, ap, subst, ◌<◌, length, All}
use Rattle.cca_base.specs.State.{Extends}
use Rattle.cca_base.specs.Orders.{IsFirstMissing}
use Rattle.policy_tables.specs.Codes.{cell_read}
use Rattle.planner_step.proofs.Covered.{inside_place, inside_mode, mode_here, stands_in}
use Rattle.planner_step.proofs.Stepping.{cube_within, finds_now, goes_on}
use Rattle.planner_step.proofs.toward.look.Goals as goal

pub get-mode-requires : goal.get-mode-requires
get-mode-requires g c =
    inside_place c.args.tables.now c.classes-classes.ensures.tables c.args.state.now.modes c.requires.covers c.args.pair.item c.args.pair.value c.requires.wanted.inside

pub look_up-requires-clause-from : goal.look_up-requires-clause-from
look_up-requires-clause-from g c =
    mode_here c.args.tables.now c.classes-classes.ensures.tables c.args.state.now.modes c.requires.covers c.args.pair.item c.get-mode.result.now c.get-mode.ensures.value

pub look_up-requires-clause-to : goal.look_up-requires-clause-to
look_up-requires-clause-to g c =
    inside_mode c.args.tables.now c.classes-classes.ensures.tables c.args.state.now.modes c.requires.covers c.args.pair.item c.args.pair.value c.requires.wanted.inside

pub look_up-requires-clause-stands : goal.look_up-requires-clause-stands
look_up-requires-clause-stands g c =
    stands_in c.args.tables.now c.classes-classes.ensures.tables c.args.state.now.modes c.requires.covers c.args.pair.item c.get-mode.result.now c.get-mode.ensures.value

pub first_missing-requires : goal.first_missing-requires
first_missing-requires g c = subst (All (λ q. q.item < length c.args.state.now.modes)) (sym c.as_slice.ensures.pairs)
    (cube_within c.args.tables.now c.classes-classes.ensures.tables c.args.state.now.modes c.requires.covers c.args.pair c.requires.wanted c.get-mode.result.now c.get-mode.ensures.value
    (cell_read c.look_up.result) c.look_up.ensures.place c.look_up.ensures.cell c.in-Step.move_number c.in-Step.command c.in-Step.cube.now c.in-Step.left (ap cell_read c.in-Step.is))

pub returns-in-None-clause-value : goal.returns-in-None-clause-value
returns-in-None-clause-value g c =
    finds_now c.args.tables.now c.classes-classes.ensures.tables c.args.state.now.modes c.requires.covers c.args.pair c.requires.wanted c.get-mode.result.now c.get-mode.ensures.value
    (cell_read c.look_up.result) c.look_up.ensures.place c.look_up.ensures.cell c.in-Step.move_number c.in-Step.command c.in-Step.cube.now c.in-Step.left (ap cell_read c.in-Step.is)
    (subst (Extends c.args.state.now.modes) c.as_slice.ensures.pairs c.in-None.ensures)

pub returns-in-Some-clause-value : goal.returns-in-Some-clause-value
returns-in-Some-clause-value g c =
    goes_on c.args.tables.now c.classes-classes.ensures.tables c.args.state.now.modes c.requires.covers c.args.pair c.requires.wanted c.get-mode.result.now c.get-mode.ensures.value
    (cell_read c.look_up.result) c.look_up.ensures.place c.look_up.ensures.cell c.in-Step.move_number c.in-Step.command c.in-Step.cube.now c.in-Step.left (ap cell_read c.in-Step.is)
    c.in-Some.next (subst (λ l. IsFirstMissing c.args.state.now.modes l c.in-Some.next) c.as_slice.ensures.pairs c.in-Some.ensures)
