use Rattle.std.proofs.Common.{refl, sym, subst}
use Rattle.std.specs.Prelude.{Some}
use Rattle.show_form.specs.Shown.{show_machine}
use Rattle.run_form.specs.RunMachine.{run_machine, run_first}
use Rattle.check_form.specs.CheckForm.{check_machine}
use Rattle.migrate_form.specs.MigrateMachine.{migrate_machine}
use Rattle.want_form.specs.WishMachine.{want_machine}
use Rattle.program_form.specs.ProgramMachine.{program_machine}
use Rattle.watch_form.specs.WatchMachine.{watch_machine}
use Rattle.titan_top.specs.Streams.{HasRoomForWords, IsDrivenAs}
use Rattle.titan_top.specs.declared.words.Form.TheVariants.{Run, Show, Check, Migrate, Want, Watch, Program}
use Rattle.titan_top.proofs.FormAnswers.{room_for, opened_room}
use Rattle.titan_top.proofs.TrialRuns.{trial_leaves}
use Rattle.titan_top.proofs.top.drive_form.Goals as goal
use Rattle.model_form.specs.FormStates.{form_first}

pub drive_opened-requires-clause-room : goal.drive_opened-requires-clause-room
drive_opened-requires-clause-room g c =
    let left = g.I.Intake.left c.args.source.now in
    let space = g.K.Sink.space c.args.sink.now in
    opened_room run_machine (run_first c.in-Run.notation) left space c.open_run.result c.open_run.ensures (room_for (Run c.in-Run.notation) left space (subst (λ f. HasRoomForWords (Some f) left space) c.in-Run.is c.requires))

pub drive_opened-requires-in-Show-clause-room : goal.drive_opened-requires-in-Show-clause-room
drive_opened-requires-in-Show-clause-room g c =
    let left = g.I.Intake.left c.args.source.now in
    let space = g.K.Sink.space c.args.sink.now in
    opened_room show_machine (form_first (record {})) left space c.open_show.result c.open_show.ensures (room_for Show left space (subst (λ f. HasRoomForWords (Some f) left space) c.in-Show.is c.requires))

pub drive_trial-requires : goal.drive_trial-requires
drive_trial-requires g c = subst (λ f. HasRoomForWords (Some f) (g.I.Intake.left c.args.source.now) (g.K.Sink.space c.args.sink.now)) c.in-Trial.is c.requires

pub drive_opened-requires-in-Check-clause-room : goal.drive_opened-requires-in-Check-clause-room
drive_opened-requires-in-Check-clause-room g c =
    let left = g.I.Intake.left c.args.source.now in
    let space = g.K.Sink.space c.args.sink.now in
    opened_room check_machine (form_first (record {})) left space c.open_check.result c.open_check.ensures (room_for Check left space (subst (λ f. HasRoomForWords (Some f) left space) c.in-Check.is c.requires))

pub drive_opened-requires-in-Migrate-clause-room : goal.drive_opened-requires-in-Migrate-clause-room
drive_opened-requires-in-Migrate-clause-room g c =
    let left = g.I.Intake.left c.args.source.now in
    let space = g.K.Sink.space c.args.sink.now in
    opened_room migrate_machine (form_first (record {})) left space c.open_migrate.result c.open_migrate.ensures (room_for Migrate left space (subst (λ f. HasRoomForWords (Some f) left space) c.in-Migrate.is c.requires))

pub drive_opened-requires-in-Want-clause-room : goal.drive_opened-requires-in-Want-clause-room
drive_opened-requires-in-Want-clause-room g c =
    let left = g.I.Intake.left c.args.source.now in
    let space = g.K.Sink.space c.args.sink.now in
    opened_room want_machine (form_first (record {})) left space c.open_want.result c.open_want.ensures (room_for Want left space (subst (λ f. HasRoomForWords (Some f) left space) c.in-Want.is c.requires))

pub drive_opened-requires-in-Watch-clause-room : goal.drive_opened-requires-in-Watch-clause-room
drive_opened-requires-in-Watch-clause-room g c =
    let left = g.I.Intake.left c.args.source.now in
    let space = g.K.Sink.space c.args.sink.now in
    opened_room watch_machine (form_first (record {})) left space c.open_watch.result c.open_watch.ensures (room_for Watch left space (subst (λ f. HasRoomForWords (Some f) left space) c.in-Watch.is c.requires))

pub drive_opened-requires-in-Program-clause-room : goal.drive_opened-requires-in-Program-clause-room
drive_opened-requires-in-Program-clause-room g c =
    let left = g.I.Intake.left c.args.source.now in
    let space = g.K.Sink.space c.args.sink.now in
    opened_room program_machine (form_first (record {})) left space c.open_program.result c.open_program.ensures (room_for Program left space (subst (λ f. HasRoomForWords (Some f) left space) c.in-Program.is c.requires))

pub returns-in-Run-clause-driven : goal.returns-in-Run-clause-driven
returns-in-Run-clause-driven g c =
    subst (λ f. IsDrivenAs f (g.I.Intake.left c.args.source.now) (g.I.Intake.left c.drive_opened.new.source) (g.K.Sink.written c.args.sink.now) (g.K.Sink.written c.drive_opened.new.sink) (g.I.Intake.calls c.args.source.now) (g.I.Intake.calls c.drive_opened.new.source) c.drive_opened.result) (sym c.in-Run.is)
    (c.drive_opened.ensures.driven (run_first c.in-Run.notation) c.open_run.ensures)

pub returns-in-Show-clause-driven : goal.returns-in-Show-clause-driven
returns-in-Show-clause-driven g c =
    subst (λ f. IsDrivenAs f (g.I.Intake.left c.args.source.now) (g.I.Intake.left c.drive_opened-in-Show.new.source) (g.K.Sink.written c.args.sink.now) (g.K.Sink.written c.drive_opened-in-Show.new.sink) (g.I.Intake.calls c.args.source.now) (g.I.Intake.calls c.drive_opened-in-Show.new.source) c.drive_opened-in-Show.result) (sym c.in-Show.is)
    (c.drive_opened-in-Show.ensures.driven (form_first (record {})) c.open_show.ensures)

pub returns-in-Trial-clause-driven : goal.returns-in-Trial-clause-driven
returns-in-Trial-clause-driven g c =
    subst (λ f. IsDrivenAs f (g.I.Intake.left c.args.source.now) (g.I.Intake.left c.args.source.now) (g.K.Sink.written c.args.sink.now) (g.K.Sink.written c.drive_trial.new.sink) (g.I.Intake.calls c.args.source.now) (g.I.Intake.calls c.args.source.now) c.drive_trial.result) (sym c.in-Trial.is)
    (trial_leaves c.in-Trial.seed (g.I.Intake.left c.args.source.now) (g.K.Sink.written c.args.sink.now) (g.K.Sink.written c.drive_trial.new.sink) (g.I.Intake.calls c.args.source.now) c.drive_trial.result c.drive_trial.ensures.driven)

pub returns-in-Check-clause-driven : goal.returns-in-Check-clause-driven
returns-in-Check-clause-driven g c =
    subst (λ f. IsDrivenAs f (g.I.Intake.left c.args.source.now) (g.I.Intake.left c.drive_opened-in-Check.new.source) (g.K.Sink.written c.args.sink.now) (g.K.Sink.written c.drive_opened-in-Check.new.sink) (g.I.Intake.calls c.args.source.now) (g.I.Intake.calls c.drive_opened-in-Check.new.source) c.drive_opened-in-Check.result) (sym c.in-Check.is)
    (c.drive_opened-in-Check.ensures.driven (form_first (record {})) c.open_check.ensures)

pub returns-in-Migrate-clause-driven : goal.returns-in-Migrate-clause-driven
returns-in-Migrate-clause-driven g c =
    subst (λ f. IsDrivenAs f (g.I.Intake.left c.args.source.now) (g.I.Intake.left c.drive_opened-in-Migrate.new.source) (g.K.Sink.written c.args.sink.now) (g.K.Sink.written c.drive_opened-in-Migrate.new.sink) (g.I.Intake.calls c.args.source.now) (g.I.Intake.calls c.drive_opened-in-Migrate.new.source) c.drive_opened-in-Migrate.result) (sym c.in-Migrate.is)
    (c.drive_opened-in-Migrate.ensures.driven (form_first (record {})) c.open_migrate.ensures)

pub returns-in-Want-clause-driven : goal.returns-in-Want-clause-driven
returns-in-Want-clause-driven g c =
    subst (λ f. IsDrivenAs f (g.I.Intake.left c.args.source.now) (g.I.Intake.left c.drive_opened-in-Want.new.source) (g.K.Sink.written c.args.sink.now) (g.K.Sink.written c.drive_opened-in-Want.new.sink) (g.I.Intake.calls c.args.source.now) (g.I.Intake.calls c.drive_opened-in-Want.new.source) c.drive_opened-in-Want.result) (sym c.in-Want.is)
    (c.drive_opened-in-Want.ensures.driven (form_first (record {})) c.open_want.ensures)

pub returns-in-Watch-clause-driven : goal.returns-in-Watch-clause-driven
returns-in-Watch-clause-driven g c =
    subst (λ f. IsDrivenAs f (g.I.Intake.left c.args.source.now) (g.I.Intake.left c.drive_opened-in-Watch.new.source) (g.K.Sink.written c.args.sink.now) (g.K.Sink.written c.drive_opened-in-Watch.new.sink) (g.I.Intake.calls c.args.source.now) (g.I.Intake.calls c.drive_opened-in-Watch.new.source) c.drive_opened-in-Watch.result) (sym c.in-Watch.is)
    (c.drive_opened-in-Watch.ensures.driven (form_first (record {})) c.open_watch.ensures)

pub returns-in-Program-clause-driven : goal.returns-in-Program-clause-driven
returns-in-Program-clause-driven g c =
    subst (λ f. IsDrivenAs f (g.I.Intake.left c.args.source.now) (g.I.Intake.left c.drive_opened-in-Program.new.source) (g.K.Sink.written c.args.sink.now) (g.K.Sink.written c.drive_opened-in-Program.new.sink) (g.I.Intake.calls c.args.source.now) (g.I.Intake.calls c.drive_opened-in-Program.new.source) c.drive_opened-in-Program.result) (sym c.in-Program.is)
    (c.drive_opened-in-Program.ensures.driven (form_first (record {})) c.open_program.ensures)

pub returns-in-Trial-clause-faults : goal.returns-in-Trial-clause-faults
returns-in-Trial-clause-faults g c = record {
  read = λ e. absurd (c.drive_trial.ensures.read e);
  write = c.drive_trial.ensures.write;
  quiet_read = λ _. refl;
  quiet_write = c.drive_trial.ensures.quiet;
  complete = λ _. c.drive_trial.ensures.complete;
}
