use Rattle.titan_top.proofs.TrialRuns.{no_trial, trial_room, trial_driven}
use Rattle.titan_top.proofs.trial.drive_trial.Goals as goal

pub drive-requires-clause-room : goal.drive-requires-clause-room
drive-requires-clause-room g c = trial_room c.args.seed c.in-Ok.machine _ c.in-Ok.ensures.machine c.in-Ok.ensures.document (g.K.Sink.space c.args.sink.now) c.requires

pub returns-in-Ok-clause-driven : goal.returns-in-Ok-clause-driven
returns-in-Ok-clause-driven g c = trial_driven c.args.seed c.in-Ok.machine _ c.in-Ok.ensures.machine c.in-Ok.ensures.document _ _ _ _ c.drive.result c.drive.ensures.streamed c.drive.ensures.text c.drive.ensures.ends

pub returns-in-Err-clause-driven : goal.returns-in-Err-clause-driven
returns-in-Err-clause-driven g c = no_trial c.args.seed (g.K.Sink.written c.args.sink.now) _
