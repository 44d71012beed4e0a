-- Sessions of `run`.
use Rattle.run_form.specs.RunMachine.{run_machine, run_first}
use Rattle.run_form.specs.declared.notation.Notation.{Notation}
use Rattle.std.specs.Prelude.{ℕ, List, ◌++◌}
use Rattle.model_form.specs.FormStates.{FormState}
use Rattle.run_form.specs.ScriptMachine.{ScriptState}
use Rattle.run_form.specs.declared.run.RunAs.{RunAs}
use Rattle.titan_session.specs.Sessions.{SessionState, session_first, Call, LeadTo, taken_of}

-- where the machine of `run` stands
abbrev pub RunState : Type 0
RunState = FormState RunAs ScriptState

-- where a session of `run` stands
abbrev pub RunSession : Type 0
RunSession = SessionState RunState

-- a session of `run` before the first line, which prints so
abbrev pub opened : Notation → RunSession
opened notation = session_first (run_first notation)

-- these calls, the latest first, lead a session that prints so here
abbrev pub AreCalls : Notation → List Call → RunSession → Type 0
AreCalls notation calls z = LeadTo run_machine (run_first notation) calls z

-- what was taken of a session, and behind it what waits
abbrev pub said_by : List Call → RunSession → List ℕ
said_by calls z = taken_of calls ++ z.pending
