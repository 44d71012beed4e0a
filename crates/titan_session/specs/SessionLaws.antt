-- What the calls of a session show, in the words of `titan run`.
use Rattle.std.specs.Prelude.{◌≡◌, ◌↔◌, ◌⊎◌, ℕ, List, [], ◌++◌}
use Rattle.line_machine.specs.Lines.{joined_lines}
use Rattle.line_machine.specs.Next.{GoesOn}
use Rattle.line_machine.specs.Runs.{IsPrefix, IsSure}
use Rattle.line_machine.specs.declared.machine.End.{End}
use Rattle.line_machine.specs.declared.machine.End.TheVariants.{Ended, Rejected, Refused}
use Rattle.model_form.specs.Answers.{Answer, answer}
use Rattle.run_form.specs.Headline.{IsTraceOf}
use Rattle.run_form.specs.Printed.{IsRunOf}
use Rattle.run_form.specs.RunMachine.{run_machine, run_first}
use Rattle.run_form.specs.declared.notation.Notation.{Notation}
use Rattle.titan_session.specs.RunSessions.{RunState, RunSession, AreCalls, said_by}
use Rattle.titan_session.specs.Sessions.{TakesLine, Call, IsGoing, lines_of, session_lost}
use Rattle.titan_session.specs.declared.session.Stage.TheVariants.{Going, Over, Lost}

-- a run prints this of the lines, each with its LF, and ends so; it prints nothing else of them; and it is their fixed trace
pub record IsRunOfLines (notation : Notation) (lines : List (List ℕ)) (a : Answer) : Type 0 where
  pub run : IsRunOf notation (joined_lines lines) a
  pub only : (b : Answer) → IsRunOf notation (joined_lines lines) b → b ≡ a
  pub trace : IsTraceOf notation (joined_lines lines) a

-- nothing was said yet, or it is the whole text of a run of bytes that came first, of which no line is refused
abbrev pub IsRunSoFar : Notation → (bytes said : List ℕ) → Type 0
IsRunSoFar notation bytes said = (said ≡ []) ⊎ ((came more : List ℕ) × (came ++ more ≡ bytes) × IsRunOf notation came (answer Ended said))

-- what a session has said: where it is over, what a run prints of its lines. Where it goes on, all that these lines decide, which begins all that a run prints of them
-- and any more, and is a run of the first of them. A line ends it only where that is refused. No session is rejected, or lost by calls that went well. It may be given
-- a line exactly where it goes on. And where memory runs out it may not, and has still said all that the lines before that decide
pub record SessionsAreRuns : Type 0 where
  pub whole : (notation : Notation) (calls : List Call) (z : RunSession) (e : End) → AreCalls notation calls z → z.stage ≡ Over e → IsRunOfLines notation (lines_of calls) (answer e (said_by calls z))
  pub begins : (notation : Notation) (calls : List Call) (z : RunSession) (s : RunState) → AreCalls notation calls z → z.stage ≡ Going s
      → (more : List ℕ) (a : Answer) → IsRunOf notation (joined_lines (lines_of calls) ++ more) a → IsPrefix (said_by calls z) a.text
  pub prompt : (notation : Notation) (calls : List Call) (z : RunSession) (s : RunState) → AreCalls notation calls z → z.stage ≡ Going s
      → IsSure run_machine (run_first notation) (joined_lines (lines_of calls)) (GoesOn s) (said_by calls z)
  pub so_far : (notation : Notation) (calls : List Call) (z : RunSession) (s : RunState) → AreCalls notation calls z → z.stage ≡ Going s → IsRunSoFar notation (joined_lines (lines_of calls)) (said_by calls z)
  pub by_line : (notation : Notation) (calls : List Call) (y z : RunSession) (line : List ℕ) (e : End) → AreCalls notation calls y → TakesLine run_machine y z line → z.stage ≡ Over e → e ≡ Refused
  pub not_rejected : (notation : Notation) (calls : List Call) (z : RunSession) → AreCalls notation calls z → z.stage ≡ Over Rejected → ⊥
  pub not_lost : (notation : Notation) (calls : List Call) (z : RunSession) → AreCalls notation calls z → z.stage ≡ Lost → ⊥
  pub going : (z : RunSession) → IsGoing z.stage ↔ ((s : RunState) × (z.stage ≡ Going s))
  pub lost : (notation : Notation) (calls : List Call) (z : RunSession) (s : RunState) → AreCalls notation calls z → z.stage ≡ Going s
      → ((session_lost z).stage ≡ Lost) × IsSure run_machine (run_first notation) (joined_lines (lines_of calls)) (GoesOn s) (said_by calls (session_lost z))
