-- How the calls of C follow each other: they are calls of a session, and what they wrote is what a run prints.
use Rattle.std.specs.Prelude.{◌≡◌, ◌⊎◌, ◌↔◌, ◌<◌, ◌≤◌, ℕ, List, [], ◌∷◌, ◌++◌, length, take, drop, Option, Some}
use Rattle.line_machine.specs.Lines.{HasNoLf, joined_lines}
use Rattle.line_machine.specs.Next.{GoesOn}
use Rattle.line_machine.specs.Runs.{IsPrefix, IsSure}
use Rattle.line_machine.specs.declared.machine.End.TheVariants.{Ended, Refused}
use Rattle.model_form.specs.Answers.{Answer, answer}
use Rattle.run_form.specs.Printed.{IsRunOf}
use Rattle.run_form.specs.RunMachine.{run_machine, run_first}
use Rattle.run_form.specs.Notations.{closing}
use Rattle.run_form.specs.declared.counts.Counts.{Counts}
use Rattle.run_form.specs.declared.notation.Notation.{Notation}
use Rattle.run_form.specs.declared.notation.Notation.TheVariants.{Words, Json, Proof}
use Rattle.titan_session.specs.RunSessions.{RunSession, RunState, AreCalls}
use Rattle.titan_session.specs.SessionLaws.{IsRunOfLines, IsRunSoFar}
use Rattle.titan_session.specs.Sessions.{Call, IsGoing, Line, Finish, Take, lines_of, taken_of}
use Rattle.titan_c.specs.Calls.{HandsOver, HoldsGoing, IsWrongLine, Prints, OpenedBy, WasGivenLine, WasEnded, HandedOver}
use Rattle.titan_c.specs.Statuses.{status_of}
use Rattle.titan_c.specs.declared.status.TheConstants.{GOES_ON, ENDED, REFUSED, REJECTED, WRONG_CALL, NO_MEMORY}

-- nothing is printed at the end of a trace, so each tick is printed when it is made
abbrev pub IsLineByLine : Notation → Type 0
IsLineByLine notation = (c : Counts) → closing notation c ≡ []

-- these calls, the latest first, lead to the session that is held
abbrev pub HoldsAfter : Notation → List Call → Option RunSession → Type 0
HoldsAfter notation calls held = (z : RunSession) × (held ≡ Some z) × AreCalls notation calls z

-- a status that says where a session stands: it goes on, it ended, or a line was refused
abbrev pub IsPlace : ℕ → Type 0
IsPlace status = (status ≡ GOES_ON) ⊎ ((status ≡ ENDED) ⊎ (status ≡ REFUSED))

-- an opened session has had no call; a line and the end of the lines are a call, and then the bytes that were written are taken
pub record CallsLeadOn : Type 0 where
  pub opened : (words : ℕ) (held : Option RunSession) → OpenedBy words held → (notation : Notation) × Prints words notation × IsLineByLine notation × HoldsAfter notation [] held
  pub line : (notation : Notation) (calls : List Call) (old new : Option RunSession) (line out out' : List ℕ) (n status : ℕ)
      → WasGivenLine old new line out out' n status → HoldsAfter notation calls old → HoldsAfter notation (Take (take n out') ∷ Line line ∷ calls) new
  pub end : (notation : Notation) (calls : List Call) (old new : Option RunSession) (out out' : List ℕ) (n status : ℕ)
      → WasEnded old new out out' n status → HoldsAfter notation calls old → HoldsAfter notation (Take (take n out') ∷ Finish ∷ calls) new
  pub take : (notation : Notation) (calls : List Call) (old new : Option RunSession) (out out' : List ℕ) (n status : ℕ)
      → HandedOver old new out out' n status → HoldsAfter notation calls old → HoldsAfter notation (Take (take n out') ∷ calls) new

-- what was written of the lines that were handed over is all that these decide, and that isn't the end; it begins all that a run prints of them and any more; and it is
-- nothing yet, or the run of bytes that came first
pub record IsAllDecided (notation : Notation) (lines : List (List ℕ)) (said : List ℕ) : Type 0 where
  pub decided : (s : RunState) × IsSure run_machine (run_first notation) (joined_lines lines) (GoesOn s) said
  pub begins : (more : List ℕ) (a : Answer) → IsRunOf notation (joined_lines lines ++ more) a → IsPrefix said a.text
  pub so_far : IsRunSoFar notation (joined_lines lines) said

-- the theorem in the words of C: where a status says that the session ended, or that a line was refused, and nothing waits any more, what was written is what `titan run`
-- prints of the lines that were handed over, each with its LF; where it says that the session goes on, it is all that these lines decide. No other statuses come of calls that went well: a line never says that the session ended, nor the end of
-- the lines that it goes on. And where less was written than fits, nothing waits
pub record CallsPrintRuns : Type 0 where
  pub ended : (notation : Notation) (calls : List Call) (z : RunSession) → HoldsAfter notation calls (Some z) → status_of z.stage ≡ ENDED → z.pending ≡ [] → IsRunOfLines notation (lines_of calls) (answer Ended (taken_of calls))
  pub refused : (notation : Notation) (calls : List Call) (z : RunSession) → HoldsAfter notation calls (Some z) → status_of z.stage ≡ REFUSED → z.pending ≡ [] → IsRunOfLines notation (lines_of calls) (answer Refused (taken_of calls))
  pub going : (notation : Notation) (calls : List Call) (z : RunSession) → HoldsAfter notation calls (Some z) → status_of z.stage ≡ GOES_ON → z.pending ≡ [] → IsAllDecided notation (lines_of calls) (taken_of calls)
  pub few : (notation : Notation) (calls : List Call) (z : RunSession) → HoldsAfter notation calls (Some z) → IsPlace (status_of z.stage)
  pub line : (notation : Notation) (calls : List Call) (old new : Option RunSession) (line out out' : List ℕ) (n status : ℕ)
      → HoldsAfter notation calls old → WasGivenLine old new line out out' n status → (status ≡ GOES_ON) ⊎ (status ≡ REFUSED)
  pub end : (notation : Notation) (calls : List Call) (old new : Option RunSession) (out out' : List ℕ) (n status : ℕ)
      → HoldsAfter notation calls old → WasEnded old new out out' n status → (status ≡ ENDED) ⊎ (status ≡ REFUSED)
  pub take : (notation : Notation) (calls : List Call) (old new : Option RunSession) (out out' : List ℕ) (n status : ℕ)
      → HoldsAfter notation calls old → HandedOver old new out out' n status → IsPlace status
  pub goes_on : (z : RunSession) → status_of z.stage ≡ GOES_ON → IsGoing z.stage
  pub nothing_waits : (x y : RunSession) (out out' : List ℕ) (n : ℕ) → HandsOver x y out out' n → n < length out → y.pending ≡ []

-- ---- what a call answers

-- of what is held behind a call the status says where it stands; no more was written than fits, behind that all is as before, and where less was written nothing waits
pub record IsAnswerOf (held : Option RunSession) (out out' : List ℕ) (n status : ℕ) : Type 0 where
  pub session : RunSession
  pub is_held : held ≡ Some session
  pub stands : status ≡ status_of session.stage
  pub fits : n ≤ length out
  pub rest : drop n out' ≡ drop n out
  pub all : n < length out → session.pending ≡ []

-- what is held is a session that goes on, by its status
abbrev pub GoesOnBehind : Option RunSession → Type 0
GoesOnBehind held = (z : RunSession) × (held ≡ Some z) × (status_of z.stage ≡ GOES_ON)

-- each call that went well answers of what is held behind it; a line or the end of the lines may come exactly where the status is that a session goes on, and a line only without LF
pub record CallsAnswer : Type 0 where
  pub line : (old new : Option RunSession) (line out out' : List ℕ) (n status : ℕ) → WasGivenLine old new line out out' n status → IsAnswerOf new out out' n status
  pub end : (old new : Option RunSession) (out out' : List ℕ) (n status : ℕ) → WasEnded old new out out' n status → IsAnswerOf new out out' n status
  pub take : (old new : Option RunSession) (out out' : List ℕ) (n status : ℕ) → HandedOver old new out out' n status → IsAnswerOf new out out' n status
  pub may_end : (held : Option RunSession) → HoldsGoing held ↔ GoesOnBehind held
  pub may_line : (held : Option RunSession) (line : List ℕ) → (IsWrongLine held line → ⊥) ↔ (HasNoLf line × GoesOnBehind held)

-- the numbers that C knows: those of statuses, and of what a session prints
pub record NumbersOfC : Type 0 where
  pub statuses : GOES_ON ∷ ENDED ∷ REFUSED ∷ REJECTED ∷ WRONG_CALL ∷ NO_MEMORY ∷ [] ≡ 0 ∷ 1 ∷ 2 ∷ 3 ∷ 4 ∷ 5 ∷ []
  pub words : (notation : Notation) → Prints 0 notation ↔ (notation ≡ Words)
  pub json : (notation : Notation) → Prints 1 notation ↔ (notation ≡ Json)
  pub proofs : (notation : Notation) → Prints 2 notation ↔ (notation ≡ Proof)
