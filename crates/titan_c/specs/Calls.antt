-- What a call does to what a handle holds.
use Rattle.std.specs.Prelude.{◌≡◌, ◌≤◌, ◌⊎◌, ℕ, List, [], take, drop, length, Option, Some, None}
use Rattle.run_form.specs.RunMachine.{run_machine}
use Rattle.run_form.specs.declared.notation.Notation.{Notation}
use Rattle.run_form.specs.declared.notation.Notation.TheVariants.{Words, Json, Proof}
use Rattle.line_machine.specs.Lines.{HasNoLf}
use Rattle.titan_session.specs.RunSessions.{RunSession, opened}
use Rattle.titan_session.specs.Sessions.{IsGoing, TakesLine, TakesEnd, GivesOut}
use Rattle.titan_c.specs.Statuses.{status_of}

-- how a session prints that is opened by this number: 0 in words, 1 as JSON, 2 in words with proofs
abbrev pub Prints : ℕ → Notation → Type 0
Prints words notation = ((words ≡ 0) × (notation ≡ Words)) ⊎ (((words ≡ 1) × (notation ≡ Json)) ⊎ ((words ≡ 2) × (notation ≡ Proof)))

-- a session before its first line, which prints so
abbrev pub OpenedBy : ℕ → Option RunSession → Type 0
OpenedBy words held = (notation : Notation) × Prints words notation × (held ≡ Some (opened notation))

-- a session that goes on
abbrev pub HoldsGoing : Option RunSession → Type 0
HoldsGoing None = ⊥
HoldsGoing (Some s) = IsGoing s.stage

-- as much as fits of what waits was moved to the front of a buffer, and the rest of that is as before
pub record HandsOver (x y : RunSession) (out out' : List ℕ) (n : ℕ) : Type 0 where
  pub gives : GivesOut x y (take n out')
  pub rest : drop n out' ≡ drop n out
  pub fits : n ≤ length out
  pub all : (n ≡ length out) ⊎ (y.pending ≡ [])

-- a held session handed over what fits
pub record HandedOver (old new : Option RunSession) (out out' : List ℕ) (n status : ℕ) : Type 0 where
  pub before : RunSession
  pub after : RunSession
  pub was : old ≡ Some before
  pub hands : HandsOver before after out out' n
  pub now : new ≡ Some after
  pub status_is : status ≡ status_of after.stage

-- a held session made such a step, and then it handed over what fits
pub record WasTold (Step : RunSession → RunSession → Type 0) (old new : Option RunSession) (out out' : List ℕ) (n status : ℕ) : Type 0 where
  pub before : RunSession
  pub between : RunSession
  pub was : old ≡ Some before
  pub takes : Step before between
  pub hands : HandedOver (Some between) new out out' n status

-- a held session was given a line, and then it handed over what fits
abbrev pub WasGivenLine : (old new : Option RunSession) (line out out' : List ℕ) (n status : ℕ) → Type 0
WasGivenLine old new line out out' n status = WasTold (λ x y. TakesLine run_machine x y line) old new out out' n status

-- a held session was given the end of the lines, and then it handed over what fits
abbrev pub WasEnded : (old new : Option RunSession) (out out' : List ℕ) (n status : ℕ) → Type 0
WasEnded old new out out' n status = WasTold (TakesEnd run_machine) old new out out' n status

-- a line has LF in it, or nothing is held that takes lines
abbrev pub IsWrongLine : Option RunSession → List ℕ → Type 0
IsWrongLine held line = (HasNoLf line → ⊥) ⊎ (HoldsGoing held → ⊥)
