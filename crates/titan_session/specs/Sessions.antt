-- A session of a machine: it is given its lines one at a time, and what it prints waits until it is taken.
use Rattle.std.specs.Prelude.{◌≡◌, ◌≤◌, ⊤, ℕ, ◌+◌, List, [], ◌∷◌, ◌++◌}
use Rattle.line_machine.specs.Lines.{HasNoLf}
use Rattle.line_machine.specs.Next.{Next, GoesOn, Stops}
use Rattle.line_machine.specs.Runs.{Transition}
use Rattle.line_machine.specs.declared.machine.End.{End}
use Rattle.line_machine.specs.declared.machine.Machine.{Ghosts}
use Rattle.line_machine.specs.declared.machine.TheConstants.{MAX_LINES}
use Rattle.titan_session.specs.declared.session.Stage.{Stage}
use Rattle.titan_session.specs.declared.session.Stage.TheVariants.{Going, Over, Lost}

-- where a session stands: its machine, how many lines it was given, and the text that waits to be taken
pub record SessionState (S : Type 0) : Type 0 where
  pub stage : Stage S
  pub count : ℕ
  pub pending : List ℕ

-- a session before the first line, of a machine in this state
abbrev pub session_first : {S : Type 0} → S → SessionState S
session_first s = record { stage = Going s; count = 0; pending = [] }

-- memory ran out: nothing is known of the machine, and what waits still does
abbrev pub session_lost : {S : Type 0} → SessionState S → SessionState S
session_lost x = record { stage = Lost; count = x.count; pending = x.pending }

-- where a machine goes on, the session does, and where it stops, the session is over
abbrev pub stage_of : {S : Type 0} → Next S → Stage S
stage_of (GoesOn s) = Going s
stage_of (Stops e) = Over e

-- the session may be given a line
abbrev pub IsGoing : {S : Type 0} → Stage S → Type 0
IsGoing (Going s) = ⊤
IsGoing (Over e) = ⊥
IsGoing Lost = ⊥

-- where a session goes on, its machine may take the next line, behind so many
abbrev pub AwaitsNext : {S : Type 0} → Ghosts S → Stage S → ℕ → Type 0
AwaitsNext m (Going s) count = (count ≤ MAX_LINES) × m.awaits s (count + 1)
AwaitsNext m (Over e) count = ⊤
AwaitsNext m Lost count = ⊤

-- ---- what a call does

module _ {S : Type 0} (m : Ghosts S) where
  -- a line is given: the machine makes its step, and what it prints waits behind what waited
  pub record TakesLine (x y : SessionState S) (line : List ℕ) : Type 0 where
    pub state : S
    pub went_on : x.stage ≡ Going state
    pub clean : HasNoLf line
    pub next : Next S
    pub text : List ℕ
    pub step : Transition m state (x.count + 1) line next text
    pub stands : y.stage ≡ stage_of next
    pub waits : y.pending ≡ x.pending ++ text
    pub counts : y.count ≡ x.count + 1

  -- the end of the lines is given: the machine closes, and what it prints waits behind what waited
  pub record TakesEnd (x y : SessionState S) : Type 0 where
    pub state : S
    pub went_on : x.stage ≡ Going state
    pub end : End
    pub text : List ℕ
    pub closes : m.closes state x.count end text
    pub is_over : y.stage ≡ Over end
    pub waits : y.pending ≡ x.pending ++ text
    pub counts : y.count ≡ x.count

-- these bytes are taken of what waits, and nothing else changes
pub record GivesOut {S : Type 0} (x y : SessionState S) (bytes : List ℕ) : Type 0 where
  pub moved : x.pending ≡ bytes ++ y.pending
  pub stays : y.stage ≡ x.stage
  pub counts : y.count ≡ x.count

-- ---- calls one after the other

-- a call: a line, the end of the lines, or bytes that were taken
pub data Call : Type 0 where
  Line : (line : List ℕ) → Call
  Finish : Call
  Take : (bytes : List ℕ) → Call

module _ {S : Type 0} (m : Ghosts S) where
  -- what a call does
  abbrev pub Does : Call → SessionState S → SessionState S → Type 0
  Does (Line line) x y = TakesLine m x y line
  Does Finish x y = TakesEnd m x y
  Does (Take bytes) x y = GivesOut x y bytes

  -- these calls, the latest first, lead here from a machine's first state
  abbrev pub LeadTo : S → List Call → SessionState S → Type 0
  LeadTo first [] z = z ≡ session_first first
  LeadTo first (call ∷ calls) z = (y : SessionState S) × LeadTo first calls y × Does call y z

-- the lines of calls, the latest call first, in the order in which they were given
abbrev pub lines_of : List Call → List (List ℕ)
lines_of [] = []
lines_of (Line line ∷ calls) = lines_of calls ++ line ∷ []
lines_of (Finish ∷ calls) = lines_of calls
lines_of (Take bytes ∷ calls) = lines_of calls

-- the bytes that were taken, in the order in which they were
abbrev pub taken_of : List Call → List ℕ
taken_of [] = []
taken_of (Line line ∷ calls) = taken_of calls
taken_of (Finish ∷ calls) = taken_of calls
taken_of (Take bytes ∷ calls) = taken_of calls ++ bytes
