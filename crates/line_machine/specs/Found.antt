-- What a buffer finds at its front.
use Rattle.std.specs.Prelude.{◌≡◌, ⊤, ◌⊎◌, ℕ, ◌<◌, ◌≤◌, List, [], ◌∷◌, ◌++◌, length, Option, Result, Ok, Err}
use Rattle.std.specs.Io.KnownBytes.{prepend_known, IsAtEnd}
use Rattle.line_machine.specs.Lines.{HasNoLf, HasLine}
use Rattle.line_machine.specs.Call.{Call, bytes_of, Notes, AllCame, AreReads}
use Rattle.line_machine.specs.declared.buffer.FillStop.{FillStop}
use Rattle.line_machine.specs.declared.buffer.FillStop.TheVariants.{Fault, Memory}
use Rattle.line_machine.specs.declared.buffer.Found.{Found}
use Rattle.line_machine.specs.declared.buffer.Found.TheVariants.{Line, Long, Last}

-- no whole line is held, and not more than the limit
pub record IsShort (limit : ℕ) (held : List ℕ) : Type 0 where
  pub no_line : HasNoLf held
  pub short : length held ≤ limit

-- what was found
abbrev pub IsFound : Found → ℕ → List ℕ → Option (List ℕ) → Type 0
IsFound (Line len) limit held left = HasLine held len
IsFound Long limit held left = HasNoLf held × (limit < length held)
IsFound Last limit held left = IsShort limit held × IsAtEnd left

-- ---- how the source was asked

-- by the answer: one call that brought so many bytes, one that failed and brought none, or no call
abbrev pub Fills : Option (List ℕ) → List ℕ → List ℕ → Option (List ℕ) → Option (List ℕ) → Option (List Call) → Option (List Call) → Result ℕ FillStop → Type 0
Fills written old new left left' calls calls' (Ok n) = (came : List ℕ) × (length came ≡ n) × AreReads (record { came = came; written = written } ∷ []) × (new ≡ old ++ came) × (left ≡ prepend_known came left') × Notes calls calls' (record { came = came; written = written } ∷ [])
Fills written old new left left' calls calls' (Err Fault) = (new ≡ old) × (left' ≡ left) × Notes calls calls' (record { came = []; written = written } ∷ [])
Fills written old new left left' calls calls' (Err Memory) = (new ≡ old) × (left' ≡ left) × (calls' ≡ calls)

-- at each call no whole line was held, and not more than the limit, and these bytes had been written; after one that brought nothing there is no other
abbrev pub Waits : ℕ → Option (List ℕ) → List ℕ → List Call → Type 0
Waits limit written held [] = ⊤
Waits limit written held (call ∷ calls) = IsShort limit held × (call.written ≡ written) × (call.came ≡ [] → calls ≡ []) × Waits limit written (held ++ call.came) calls

-- the calls that were made, and that what they brought stands behind what was held; the last may have brought nothing only if it's over
pub record Came (over : Type 0) (limit : ℕ) (written : Option (List ℕ)) (old new : List ℕ) (left left' : Option (List ℕ)) (calls calls' : Option (List Call)) : Type 0 where
  pub asked : List Call
  pub held : new ≡ old ++ bytes_of asked
  pub moved : left ≡ prepend_known (bytes_of asked) left'
  pub noted : Notes calls calls' asked
  pub waits : Waits limit written old asked
  pub reads : AreReads asked
  pub live : AllCame asked ⊎ over

-- the source is asked no more
abbrev pub IsOver : Result Found FillStop → Type 0
IsOver (Ok (Line _)) = ⊥
IsOver (Ok Long) = ⊥
IsOver (Ok Last) = ⊤
IsOver (Err _) = ⊤
