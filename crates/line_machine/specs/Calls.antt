-- The calls of a source, as the driver makes them one after the other.
use Rattle.std.specs.Prelude.{◌≡◌, ⊤, ℕ, List, [], ◌∷◌, ◌++◌, Option, Result, IsErrOf}
use Rattle.std.specs.Io.KnownBytes.{prepend_known}
use Rattle.line_machine.specs.Driven.{WroteSure, Driven}
use Rattle.line_machine.specs.Call.{Call, bytes_of, Notes, AreReads}
use Rattle.line_machine.specs.Next.{GoesOn}
use Rattle.line_machine.specs.Runs.{IsSure}
use Rattle.line_machine.specs.declared.driver.TheConstants.{OUT_ROOM}
use Rattle.line_machine.specs.declared.machine.End.{End}
use Rattle.line_machine.specs.declared.machine.Machine.{Ghosts}
use Rattle.line_machine.specs.declared.send.Cut.{Cut}
use Rattle.line_machine.specs.declared.send.Cut.TheVariants.{Memory}

-- at each call all that the bytes so far decide had been written, and it was no end; after a call that brought nothing there is no other
abbrev pub InTurn : {S : Type 0} → Ghosts S → S → Option (List ℕ) → List ℕ → List Call → Type 0
InTurn m first out taken [] = ⊤
InTurn m first out taken (call ∷ calls) = WroteSure m first taken out call.written × (call.came ≡ [] → calls ≡ []) × InTurn m first out (taken ++ call.came) calls

-- the source was asked in turn, for so much at a time, and its calls brought what was taken of it
pub record AsksInTurn {S : Type 0} (m : Ghosts S) (first : S) (left left' out : Option (List ℕ)) (calls calls' : Option (List Call)) : Type 0 where
  pub asked : List Call
  pub noted : Notes calls calls' asked
  pub moved : left ≡ prepend_known (bytes_of asked) left'
  pub turns : InTurn m first out [] asked
  pub reads : AreReads asked

-- memory ran out only behind calls of which those before the last led to no state from which no line takes memory
abbrev pub RanOut : {S : Type 0} → Ghosts S → S → List Call → Type 0
RanOut {S} m first asked = (before : List Call) (last : Call) → asked ≡ before ++ last ∷ [] → (x : S) (text : List ℕ) → IsSure m first (bytes_of before) (GoesOn x) text → m.steady x OUT_ROOM → ⊥

-- what the driver did, that it asked in turn, that what came is what it took, and when memory can run out
pub record DrivenInTurn {S : Type 0} (m : Ghosts S) (first : S) (left left' out out' : Option (List ℕ)) (calls calls' : Option (List Call)) (result : Result End Cut) : Type 0 where
  pub driven : Driven m first left left' out out' result
  pub order : AsksInTurn m first left left' out calls calls'
  pub came : driven.taken ≡ bytes_of order.asked
  pub memory : IsErrOf result Memory → RanOut m first order.asked
