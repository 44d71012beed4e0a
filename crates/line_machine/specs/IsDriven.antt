-- What a machine takes and writes, in one record: over every source, in turn, and of the whole input where it is known.
use Rattle.std.specs.Prelude.{◌≡◌, ℕ, List, Option, IfSome, IfOk, Result}
use Rattle.line_machine.specs.Call.{Call}
use Rattle.line_machine.specs.Calls.{DrivenInTurn}
use Rattle.line_machine.specs.KnownInput.{Streamed, OutputFor}
use Rattle.line_machine.specs.Runs.{IsText}
use Rattle.line_machine.specs.declared.machine.End.{End}
use Rattle.line_machine.specs.declared.machine.Machine.{Ghosts}
use Rattle.line_machine.specs.declared.send.Cut.{Cut}

-- an answer without a fault is the end of each text of the input
abbrev pub EndsFor : {S : Type 0} → Ghosts S → S → List ℕ → Result End Cut → Type 0
EndsFor m first input result = (e : End) (text : List ℕ) → IsText m first input e text → IfOk result (λ f. f ≡ e)

-- the machine was driven from this state
pub record IsDriven {S : Type 0} (m : Ghosts S) (first : S) (left left' out out' : Option (List ℕ)) (calls calls' : Option (List Call)) (result : Result End Cut) : Type 0 where
  pub streamed : Streamed m first left left' out out' result
  pub order : DrivenInTurn m first left left' out out' calls calls' result
  pub text : IfSome left (λ input. OutputFor m first input out out' result)
  pub ends : IfSome left (λ input. EndsFor m first input result)
