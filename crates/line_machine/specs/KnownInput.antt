-- What was written over a source whose bytes are known.
use Rattle.std.specs.Prelude.{◌≡◌, ⊤, ℕ, List, [], ◌∷◌, Option, None, Some, Result, Ok, Err}
use Rattle.std.specs.Io.KnownBytes.{append_known}
use Rattle.line_machine.specs.Next.{Next}
use Rattle.line_machine.specs.Runs.{IsSure, IsText, IsPrefix}
use Rattle.line_machine.specs.Driven.{Driven}
use Rattle.line_machine.specs.declared.machine.End.{End}
use Rattle.line_machine.specs.declared.machine.Machine.{Ghosts}
use Rattle.line_machine.specs.declared.send.Cut.{Cut}

-- a front of a text went out
pub record WroteFront (text : List ℕ) (out out' : Option (List ℕ)) : Type 0 where
  pub front : List ℕ
  pub begins : IsPrefix front text
  pub written : out' ≡ append_known out front

-- a text of the input with this end went out whole
pub record WroteText {S : Type 0} (m : Ghosts S) (first : S) (input : List ℕ) (out out' : Option (List ℕ)) (e : End) : Type 0 where
  pub text : List ℕ
  pub is : IsText m first input e text
  pub written : out' ≡ append_known out text

-- by the answer: the whole text, or a front of each text of the input
abbrev pub OutputFor : {S : Type 0} → Ghosts S → S → List ℕ → Option (List ℕ) → Option (List ℕ) → Result End Cut → Type 0
OutputFor m first input out out' (Ok e) = WroteText m first input out out' e
OutputFor m first input out out' (Err c) = (e : End) (text : List ℕ) → IsText m first input e text → WroteFront text out out'

-- it is known that bytes are left
abbrev pub HasMore : Option (List ℕ) → Type 0
HasMore None = ⊥
HasMore (Some []) = ⊥
HasMore (Some (b ∷ bytes)) = ⊤

-- what was taken, and where bytes are left, a front of what the taken bytes decide
pub record Streamed {S : Type 0} (m : Ghosts S) (first : S) (left left' out out' : Option (List ℕ)) (result : Result End Cut) : Type 0 where
  pub driven : Driven m first left left' out out' result
  pub sure : HasMore left' → (t : Next S) (text : List ℕ) → IsSure m first driven.taken t text → WroteFront text out out'
