-- What the driver takes of a source, hands to a sink, and answers.
use Rattle.std.specs.Prelude.{◌≡◌, ◌⊎◌, ℕ, List, ◌++◌, length, Option, Result, Ok, Err}
use Rattle.std.specs.Io.KnownBytes.{prepend_known, append_known, IsAtEnd}
use Rattle.titan_wire.specs.Wire.{HasRoom}
use Rattle.line_machine.specs.Next.{Next, GoesOn, Stops}
use Rattle.line_machine.specs.Lines.{lines_in, all_lines}
use Rattle.line_machine.specs.Runs.{Runs, IsSure, IsText}
use Rattle.line_machine.specs.Sent.{SentFront}
use Rattle.line_machine.specs.declared.machine.End.{End}
use Rattle.line_machine.specs.declared.machine.Machine.{Ghosts}
use Rattle.line_machine.specs.declared.send.Cut.{Cut}
use Rattle.line_machine.specs.declared.send.Cut.TheVariants.{ReadFault, WriteFault, Memory}

-- ---- all texts

-- what a machine may print while it has taken some bytes: what some first ones of them decide; and where no more come, what all lines lead to, and the whole text
pub data Prints {S : Type 0} (m : Ghosts S) (first : S) (taken : List ℕ) (left : Option (List ℕ)) (text : List ℕ) : Type 0 where
  BySure : (some more : List ℕ) (t : Next S) → some ++ more ≡ taken → IsSure m first some t text → Prints m first taken left text
  ByLines : (t : Next S) → IsAtEnd left → Runs m (GoesOn first) 0 (all_lines (lines_in taken)) t text → Prints m first taken left text
  ByText : (e : End) → IsAtEnd left → IsText m first taken e text → Prints m first taken left text

-- all that may be printed fits, where the space is known
abbrev pub HasRoomFor : {S : Type 0} → Ghosts S → S → Option (List ℕ) → Option ℕ → Type 0
HasRoomFor m first left space = (taken text : List ℕ) (after : Option (List ℕ)) → left ≡ prepend_known taken after → Prints m first taken after text → HasRoom space (length text)

-- how the program ended: at the end of the input or behind a line, with the whole text
pub record WroteWhole {S : Type 0} (m : Ghosts S) (first : S) (taken : List ℕ) (left out out' : Option (List ℕ)) (e : End) : Type 0 where
  pub text : List ℕ
  pub written : out' ≡ append_known out text
  pub whole : (IsText m first taken e text × IsAtEnd left) ⊎ IsSure m first taken (Stops e) text

-- at a fault of the source all went out that the taken bytes decide, and that isn't the end
pub record WroteSure {S : Type 0} (m : Ghosts S) (first : S) (taken : List ℕ) (out out' : Option (List ℕ)) : Type 0 where
  pub state : S
  pub text : List ℕ
  pub sure : IsSure m first taken (GoesOn state) text
  pub written : out' ≡ append_known out text

-- by the answer: what was written, for the bytes that were taken
abbrev pub OutputBy : {S : Type 0} → Ghosts S → S → List ℕ → Option (List ℕ) → Option (List ℕ) → Option (List ℕ) → Result End Cut → Type 0
OutputBy m first taken left out out' (Ok e) = WroteWhole m first taken left out out' e
OutputBy m first taken left out out' (Err ReadFault) = WroteSure m first taken out out'
OutputBy m first taken left out out' (Err WriteFault) = SentFront (Prints m first taken left) out out'
OutputBy m first taken left out out' (Err Memory) = SentFront (Prints m first taken left) out out'

-- the bytes that were taken of the source, and what the machine says of them
pub record Driven {S : Type 0} (m : Ghosts S) (first : S) (left left' out out' : Option (List ℕ)) (result : Result End Cut) : Type 0 where
  pub taken : List ℕ
  pub moved : left ≡ prepend_known taken left'
  pub says : OutputBy m first taken left' out out' result
