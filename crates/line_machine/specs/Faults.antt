-- How an answer of the driver and the counts of faults go together.
use Rattle.std.specs.Prelude.{◌≡◌, ℕ, Result, IfErr, IsErrOf}
use Rattle.titan_wire.specs.Wire.{Rose}
use Rattle.line_machine.specs.declared.machine.End.{End}
use Rattle.line_machine.specs.declared.send.Cut.{Cut}
use Rattle.line_machine.specs.declared.send.Cut.TheVariants.{ReadFault, WriteFault, Memory}

-- each fault has its cause, and none is passed over; where no count rose, it comes to the end, or memory ran out
pub record AnswersFaults (reads reads' writes writes' : ℕ) (result : Result End Cut) : Type 0 where
  pub read : IsErrOf result ReadFault → Rose reads reads'
  pub write : IsErrOf result WriteFault → Rose writes writes'
  pub quiet_read : (IsErrOf result ReadFault → ⊥) → reads' ≡ reads
  pub quiet_write : (IsErrOf result WriteFault → ⊥) → writes' ≡ writes
  pub complete : (Rose reads reads' → ⊥) → (Rose writes writes' → ⊥) → IfErr result (λ c. c ≡ Memory)
