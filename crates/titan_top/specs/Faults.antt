-- What a status says of faults.
use Rattle.std.specs.Prelude.{◌≡◌, ℕ}
use Rattle.titan_wire.specs.Wire.{Rose}
use Rattle.titan_top.specs.declared.status.Status.{Status}
use Rattle.titan_top.specs.declared.status.Status.TheVariants.{ReadFault, WriteFault}

-- a read that fails comes out as ReadFault, and a write that fails as WriteFault; by any other status none failed
pub record TellsFaults (reads reads' writes writes' : ℕ) (status : Status) : Type 0 where
  pub read : status ≡ ReadFault → Rose reads reads'
  pub write : status ≡ WriteFault → Rose writes writes'
  pub quiet_read : (status ≡ ReadFault → ⊥) → reads' ≡ reads
  pub quiet_write : (status ≡ WriteFault → ⊥) → writes' ≡ writes
