-- A call that takes no memory.
use Rattle.std.specs.Prelude.{◌≡◌, Result, IsOk}
use Rattle.byte_buffer.specs.Outs.{Buffered}

-- a call over this buffer succeeded, and took no memory for it
pub record TookNone {A E : Type 0} (old : Buffered) (result : Result A E) (new : Buffered) : Type 0 where
  pub ok : IsOk result
  pub capacity : new.capacity ≡ old.capacity
