-- Where memory ran out.
use Rattle.std.specs.Prelude.{◌≡◌, ℕ, ◌≤◌, List, ◌++◌, length, Option}
use Rattle.std.specs.Io.KnownBytes.{prepend_known}
use Rattle.line_machine.specs.declared.buffer.TheConstants.{TAKE}

-- of the bytes that were taken, those before the last read, which brought at most so many as are asked for at a time, are none of this kind
pub record BeforeLastRead (Is : List ℕ → Type 0) (left left' : Option (List ℕ)) : Type 0 where
  pub before : List ℕ
  pub last : List ℕ
  pub moved : left ≡ prepend_known (before ++ last) left'
  pub few : length last ≤ TAKE
  pub none : Is before → ⊥
