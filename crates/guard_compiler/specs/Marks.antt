-- Marks that are set one after the other.
use Rattle.std.specs.Prelude.{◌≡◌, ℕ, Bool, List, length}
use Rattle.cca_base.specs.Flags.{IsSet}

-- the marks that were set still are
pub record SetsMore (old new : List Bool) : Type 0 where
  pub full : length new ≡ length old
  pub kept : (u : ℕ) → IsSet old u → IsSet new u
