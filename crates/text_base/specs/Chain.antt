-- Reading one thing after the other.
use Rattle.std.specs.Prelude.{Option, Some, None}

infixl 10 ◌>>=◌
-- reading goes on where something was read
abbrev pub ◌>>=◌ : {A B : Type 0} → Option A → (A → Option B) → Option B
(Some x) >>= f = f x
None >>= f = None
