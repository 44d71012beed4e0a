-- What is to be printed, in a buffer that the caller keeps.
use Rattle.std.specs.Prelude.{◌≡◌, ◌+◌, ◌≤◌, ℕ, List, ◌++◌, length, Result, IsOk, OnOk}

-- the bytes of a buffer, and how many it has room for
pub record Buffered : Type 0 where
  pub bytes : List ℕ
  pub capacity : ℕ

-- so many more bytes fit
abbrev pub HasRoomLeft : Buffered → ℕ → Type 0
HasRoomLeft out n = length out.bytes + n ≤ out.capacity

-- a text of this kind was appended, and what stood there before is its front
pub record Appended (Is : List ℕ → Type 0) (old new : Buffered) : Type 0 where
  pub text : List ℕ
  pub is : Is text
  pub behind : new.bytes ≡ old.bytes ++ text

-- something was appended, or nothing
abbrev pub IsFront : Buffered → Buffered → Type 0
IsFront old new = (text : List ℕ) × (new.bytes ≡ old.bytes ++ text)

-- a text is pushed: where the result is Ok it was appended, and whatever the result is, what stood there before is its front. Where the text fits, the result is Ok and the capacity
-- is as before; the capacity never shrinks
pub record Pushes {A E : Type 0} (text : List ℕ) (old : Buffered) (result : Result A E) (new : Buffered) : Type 0 where
  pub ok : OnOk result (new.bytes ≡ old.bytes ++ text)
  pub front : IsFront old new
  pub succeeds : HasRoomLeft old (length text) → IsOk result
  pub stays : HasRoomLeft old (length text) → new.capacity ≡ old.capacity
  pub capacity : old.capacity ≤ new.capacity
