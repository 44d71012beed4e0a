-- What a write that fails, or is not flushed, leaves in a writer.
use Rattle.std.proofs.Common.{ℕ, ◌≤◌, List, ◌++◌, length, take, Option, Some, None, sym, ap, ◌∙◌, append-nil, arith}
use Rattle.std.specs.Io.KnownBytes.{Keeps, Appends}
use Rattle.titan_wire.specs.Front.{AppendsFront}

-- nothing was written
pub kept : (old new : Option (List ℕ)) (piece : List ℕ) → Keeps old new → AppendsFront old new piece
kept None new piece k = (0, omega arith, tt)
kept (Some x) None piece k = absurd k
kept (Some x) (Some y) piece k = (0, omega arith, k ∙ sym (append-nil x))

-- some bytes were written
pub written : (old now new : Option (List ℕ)) (piece : List ℕ) (n : ℕ) → n ≤ length piece → Keeps old now → Appends now new (take n piece) → AppendsFront old new piece
written None now new piece n le k a = (n, le, tt)
written (Some x) None new piece n le k a = absurd k
written (Some x) (Some y) None piece n le k a = absurd a
written (Some x) (Some y) (Some z) piece n le k a = (n, le, a ∙ ap (λ (l : List ℕ). l ++ take n piece) k)

-- some bytes were written, and then nothing
pub written_and_kept : (old now mid new : Option (List ℕ)) (piece : List ℕ) (n : ℕ) → n ≤ length piece → Keeps old now → Appends now mid (take n piece) → Keeps mid new → AppendsFront old new piece
written_and_kept None now mid new piece n le k a f = (n, le, tt)
written_and_kept (Some x) None mid new piece n le k a f = absurd k
written_and_kept (Some x) (Some y) None new piece n le k a f = absurd a
written_and_kept (Some x) (Some y) (Some z) None piece n le k a f = absurd f
written_and_kept (Some x) (Some y) (Some z) (Some w) piece n le k a f = (n, le, f ∙ a ∙ ap (λ (l : List ℕ). l ++ take n piece) k)
