-- A call of a source, beside what the sink had got by then.
use Rattle.std.specs.Prelude.{◌≡◌, ⊤, ◌⊎◌, ℕ, ◌≤◌, List, [], ◌∷◌, ◌++◌, length, take, Option, None, Result, Ok, Err}
use Rattle.std.specs.Option.{option_map}
use Rattle.line_machine.specs.declared.buffer.TheConstants.{TAKE}

-- the bytes that a call brought, and those that had been written when it was made, where they are known
pub record Call : Type 0 where
  pub came : List ℕ
  pub written : Option (List ℕ)

-- the call with this result, whose bytes stand at the buffer's front
abbrev pub call_of : {E : Type 0} → Result ℕ E → List ℕ → Option (List ℕ) → Call
call_of (Ok n) buf written = record { came = take n buf; written = written }
call_of (Err _) buf written = record { came = []; written = written }

-- known calls, and then these
abbrev pub with_calls : Option (List Call) → List Call → Option (List Call)
with_calls known calls = option_map (λ xs. xs ++ calls) known

-- these calls were noted behind the known ones, or no call is known any more
abbrev pub Notes : Option (List Call) → Option (List Call) → List Call → Type 0
Notes known known' calls = (known' ≡ None) ⊎ (known' ≡ with_calls known calls)

-- what the calls brought
abbrev pub bytes_of : List Call → List ℕ
bytes_of [] = []
bytes_of (call ∷ calls) = call.came ++ bytes_of calls

-- each call brought something
abbrev pub AllCame : List Call → Type 0
AllCame [] = ⊤
AllCame (call ∷ calls) = (call.came ≡ [] → ⊥) × AllCame calls

-- each call brought at most so much as is asked for at a time
abbrev pub AreReads : List Call → Type 0
AreReads [] = ⊤
AreReads (call ∷ calls) = (length call.came ≤ TAKE) × AreReads calls
