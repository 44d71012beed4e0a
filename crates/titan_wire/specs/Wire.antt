-- What calls of sources and sinks do to the bytes that they tell and to their counts of faults.
use Rattle.std.specs.Prelude.{◌≡◌, ℕ, ◌+◌, ◌-◌, ◌^◌, ◌≤◌, min, List, length, Option, None, Some, Result, Ok, Err, OnOk, OnErr, ⊤}
use Rattle.std.specs.Option.{option_map}
use Rattle.titan_wire.specs.declared.wire.PutEnd.{PutEnd}
use Rattle.titan_wire.specs.declared.wire.PutEnd.TheVariants.{Done, WriteFault}

-- a count after one more, which stays at its last value
abbrev pub counted : ℕ → ℕ
counted n = min (n + 1) (2 ^ 64 - 1)

-- a count of faults is greater than before, or stands at its last value
abbrev pub Rose : ℕ → ℕ → Type 0
Rose before now = min (before + 1) (2 ^ 64 - 1) ≤ now

-- a count of faults never falls; an `Err` comes only where it rose, and else it stays
pub record HasCause {T E : Type 0} (before now : ℕ) (result : Result T E) : Type 0 where
  pub later : before ≤ now
  pub failed : OnErr result (Rose before now)
  pub stays : OnOk result (now ≡ before)

-- the count of faults after a call, which rises by one exactly where the call fails
abbrev pub faults_after : {T E : Type 0} → ℕ → Result T E → ℕ
faults_after before (Ok _) = before
faults_after before (Err _) = counted before

-- a space that is known is at least n
abbrev pub HasRoom : Option ℕ → ℕ → Type 0
HasRoom None n = ⊤
HasRoom (Some space) n = n ≤ space

-- a space that is known, after n bytes went out
abbrev pub less_space : Option ℕ → ℕ → Option ℕ
less_space space n = option_map (λ s. s - n) space

-- how many bytes of the piece went out
abbrev pub sent_of : PutEnd → List ℕ → ℕ
sent_of Done piece = length piece
sent_of (WriteFault sent) piece = sent
