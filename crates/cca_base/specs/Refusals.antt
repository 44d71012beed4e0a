-- Refusals by a code alone, and the codes of what stopped a reader.
use Rattle.std.specs.Prelude.{◌≡◌, ℕ, Option, Some, None, Result, Ok, Err}
use Rattle.cca_base.specs.declared.events.Detail.TheVariants.{Nothing}
use Rattle.cca_base.specs.declared.events.Refusal.{Refusal}
use Rattle.cca_base.specs.declared.events.Stop.{Stop}
use Rattle.cca_base.specs.declared.events.Stop.TheVariants as stops

-- a refusal with a code alone
abbrev pub bare : ℕ → Refusal
bare code = record { code = code; detail = Nothing }

-- the code of a refusal; out of memory has none
abbrev pub stop_code : Stop → Option ℕ
stop_code stops.Memory = None
stop_code (stops.Refused refusal) = Some refusal.code

-- what a call answered is so, or it refused with this code alone; out of memory says nothing
abbrev pub Answers : {X : Type 0} → Result X Stop → (Result X ℕ → Type 0) → Type 0
Answers (Ok x) Is = Is (Ok x)
Answers (Err stops.Memory) Is = Unit {0}
Answers (Err (stops.Refused refusal)) Is = Is (Err refusal.code) × (refusal.detail ≡ Nothing)
