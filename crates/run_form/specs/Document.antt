-- What the bytes of an input say: a model, the events of a script, and how the input ends.
use Rattle.std.specs.Prelude.{◌≡◌, ℕ, ◌+◌, List, [], ◌∷◌, Option, Some, None, Result, Ok, Err}
use Rattle.cca_base.specs.declared.cube.Pair.{Pair}
use Rattle.cca_base.specs.declared.events.Event.{Event}
use Rattle.cca_base.specs.declared.events.Refusal.{Refusal}
use Rattle.cca_base.specs.PlantModel.{PlantModel}
use Rattle.cca_base.specs.Refusals.{bare}
use Rattle.script_reader.specs.EventLines.{event_line}
use Rattle.trace_laws.specs.Events.{PendingAfter, mirrored_after}
use Rattle.model_form.specs.Acceptance.{Acceptance, AcceptedAs, RefusedFor, IsAcceptanceOf}
use Rattle.model_form.specs.Limits.{line_code, unless_long}
use Rattle.model_form.specs.ModelTexts.{ModelText, WholeModel, RefusedModel, EndsModel}

-- how an input ends: at its end, or at the first line that is refused
pub data DocumentEnd : Type 0 where
  Complete : DocumentEnd
  RefusedAt : (line : ℕ) → (refusal : Refusal) → DocumentEnd

-- what an input says: the model and the events of its lines, up to where it ends
pub record Document : Type 0 where
  pub model : PlantModel
  pub events : List Event
  pub ending : DocumentEnd

-- what a refused line leaves: no event behind it, and the refusal
abbrev pub refused_at : PlantModel → ℕ → Refusal → Document
refused_at m line refusal = record { model = m; events = []; ending = RefusedAt line refusal }

-- ---- the script

-- an event before what the later lines say
abbrev pub with_event : Event → Document → Document
with_event e r = record r { events = e ∷ r.events }

-- what a line of this number says, with these pending observations and these mirrored variables
abbrev pub line_says : PlantModel → List Pair → ℕ → ℕ → List ℕ → Result (Option Event) ℕ
line_says m pending mirrored n l = unless_long (line_code n l) (event_line m pending mirrored l)

-- a line of the script and the later ones: a refusal ends them, and an event stands before what the later ones say by what is pending and mirrored after it
abbrev pub SaysBy : Result (Option Event) ℕ → PlantModel → List Pair → ℕ → ℕ → (List Pair → ℕ → Document → Type 0) → Document → Type 0
SaysBy (Err code) m pending mirrored n Later r = r ≡ refused_at m n (bare code)
SaysBy (Ok None) m pending mirrored n Later r = Later pending mirrored r
SaysBy (Ok (Some e)) m pending mirrored n Later r =
    (after : List Pair) × (rest : Document) × PendingAfter pending e after × Later after (mirrored_after mirrored e) rest × (r ≡ with_event e rest)

-- what the lines of a script say that stand behind n lines, with these pending observations and these mirrored variables
abbrev pub SaysScript : PlantModel → List Pair → ℕ → ℕ → List (List ℕ) → Document → Type 0
SaysScript m pending mirrored n [] r = r ≡ record { model = m; events = []; ending = Complete }
SaysScript m pending mirrored n (l ∷ ls) r =
    SaysBy (line_says m pending mirrored (n + 1) l) m pending mirrored (n + 1) (λ after mirrors rest. SaysScript m after mirrors (n + 1) ls rest) r

-- ---- whole inputs

-- what the script behind n lines says, where the model is accepted; at first nothing is pending or mirrored
abbrev pub SaysByAcceptance : Acceptance → PlantModel → ℕ → List (List ℕ) → Document → Type 0
SaysByAcceptance (AcceptedAs b) m n ls r = SaysScript m [] 0 n ls r
SaysByAcceptance (RefusedFor refusal) m n ls r = r ≡ refused_at m n refusal

-- what a whole input says, by how its model ends
abbrev pub SaysByEnd : ModelText → Document → Type 0
SaysByEnd (WholeModel m n ls) r = (v : Acceptance) × IsAcceptanceOf m v × SaysByAcceptance v m n ls r
SaysByEnd (RefusedModel m line refusal) r = r ≡ refused_at m line refusal

-- the input says this
abbrev pub IsDocument : List ℕ → Document → Type 0
IsDocument input r = (end : ModelText) × EndsModel input end × SaysByEnd end r

-- nothing of the input is refused
abbrev pub IsReadWhole : List ℕ → Type 0
IsReadWhole input = (r : Document) × IsDocument input r × (r.ending ≡ Complete)

-- a line of the input is refused, and the ones behind it are not read
abbrev pub HasRefusedLine : List ℕ → Type 0
HasRefusedLine input = (r : Document) × IsDocument input r × ((line : ℕ) × (refusal : Refusal) × (r.ending ≡ RefusedAt line refusal))
