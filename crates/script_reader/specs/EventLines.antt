-- What a line of a script says.
use Rattle.std.specs.Prelude.{◌≡◌, ℕ, Bool, true, false, List, [], ◌∷◌, map, Option, Some, None, Result, Ok, Err, IfOk, IfSome}
use Rattle.cca_base.specs.declared.codes.TheConstants.{MALFORMED, NAME_UNKNOWN}
use Rattle.cca_base.specs.declared.cube.Pair.{Pair}
use Rattle.cca_base.specs.declared.events.Detail.TheVariants.{Nothing}
use Rattle.cca_base.specs.declared.events.Event.{Event}
use Rattle.cca_base.specs.declared.events.Event.TheVariants as event
use Rattle.cca_base.specs.declared.events.Stop.{Stop}
use Rattle.cca_base.specs.declared.events.Stop.TheVariants as stops
use Rattle.cca_base.specs.PlantModel.{PlantModel}
use Rattle.cca_base.specs.Trace.{MayCome}
use Rattle.text_base.specs.Tokens.{Tok, tokens_of}
use Rattle.text_base.specs.Lexemes.{lexeme}
use Rattle.script_reader.specs.Items.{Item, Goal, Clear, Observe, Fault, Mirror, Reset, Tick, item_of}
use Rattle.script_reader.specs.Named.{variable_of, stands_for, each_pair}
use Rattle.script_reader.specs.declared.named.Naming.TheVariants.{Modes, Values}
use Rattle.script_reader.specs.EventCodes.{goal_code, observe_code, mirror_code}

-- this, unless a code applies
abbrev pub unless : {X : Type 0} → Option ℕ → X → Result X ℕ
unless None x = Ok x
unless (Some code) x = Err code

-- what is named, where it is known, as an event, unless a code applies
abbrev pub named_event : {X : Type 0} → (X → Event) → (X → Option ℕ) → Option X → Result Event ℕ
named_event event code None = Err NAME_UNKNOWN
named_event event code (Some x) = unless (code x) (event x)

-- the event that an item asks for, or the least code that applies to it
abbrev pub event_of : PlantModel → List Pair → ℕ → Item → Result Event ℕ
event_of m pending mirrored (Goal pairs) = named_event event.Goal (goal_code m) (each_pair (stands_for Modes m) pairs)
event_of m pending mirrored Clear = Ok event.Clear
event_of m pending mirrored (Observe pairs) = named_event event.Observe (observe_code m pending mirrored) (each_pair (stands_for Values m) pairs)
event_of m pending mirrored (Fault pair) = named_event event.Fault (λ p. None) (stands_for Modes m pair)
event_of m pending mirrored (Mirror name) = named_event event.Mirror (mirror_code m pending mirrored) (variable_of m name)
event_of m pending mirrored Reset = Ok event.Reset
event_of m pending mirrored Tick = Ok event.Tick

-- the event of an item, where goals are set and cleared by no line
abbrev pub event_here : PlantModel → List Pair → ℕ → Item → Result Event ℕ
event_here m pending mirrored (Goal pairs) = Err MALFORMED
event_here m pending mirrored Clear = Err MALFORMED
event_here m pending mirrored (Observe pairs) = event_of m pending mirrored (Observe pairs)
event_here m pending mirrored (Fault pair) = event_of m pending mirrored (Fault pair)
event_here m pending mirrored (Mirror name) = event_of m pending mirrored (Mirror name)
event_here m pending mirrored Reset = event_of m pending mirrored Reset
event_here m pending mirrored Tick = event_of m pending mirrored Tick

-- the event of an item, by whether lines set and clear goals
abbrev pub event_by : Bool → PlantModel → List Pair → ℕ → Item → Result Event ℕ
event_by true = event_of
event_by false = event_here

-- what a line says that has an event
abbrev pub as_event : Result Event ℕ → Result (Option Event) ℕ
as_event (Ok e) = Ok (Some e)
as_event (Err code) = Err code

-- a line of no form is malformed
abbrev pub by_form : (Item → Result Event ℕ) → Option Item → Result (Option Event) ℕ
by_form says None = Err MALFORMED
by_form says (Some item) = as_event (says item)

-- a line with a bad byte is malformed, and one without tokens says nothing
abbrev pub by_tokens : (Item → Result Event ℕ) → Result (List Tok) ℕ → Result (Option Event) ℕ
by_tokens says (Err at) = Err MALFORMED
by_tokens says (Ok []) = Ok None
by_tokens says (Ok (t ∷ ts)) = by_form says (item_of (map lexeme (t ∷ ts)))

-- what a line says, with these pending observations and these mirrored variables: an event, or none where it has no tokens; or the code of its refusal
unfoldable pub event_line : PlantModel → List Pair → ℕ → List ℕ → Result (Option Event) ℕ
event_line m pending mirrored line = by_tokens (event_of m pending mirrored) (tokens_of line)

-- what a call answered is this, or a refusal with this code alone; out of memory says nothing
abbrev pub AnswersAs : {X : Type 0} → Result X Stop → Result X ℕ → Type 0
AnswersAs (Ok x) said = said ≡ Ok x
AnswersAs (Err stops.Memory) said = Unit {0}
AnswersAs (Err (stops.Refused refusal)) said = (said ≡ Err refusal.code) × (refusal.detail ≡ Nothing)

-- the event that a call answered, if it answered one, may come
abbrev pub AnswersWhatMayCome : PlantModel → List Pair → ℕ → Result (Option Event) Stop → Type 0
AnswersWhatMayCome m pending mirrored answer = IfOk answer (λ event. IfSome event (MayCome m pending mirrored))
