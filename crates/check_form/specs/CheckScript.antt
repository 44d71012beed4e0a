-- The script of an input for `check`: the events of its lines, up to the line `trace`.
use Rattle.std.specs.Prelude.{◌≡◌, ℕ, ◌+◌, Bool, true, false, List, [], ◌∷◌, ◌++◌, codes, Option, Some, None, Result, Ok, Err}
use Rattle.cca_base.specs.declared.codes.TheConstants.{ENDS_EARLY}
use Rattle.cca_base.specs.declared.cube.Pair.{Pair}
use Rattle.cca_base.specs.declared.events.Event.{Event}
use Rattle.cca_base.specs.declared.events.Refusal.{Refusal}
use Rattle.cca_base.specs.PlantModel.{PlantModel}
use Rattle.cca_base.specs.Refusals.{bare}
use Rattle.script_reader.specs.EventLines.{event_line}
use Rattle.text_base.specs.Lexemes.{is_lexeme, lexeme, word}
use Rattle.text_base.specs.Tokens.{Tok, tokens_of}
use Rattle.trace_laws.specs.Events.{PendingAfter, mirrored_after}
use Rattle.model_form.specs.Limits.{line_code}

-- what was read of a script: its events, and what they leave pending and mirrored
pub record ScriptSoFar : Type 0 where
  pub events : List Event
  pub pending : List Pair
  pub mirrored : ℕ

-- what was read of a script before its first line: nothing
abbrev pub no_events : ScriptSoFar
no_events = record { events = []; pending = []; mirrored = 0 }

-- there is one token, and it is this word
abbrev pub is_word_alone : List ℕ → Result (List Tok) ℕ → Bool
is_word_alone text (Err at) = false
is_word_alone text (Ok []) = false
is_word_alone text (Ok (t ∷ [])) = is_lexeme (word text) (lexeme t)
is_word_alone text (Ok (t ∷ u ∷ ts)) = false

-- the only token of the line is the word `trace`
unfoldable pub is_trace_line : List ℕ → Bool
is_trace_line line = is_word_alone (codes "trace") (tokens_of line)

-- what a line of a script makes: more of the script, its end, or a refusal
pub data ScriptOutcome : Type 0 where
  Reads : (script : ScriptSoFar) → ScriptOutcome
  Ends : ScriptOutcome
  Refuses : (code : ℕ) → ScriptOutcome

-- the script with one event more, and what is pending and mirrored behind it
abbrev pub with_event : ScriptSoFar → Event → List Pair → ScriptSoFar
with_event s e after = record { events = s.events ++ e ∷ []; pending = after; mirrored = mirrored_after s.mirrored e }

-- what an event line makes of a script
abbrev pub EventLeads : Result (Option Event) ℕ → ScriptSoFar → ScriptOutcome → Type 0
EventLeads (Err code) s o = o ≡ Refuses code
EventLeads (Ok None) s o = o ≡ Reads s
EventLeads (Ok (Some e)) s o = (after : List Pair) × PendingAfter s.pending e after × (o ≡ Reads (with_event s e after))

-- the line `trace` comes before all that an event line may say
abbrev pub LeadsUnless : Bool → Result (Option Event) ℕ → ScriptSoFar → ScriptOutcome → Type 0
LeadsUnless true said s o = o ≡ Ends
LeadsUnless false said s o = EventLeads said s o

-- what a line of a script makes
abbrev pub ScriptLeads : PlantModel → ScriptSoFar → List ℕ → ScriptOutcome → Type 0
ScriptLeads m s l o = LeadsUnless (is_trace_line l) (event_line m s.pending s.mirrored l) s o

-- how a script ends: with the line `trace`, which is of this number, before the lines of the trace; or at a line that is refused
pub data ScriptText : Type 0 where
  Traced : (events : List Event) → (line : ℕ) → (rest : List (List ℕ)) → ScriptText
  RefusedScript : (line : ℕ) → (refusal : Refusal) → ScriptText

-- where a line of the script leads, whose length and number come before all that it says
abbrev pub LeadsByCode : Option ℕ → PlantModel → ScriptSoFar → List ℕ → ScriptOutcome → Type 0
LeadsByCode (Some code) m s l o = o ≡ Refuses code
LeadsByCode None m s l o = ScriptLeads m s l o

-- what follows a line of the script: more lines of it, its trace, or a refusal
abbrev pub After : ScriptOutcome → (ScriptSoFar → Type 0) → Type 0 → (ℕ → Type 0) → Type 0
After (Reads script) goes_on trace refused = goes_on script
After Ends goes_on trace refused = trace
After (Refuses code) goes_on trace refused = refused code

-- the lines that stand behind n lines of an input, behind a part of its script, end the script so; it has to end before the input does
abbrev pub ReadsScript : PlantModel → ScriptSoFar → ℕ → List (List ℕ) → ScriptText → Type 0
ReadsScript m s n [] end = end ≡ RefusedScript n (bare ENDS_EARLY)
ReadsScript m s n (l ∷ ls) end = (o : ScriptOutcome) × LeadsByCode (line_code (n + 1) l) m s l o
    × After o (λ t. ReadsScript m t (n + 1) ls end) (end ≡ Traced s.events (n + 1) ls) (λ code. end ≡ RefusedScript (n + 1) (bare code))
