-- What the lines behind a model say: a control program, and the events behind it.
use Rattle.std.specs.Prelude.{◌≡◌, ℕ, ◌+◌, List, [], ◌∷◌, Option, Some, None, Result, Ok, Err}
use Rattle.cca_base.specs.declared.codes.TheConstants.{ENDS_EARLY}
use Rattle.cca_base.specs.declared.cube.Pair.{Pair}
use Rattle.cca_base.specs.declared.events.Event.{Event}
use Rattle.cca_base.specs.PlantModel.{PlantModel}
use Rattle.control_syntax.specs.Codes.{IsSaid}
use Rattle.control_syntax.specs.Reading.{Reading, led, nothing_read}
use Rattle.control_syntax.specs.declared.line.Line.{Line}
use Rattle.control_syntax.specs.declared.part.Part.{Part}
use Rattle.model_form.specs.Limits.{line_code, unless_long}
use Rattle.model_form.specs.LinesEnds.{LinesEnd, AllRead, RefusedAt}
use Rattle.script_reader.specs.EventLines.{by_tokens, event_here}
use Rattle.text_base.specs.Tokens.{tokens_of}
use Rattle.trace_laws.specs.Events.{PendingAfter, mirrored_after}

-- the program, where it was read whole, the events of the lines behind it, and how the lines end
pub record Sequence : Type 0 where
  pub program : Option Part
  pub events : List Event
  pub ending : LinesEnd

-- an event before what the later lines say
abbrev pub with_event : Event → Sequence → Sequence
with_event e r = record { program = r.program; events = e ∷ r.events; ending = r.ending }

-- ---- events

-- what a line behind a program says, where the program alone sets and clears goals, with these pending observations and these mirrored variables: an event, or none where it has no tokens; or its code
unfoldable pub event_line : PlantModel → List Pair → ℕ → List ℕ → Result (Option Event) ℕ
event_line m pending mirrored line = by_tokens (event_here m pending mirrored) (tokens_of line)

-- what a line behind a program says; its number and its length come first
abbrev pub line_says : PlantModel → List Pair → ℕ → ℕ → List ℕ → Result (Option Event) ℕ
line_says m pending mirrored n l = unless_long (line_code n l) (event_line m pending mirrored l)

module _ (m : PlantModel) (part : Part) where
  -- what lines say that have no event more, and how they end
  abbrev pub ended : LinesEnd → Sequence
  ended ending = record { program = Some part; events = []; ending = ending }

  -- a line behind the program and the later ones: a refusal ends them, and an event stands before what the later ones say by what is pending and mirrored after it
  abbrev pub SaysBy : Result (Option Event) ℕ → List Pair → ℕ → ℕ → (List Pair → ℕ → Sequence → Type 0) → Sequence → Type 0
  SaysBy (Err code) pending mirrored n Later r = r ≡ ended (RefusedAt n code)
  SaysBy (Ok None) pending mirrored n Later r = Later pending mirrored r
  SaysBy (Ok (Some e)) pending mirrored n Later r =
      (after : List Pair) × (rest : Sequence) × PendingAfter pending e after × Later after (mirrored_after mirrored e) rest × (r ≡ with_event e rest)

  -- what the lines behind the program say that stand behind n lines
  abbrev pub SaysEvents : List Pair → ℕ → ℕ → List (List ℕ) → Sequence → Type 0
  SaysEvents pending mirrored n [] r = r ≡ ended AllRead
  SaysEvents pending mirrored n (l ∷ ls) r =
      SaysBy (line_says m pending mirrored (n + 1) l) pending mirrored (n + 1) (λ after mirrors rest. SaysEvents after mirrors (n + 1) ls rest) r

-- ---- the program, and all

-- there is no whole program, and a line is refused
abbrev pub refused_at : ℕ → ℕ → Sequence
refused_at line code = record { program = None; events = []; ending = RefusedAt line code }

module _ (m : PlantModel) where
  -- what a line of the program says: its number and its length come before all that it says
  abbrev pub ReadsLine : Option ℕ → Reading → List ℕ → Result (Option Line) ℕ → Type 0
  ReadsLine (Some code) x l said = said ≡ Err code
  ReadsLine None x l said = IsSaid m x l said

  -- the later lines, by whether the program is whole; at first nothing is pending or mirrored
  abbrev pub SaysNext : Option Part → (Sequence → Type 0) → ℕ → List (List ℕ) → Sequence → Type 0
  SaysNext None Later n ls r = Later r
  SaysNext (Some part) Later n ls r = SaysEvents m part [] 0 n ls r

  -- a line of the program and the later ones: a refusal ends them
  abbrev pub ProgramBy : Result (Option Line) ℕ → Reading → ℕ → List (List ℕ) → (Reading → Sequence → Type 0) → Sequence → Type 0
  ProgramBy (Err code) x n ls Later r = r ≡ refused_at n code
  ProgramBy (Ok said) x n ls Later r = SaysNext (led x said).whole (Later (led x said)) n ls r

  -- what the lines say that stand behind n lines, where so much of the program is read: it ends with its line `end`, before which the input may not end
  abbrev pub SaysProgram : Reading → ℕ → List (List ℕ) → Sequence → Type 0
  SaysProgram x n [] r = r ≡ refused_at n ENDS_EARLY
  SaysProgram x n (l ∷ ls) r =
      (said : Result (Option Line) ℕ) × ReadsLine (line_code (n + 1) l) x l said
      × ProgramBy said x (n + 1) ls (λ y rest. SaysProgram y (n + 1) ls rest) r

  -- what the lines behind the line `script` say, which has this number
  abbrev pub SaysSequence : ℕ → List (List ℕ) → Sequence → Type 0
  SaysSequence n ls r = SaysProgram nothing_read n ls r
