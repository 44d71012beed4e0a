-- How the lines of a script are read: each event is asked for, and kept as it is or with its line.
use Rattle.std.specs.Prelude.{◌≡◌, ℕ, List, [], map, Option, Some, None, Result, Ok, Err}
use Rattle.cca_base.specs.PlantModel.{PlantModel}
use Rattle.cca_base.specs.Refusals.{bare}
use Rattle.cca_base.specs.declared.cube.Pair.{Pair}
use Rattle.cca_base.specs.declared.events.Event.{Event}
use Rattle.line_forms.specs.Asked.{Effect, Asks, FollowsEffect}
use Rattle.model_form.specs.LinesEnds as lines
use Rattle.model_form.specs.LinesEnds.{LinesEnd, AllRead, Asked, ReadsLines}
use Rattle.script_reader.specs.EventLines.{event_line}
use Rattle.trace_laws.specs.Events.{PendingAfter, mirrored_after}
use Rattle.run_form.specs.Document.{Document, DocumentEnd, Complete, RefusedAt}

-- what bears on which events may come next
pub record Bearing : Type 0 where
  pub pending : List Pair
  pub mirrored : ℕ

-- at first nothing is pending or mirrored
abbrev pub nothing_known : Bearing
nothing_known = record { pending = []; mirrored = 0 }

-- where so much is pending behind an event
abbrev pub behind_event : Bearing → Event → List Pair → Bearing
behind_event s e after = record { pending = after; mirrored = mirrored_after s.mirrored e }

-- how a document ends whose lines end so
abbrev pub document_end : LinesEnd → DocumentEnd
document_end AllRead = Complete
document_end (lines.RefusedAt line code) = RefusedAt line (bare code)

-- what a line says, with its event as it is kept
abbrev pub as_kept : {R : Type 0} → (Event → R) → Result (Option Event) ℕ → Result (Option R) ℕ
as_kept keep (Err code) = Err code
as_kept keep (Ok None) = Ok None
as_kept keep (Ok (Some e)) = Ok (Some (keep e))

-- events are kept so of their lines, and this is the event of what is kept
module _ {R : Type 0} (keep : List ℕ → Event → R) (event : R → Event) (m : PlantModel) where
  -- a line says this
  abbrev pub IsSaid : Bearing → List ℕ → Result (Option R) ℕ → Type 0
  IsSaid s l said = said ≡ as_kept (keep l) (event_line m s.pending s.mirrored l)

  -- an event is asked for
  abbrev pub Leads : R → Bearing → Effect Bearing R → Type 0
  Leads r s f = (after : List Pair) × PendingAfter s.pending (event r) after × (f ≡ Asks r (behind_event s (event r) after))

  -- an event and the later lines
  abbrev pub Follows : R → Bearing → ℕ → (Bearing → Asked R → Type 0) → Asked R → Type 0
  Follows r s n Later a = (after : List Pair) × PendingAfter s.pending (event r) after × FollowsEffect (Asks r (behind_event s (event r) after)) n Later a

  -- the lines ask for these events
  abbrev pub Reads : Bearing → ℕ → List (List ℕ) → Asked R → Type 0
  Reads s n ls a = ReadsLines IsSaid Follows s n ls a

  -- the document of what lines ask for
  abbrev pub document_of : Asked R → Document
  document_of a = record { model = m; events = map event a.items; ending = document_end a.ending }

-- ---- each event as it is

-- its line isn't kept
abbrev pub as_it_is : List ℕ → Event → Event
as_it_is line e = e

-- and it is its own event
abbrev pub its_event : Event → Event
its_event e = e
