-- What is printed of a program's run.
use Rattle.std.specs.Prelude.{◌≡◌, ◌+◌, ℕ, Bool, true, false, List, [], ◌∷◌, ◌++◌, codes, flat_map, map, Option, Some, None}
use Rattle.std.specs.Fmt.{decimal}
use Rattle.cca_base.specs.declared.events.Event.{Event}
use Rattle.cca_base.specs.declared.events.TickReport.{TickReport}
use Rattle.cca_base.specs.Accepted.{CompiledModel}
use Rattle.cca_base.specs.Plans.{Promising}
use Rattle.cca_base.specs.PlantModel.{PlantModel}
use Rattle.cca_base.specs.Runs.{Trace}
use Rattle.control_laws.specs.Rest.{whole}
use Rattle.control_syntax.specs.declared.part.Part.{Part}
use Rattle.model_form.specs.Answers.{Saying}
use Rattle.model_form.specs.LinesEnds.{ending}
use Rattle.trace_text.specs.ReportRefs.{most_bytes}
use Rattle.trace_text.specs.Reports.{report_line}
use Rattle.program_form.specs.PutIn.{PutIn, Told, at_start}
use Rattle.program_form.specs.Sequences.{Sequence, SaysSequence}
use Rattle.program_form.specs.declared.told.TheConstants.{DONE_ROOM}

-- the line of a program that has ended before a tick of this number, and no line of one that hasn't
abbrev pub done_line : Bool → ℕ → List ℕ
done_line true tick = codes "done " ++ decimal tick ++ 10 ∷ []
done_line false tick = []

-- the line of a tick, and behind it that the program has ended, where it has in the turn before the tick
abbrev pub told_text : PlantModel → Told → List ℕ
told_text m t = report_line m t.report ++ done_line t.ended t.report.tick

-- how many bytes are told of a tick of the model at most
abbrev pub most_told : PlantModel → ℕ
most_told m = most_bytes m + DONE_ROOM

-- the lines of ticks, one behind the other
abbrev pub all_told : PlantModel → List Told → List ℕ
all_told m ticks = flat_map (told_text m) ticks

-- the reports of what is told
abbrev pub reports_of : List Told → List TickReport
reports_of ticks = map (λ t. t.report) ticks

-- what is told of the program's run: the reports are the fixed trace of the lines' events with those that the program puts in; without a whole program there is nothing to tell
abbrev pub RunsTo : CompiledModel → Option Part → List Event → List Told → Type 0
RunsTo b None events told = told ≡ []
RunsTo b (Some part) events told = (full : List Event) × PutIn b.model (at_start b.model (whole part)) events full told × Trace b (Promising b) full (reports_of told)

-- what is printed of the lines behind the line `script`, which has this number: what is told of the program's run, and a refusal's line last
abbrev pub SaysRun : Saying
SaysRun b n ls e text =
    (r : Sequence) × (told : List Told) × SaysSequence b.model n ls r × RunsTo b r.program r.events told
    × (e ≡ (ending b.model r.ending).end) × (text ≡ all_told b.model told ++ (ending b.model r.ending).text)
