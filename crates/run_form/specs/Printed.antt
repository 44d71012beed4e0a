-- What a run prints of a document: the text of its ticks, and what its end is.
use Rattle.std.specs.Prelude.{◌≡◌, ℕ, List, [], ◌++◌}
use Rattle.cca_base.specs.declared.events.TickReport.{TickReport}
use Rattle.cca_base.specs.PlantModel.{PlantModel}
use Rattle.cca_base.specs.Plans.{Promising}
use Rattle.cca_base.specs.Runs.{Trace}
use Rattle.line_machine.specs.declared.machine.End.TheVariants.{Ended}
use Rattle.model_form.specs.Answers.{Answer, answer, refused_answer, Saying, IsAnswer}
use Rattle.run_form.specs.Document.{Document, DocumentEnd, Complete, RefusedAt, SaysScript}
use Rattle.run_form.specs.Notations.{is_json, closing}
use Rattle.run_form.specs.Summaries.{counts_of}
use Rattle.run_form.specs.TickTexts.{TicksText}
use Rattle.run_form.specs.declared.counts.Counts.{Counts}
use Rattle.run_form.specs.declared.notation.Notation.{Notation}

-- a text that is printed before the rest
abbrev pub with_text : List ℕ → Answer → Answer
with_text text a = record { text = text ++ a.text; end = a.end }

-- what is printed for the end of an input whose ticks have these counts
abbrev pub ending : Notation → PlantModel → Counts → DocumentEnd → Answer
ending notation m counts Complete = answer Ended (closing notation counts)
ending notation m counts (RefusedAt line r) = refused_answer (is_json notation) m line r

-- what is printed of a document with these reports and this text of its ticks: the text, and the document's end
unfoldable pub printed : Notation → Document → List TickReport → List ℕ → Answer
printed notation r reports text = with_text text (ending notation r.model (counts_of reports) r.ending)

-- what is printed of a script behind n lines: the texts of its events' ticks one after the other, each reply the one that is picked, and each goal that isn't unreachable can be served in time
abbrev pub SaysRun : Notation → Saying
SaysRun notation b n ls e text =
    (r : Document) × (reports : List TickReport) × (told : List ℕ) × SaysScript b.model [] 0 n ls r
    × (trace : Trace b (Promising b) r.events reports) × TicksText notation b trace.ticks told × (answer e text ≡ printed notation r reports told)

-- what a run prints for an input
abbrev pub IsRunOf : Notation → List ℕ → Answer → Type 0
IsRunOf notation input a = IsAnswer (is_json notation) (SaysRun notation) input a.end a.text
