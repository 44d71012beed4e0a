-- What is printed of a document: the text of its ticks, and its end.
use Rattle.std.proofs.Common.{◌≡◌, ℕ, List, [], refl}
use Rattle.cca_base.specs.declared.events.Refusal.{Refusal}
use Rattle.cca_base.specs.declared.events.TickReport.{TickReport}
use Rattle.cca_base.specs.PlantModel.{PlantModel}
use Rattle.model_form.specs.Answers.{Answer, refused_answer}
use Rattle.run_form.specs.Document.{Document, DocumentEnd, Complete, RefusedAt, refused_at}
use Rattle.run_form.specs.Notations.{is_json}
use Rattle.run_form.specs.Printed.{ending, with_text, printed}
use Rattle.run_form.specs.Summaries.{counts_of}
use Rattle.run_form.specs.declared.counts.Counts.{Counts}
use Rattle.run_form.specs.declared.notation.Notation.{Notation}

-- what is printed where the ticks have these counts
abbrev pub printed_with : Notation → Document → Counts → List ℕ → Answer
printed_with notation r counts text = with_text text (ending notation r.model counts r.ending)

-- a line that is refused before the first event
pub printed_refused : (notation : Notation) (m : PlantModel) (counts : Counts) (line : ℕ) (r : Refusal) → printed_with notation (refused_at m line r) counts [] ≡ refused_answer (is_json notation) m line r
printed_refused notation m counts line r = refl

-- what is printed with reports is that with their counts
pub printed_counts : (notation : Notation) (r : Document) (reports : List TickReport) (text : List ℕ) → printed notation r reports text ≡ printed_with notation r (counts_of reports) text
unfolding printed
printed_counts notation r reports text = refl

-- what is printed ends as the ending does, whatever the counts are
ending_end : (notation : Notation) (m : PlantModel) (a b : Counts) (e : DocumentEnd) → (ending notation m a e).end ≡ (ending notation m b e).end
ending_end notation m a b Complete = refl
ending_end notation m a b (RefusedAt line r) = refl

pub printed_end : (notation : Notation) (r : Document) (reports : List TickReport) (text : List ℕ) → (printed notation r reports text).end ≡ (ending notation r.model (counts_of []) r.ending).end
unfolding printed
printed_end notation r reports text = ending_end notation r.model (counts_of reports) (counts_of []) r.ending
