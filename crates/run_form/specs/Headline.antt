-- What is printed of a run, in the words of the plant: the theorem of `run`.
use Rattle.std.specs.Prelude.{◌≡◌, ◌⊎◌, ℕ, List, []}
use Rattle.cca_base.specs.declared.events.Refusal.{Refusal}
use Rattle.cca_base.specs.declared.events.TickReport.{TickReport}
use Rattle.cca_base.specs.Accepted.{CompiledModel, IsCompiled}
use Rattle.cca_base.specs.Choice.{IsChosenReply}
use Rattle.cca_base.specs.Goals.{IsGoodReply}
use Rattle.cca_base.specs.Orders.{IsSorted}
use Rattle.cca_base.specs.Plans.{Promising}
use Rattle.cca_base.specs.Runs.{Ticks, Trace, Within, StaysRight}
use Rattle.cca_base.specs.Trace.{AllMayCome, start}
use Rattle.model_form.specs.Answers.{Answer}
use Rattle.model_form.specs.ModelEnds.{IsRefusedEnd}
use Rattle.model_form.specs.ModelTexts.{ModelText, EndsModel}
use Rattle.run_form.specs.Document.{Document, IsDocument, refused_at}
use Rattle.run_form.specs.Printed.{printed}
use Rattle.run_form.specs.TickTexts.{TicksText}
use Rattle.run_form.specs.declared.notation.Notation.{Notation}

-- the input's model is compiled and its events may come one after the other. The printed reports are the trace of these events. Of its ticks each estimate is a
-- least-cost consistent successor, each reply is good and is the picked one, right estimates stay right, and goals are served within their stated numbers. The text is
-- that of these ticks
pub record IsFixedTrace (notation : Notation) (r : Document) (a : Answer) : Type 0 where
  pub compiled : CompiledModel
  pub is : IsCompiled compiled
  pub of_model : compiled.model ≡ r.model
  pub come : AllMayCome compiled.model (IsSorted compiled.order) (start compiled.model 0) r.events
  pub reports : List TickReport
  pub trace : Trace compiled (Promising compiled) r.events reports
  pub good : Ticks compiled (IsGoodReply compiled.model) (start compiled.model 0) [] r.events trace.ticks
  pub chosen : Ticks compiled (IsChosenReply compiled) (start compiled.model 0) [] r.events trace.ticks
  pub within : Within compiled trace.ticks
  pub stays_right : StaysRight compiled trace.ticks
  pub text : List ℕ
  pub of_ticks : TicksText notation compiled trace.ticks text
  pub lines : a ≡ printed notation r reports text

-- a line of the model is refused, or the model at its script; nothing more is read, and only the line of the refusal is printed
pub record IsRefusedBefore (notation : Notation) (input : List ℕ) (r : Document) (a : Answer) : Type 0 where
  pub line : ℕ
  pub refusal : Refusal
  pub end : ModelText
  pub ends : EndsModel input end
  pub refused : IsRefusedEnd end line refusal
  pub reading : r ≡ refused_at r.model line refusal
  pub answer : a ≡ printed notation r [] []

-- the input's model is refused, or what is printed is its fixed trace
abbrev pub IsTraceOf : Notation → List ℕ → Answer → Type 0
IsTraceOf notation input a = (r : Document) × IsDocument input r × (IsRefusedBefore notation input r a ⊎ IsFixedTrace notation r a)
