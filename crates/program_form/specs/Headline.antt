-- What is printed of a control program, in the words of the plant: the theorem of `program`.
use Rattle.std.specs.Prelude.{◌≡◌, ℕ, false, List, [], ◌++◌, Option, Some, None}
use Rattle.cca_base.specs.declared.events.Event.{Event}
use Rattle.cca_base.specs.Accepted.{CompiledModel, IsCompiled}
use Rattle.cca_base.specs.Choice.{IsChosenReply}
use Rattle.cca_base.specs.Goals.{IsGoodReply}
use Rattle.cca_base.specs.Orders.{IsSorted}
use Rattle.cca_base.specs.Plans.{Promising}
use Rattle.cca_base.specs.Runs.{Ticks, Trace, StaysRight}
use Rattle.cca_base.specs.Trace.{AllMayCome, start}
use Rattle.control_laws.specs.Rest.{whole}
use Rattle.control_syntax.specs.Program.{MayRun}
use Rattle.control_syntax.specs.declared.part.Part.{Part}
use Rattle.model_form.specs.Answers.{Answer, Saying, IsAnswer}
use Rattle.model_form.specs.LinesEnds.{ending}
use Rattle.trace_laws.specs.Held.{WithinHeld}
use Rattle.program_form.specs.Printed.{all_told, reports_of}
use Rattle.program_form.specs.PutIn.{PutIn, Told, at_start}
use Rattle.program_form.specs.Sequences.{Sequence, SaysSequence}

-- the program may be run. With the events that it puts in, the lines' events may come one after the other. What is told are the reports of the trace of all these. Of its
-- ticks each estimate is a least-cost consistent successor, each reply is good for the goal of its turn and is the picked one, right estimates stay right, and a goal
-- that turns keep asking for is served within its stated number. The program is said to have ended behind the tick before which it did
pub record IsFixedRun (b : CompiledModel) (part : Part) (events : List Event) (told : List Told) : Type 0 where
  pub compiled : IsCompiled b
  pub may_run : MayRun b.model part
  pub full : List Event
  pub put : PutIn b.model (at_start b.model (whole part)) events full told
  pub come : AllMayCome b.model (IsSorted b.order) (start b.model 0) full
  pub trace : Trace b (Promising b) full (reports_of told)
  pub good : Ticks b (IsGoodReply b.model) (start b.model 0) [] full trace.ticks
  pub chosen : Ticks b (IsChosenReply b) (start b.model 0) [] full trace.ticks
  pub within : WithinHeld b trace.ticks
  pub stays_right : StaysRight b trace.ticks

-- what is told is the fixed run of the program, where it was read whole; else nothing is told
abbrev pub IsRunOf : CompiledModel → Option Part → List Event → List Told → Type 0
IsRunOf b None events told = told ≡ []
IsRunOf b (Some part) events told = IsFixedRun b part events told

-- what is printed of the lines behind an accepted model is the run of the program that they say, and a refusal's line last
abbrev pub SaysTraced : Saying
SaysTraced b n ls e text =
    (r : Sequence) × (told : List Told) × SaysSequence b.model n ls r × IsRunOf b r.program r.events told
    × (e ≡ (ending b.model r.ending).end) × (text ≡ all_told b.model told ++ (ending b.model r.ending).text)

-- what is printed for an input: that its model is refused, or the run of its program
abbrev pub IsProgramTrace : List ℕ → Answer → Type 0
IsProgramTrace input a = IsAnswer false SaysTraced input a.end a.text
