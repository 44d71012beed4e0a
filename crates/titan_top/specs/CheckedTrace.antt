-- What a checked trace is, by the model's rules and guards alone: the theorem of the checker.
use Rattle.std.specs.Prelude.{◌≡◌, ◌⊎◌, ℕ, List, [], ◌∷◌, length, flat_map}
use Rattle.cca_base.specs.declared.events.Event.{Event}
use Rattle.cca_base.specs.Accepted.{CompiledModel, IsCompiled}
use Rattle.cca_base.specs.PlantModel.{PlantModel}
use Rattle.cca_base.specs.Trace.{ExecutiveState, Changes, start}
use Rattle.plan_checker.specs.Checked.{Takes, ShowsSuccessor, ShowsReply, ShowsSafety}
use Rattle.plan_checker.specs.Reasons.{Printed, HasItsLines, HasItsWorld, LeadsBack, AnswersGoal, WritesRoute}
use Rattle.trace_laws.specs.Events.{AsGiven, IsTick}
use Rattle.check_form.specs.CheckScript.{Traced, ReadsScript, no_events}
use Rattle.line_machine.specs.Lines.{joined_lines}
use Rattle.model_form.specs.ModelTexts.{EndsModel, WholeModel}
use Rattle.titan_top.specs.Output.{Outcome}
use Rattle.run_form.specs.TickProofs.{tick_text}
use Rattle.check_form.specs.Verdicts.{checked_line}
use Rattle.titan_top.specs.declared.status.Status.TheVariants.{Ended}

-- the printed tick is next and has the lines that belong to it, and it shows a consistent estimate of its cost with a world of it, a reply that fits the goal and what came before, and a command that is safe, whose way back is written out and leads to a mending of the estimate
pub record IsCheckedTick (m : PlantModel) (x : ExecutiveState) (t : Printed) : Type 0 where
  pub lines : HasItsLines x t
  pub successor : ShowsSuccessor m x t
  pub reply : ShowsReply x t
  pub safety : ShowsSafety m x t
  pub world : HasItsWorld m x t
  pub answer : AnswersGoal x t.report.shown
  pub back : LeadsBack m t
  pub written : WritesRoute t

-- the printed ticks are those of the events, one after the other from x on: each is checked and then taken, and the other events are made
abbrev pub AreChecked : PlantModel → ExecutiveState → List Event → List Printed → Type 0
AreChecked m x [] ticks = ticks ≡ []
AreChecked m x (e ∷ events) ticks =
    (IsTick e × (t : Printed) × (others : List Printed) × (ticks ≡ t ∷ others) × IsCheckedTick m x t
    × (y : ExecutiveState) × Takes m x t.report.shown y × AreChecked m y events others)
    ⊎ ((y : ExecutiveState) × Changes m AsGiven x e y × AreChecked m y events ticks)

-- ---- the text

-- the input's model is compiled, its script ends with the line `trace`, the lines behind that are the text of ticks that are checked, one after the other for the script's events, and their number is printed
pub record IsCheckedTrace (input : List ℕ) (o : Outcome) : Type 0 where
  pub compiled : CompiledModel
  pub is : IsCompiled compiled
  pub script : ℕ
  pub lines : List (List ℕ)
  pub model : EndsModel input (WholeModel compiled.model script lines)
  pub events : List Event
  pub trace : ℕ
  pub rest : List (List ℕ)
  pub document : ReadsScript compiled.model no_events script lines (Traced events trace rest)
  pub ticks : List Printed
  pub text : joined_lines rest ≡ flat_map (tick_text compiled.model) ticks
  pub checked : AreChecked compiled.model (start compiled.model 0) events ticks
  pub outcome : o ≡ record { text = checked_line (length ticks); status = Ended }
