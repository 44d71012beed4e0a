-- The machine of `migrate`: behind a model it prints the lines of the script's events.
use Rattle.std.specs.Prelude.{◌≡◌, ⊤, ℕ, List, [], ◌∷◌, ◌++◌, false}
use Rattle.cca_base.specs.Accepted.{CompiledModel}
use Rattle.cca_base.specs.Model.{in_second}
use Rattle.cca_base.specs.PlantModel.{PlantModel}
use Rattle.cca_base.specs.Trace.{MayCome}
use Rattle.cca_base.specs.declared.cube.Pair.{Pair}
use Rattle.cca_base.specs.declared.events.Event.{Event}
use Rattle.line_forms.specs.LinesMachine.{lines_machine}
use Rattle.line_forms.specs.LineMeaning.{LineMeaning}
use Rattle.line_machine.specs.Next.{Next, GoesOn}
use Rattle.line_machine.specs.declared.machine.End.TheVariants.{Ended}
use Rattle.line_machine.specs.declared.machine.Machine.{Ghosts}
use Rattle.model_form.specs.Answers.{answer}
use Rattle.model_form.specs.FormMachine.{form_machine}
use Rattle.model_form.specs.FormStates.{FormState}
use Rattle.model_form.specs.declared.form.ModelForm.{Ghosts as FormGhosts}
use Rattle.model_form.specs.declared.limits.TheConstants.{MAX_LINE}
use Rattle.run_form.specs.ScriptReading.{as_kept}
use Rattle.script_reader.specs.EventLines.{event_line}
use Rattle.trace_laws.specs.Events.{PendingAfter, mirrored_after}
use Rattle.migrate_form.specs.Migrated.{migrated_model}
use Rattle.migrate_form.specs.declared.migrate.Migrate.{Migrate}
use Rattle.migrate_form.specs.declared.script.KeptLine.{KeptLine}

-- where a script stands: its model, and what bears on which events may come next
pub record ScriptSoFar : Type 0 where
  pub model : PlantModel
  pub pending : List Pair
  pub mirrored : ℕ

-- at first nothing is pending or mirrored
abbrev pub script_first : PlantModel → ScriptSoFar
script_first m = record { model = m; pending = []; mirrored = 0 }

-- a script begins in this state, and this model is printed in version 2
abbrev pub BeginsIn : {S : Type 0} → S → PlantModel → Next S → List ℕ → Type 0
BeginsIn s m u text = (u ≡ GoesOn s) × (text ≡ migrated_model m)

-- behind an accepted model its script begins in version 2, and the model is printed
abbrev pub Begins : CompiledModel → ℕ → Next ScriptSoFar → List ℕ → Type 0
Begins b n u text = BeginsIn (script_first (in_second b.model)) b.model u text

-- an event with its line
abbrev pub kept_line : List ℕ → Event → KeptLine
kept_line line e = record { event = e; line = line }

-- an event is followed, and its line printed as it stands
abbrev pub KeepsLine : KeptLine → ScriptSoFar → Next ScriptSoFar → List ℕ → Type 0
KeepsLine k x u text =
    (after : List Pair) × PendingAfter x.pending k.event after
    × (u ≡ GoesOn (record x { pending = after; mirrored = mirrored_after x.mirrored k.event })) × (text ≡ k.line ++ 10 ∷ [])

-- what a line says with what is pending and mirrored, and what is done for its event; a script may end anywhere
abbrev pub second_lines : LineMeaning ScriptSoFar KeptLine
second_lines = record {
  model_of = λ x. x.model;
  is_json = λ x. false;
  limit_of = λ x. MAX_LINE;
  said = λ x line said. said ≡ as_kept (kept_line line) (event_line x.model x.pending x.mirrored line);
  fits = λ x k. MayCome x.model x.pending x.mirrored k.event;
  serves = λ k x n u text. KeepsLine k x u text;
  closing = λ x n. answer Ended [];
  awaits = λ x n. ⊤;
  steady = λ x n. ⊥;
}

-- the machine of the script
abbrev pub script_machine : Ghosts ScriptSoFar
script_machine = lines_machine second_lines

-- what the form says at the line `script`
abbrev pub migrate_form : FormGhosts Migrate ScriptSoFar
migrate_form = record { is_json = λ f. false; begins = λ f. Begins }

-- the machine of the form `migrate`
abbrev pub migrate_machine : Ghosts (FormState Migrate ScriptSoFar)
migrate_machine = form_machine migrate_form script_machine
