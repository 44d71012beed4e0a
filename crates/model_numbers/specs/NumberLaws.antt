-- Laws of the numbers of names and reports.
use Rattle.std.specs.Prelude.{◌≡◌, ◌≤◌, ◌↔◌, ◌^◌, ℕ, List, length, Some}
use Rattle.cca_base.specs.declared.events.TickReport.{TickReport}
use Rattle.cca_base.specs.declared.formula.Subject.TheVariants as subject
use Rattle.cca_base.specs.Accepted.{CompiledModel, IsCompiled}
use Rattle.cca_base.specs.PlantModel.{PlantModel}
use Rattle.cca_base.specs.Model.{HasMode, WellFormed}
use Rattle.formula_syntax.specs.Lookups.{as_component, as_variable, subject_of, value_of}
use Rattle.trace_text.specs.Reports.{report_line}
use Rattle.trace_text.specs.TraceLines.{FitsReport}
use Rattle.model_numbers.specs.declared.kind.Kind.{Kind}
use Rattle.model_numbers.specs.declared.kind.Kind.TheVariants.{Component, Mode, Variable, Value}
use Rattle.model_numbers.specs.declared.modes.TheConstants.{NO_MODE}
use Rattle.model_numbers.specs.KindNames.{name_of_number, names_of_kind, number_of_name}
use Rattle.model_numbers.specs.NumberedLines.{numbered_line}
use Rattle.model_numbers.specs.ReportNumbers.{modes_of, numbers_of}

-- in a well-formed model a number has a name exactly where the name has that number
abbrev pub NamesAreNumbers : Type 0
NamesAreNumbers = (m : PlantModel) → WellFormed m → (kind : Kind) (of number : ℕ) (name : List ℕ)
    → name_of_number m kind of number ≡ Some name ↔ number_of_name m kind of name ≡ Some number

-- the numbers of a name are those that it has in a line of a script
pub record IsReadAlike (m : PlantModel) (name : List ℕ) : Type 0 where
  pub component : number_of_name m Component 0 name ≡ as_component (subject_of m name)
  pub mode : (c : ℕ) → number_of_name m Mode c name ≡ value_of m (subject.Component c) name
  pub variable : number_of_name m Variable 0 name ≡ as_variable (subject_of m name)
  pub value : (v : ℕ) → number_of_name m Value v name ≡ value_of m (subject.Variable v) name

-- in a well-formed model a name has the numbers that it has in a line of a script
abbrev pub NamesAreReadAlike : Type 0
NamesAreReadAlike = (m : PlantModel) → WellFormed m → (name : List ℕ) → IsReadAlike m name

-- an accepted model has at most 2^16 names of a kind
abbrev pub CountsAreSmall : Type 0
CountsAreSmall = (b : CompiledModel) → IsCompiled b → (kind : Kind) (of : ℕ) (names : List (List ℕ)) → names_of_kind b.model kind of ≡ Some names → length names ≤ 2 ^ 16

-- no component of a well-formed model has a mode of the number that says that there is none
abbrev pub NoModeIsNone : Type 0
NoModeIsNone = (m : PlantModel) → WellFormed m → (c : ℕ) → HasMode m c NO_MODE → ⊥

-- where there is room for each component's mode, the line of a report that fits the model is made of its numbers and of their names
abbrev pub NumbersPrint : Type 0
NumbersPrint = (m : PlantModel) (report : TickReport) (room : ℕ) → FitsReport m report → length m.components ≤ room
    → report_line m report ≡ numbered_line m (numbers_of m report) (modes_of report room)
