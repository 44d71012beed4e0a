-- The line of a tick by the names of its numbers.
use Rattle.std.specs.Prelude.{ℕ, List, [], ◌∷◌, ◌++◌, codes, map, slice_get, Option, Some, None, unwrap_or}
use Rattle.std.specs.Fmt.{decimal}
use Rattle.std.specs.List.{range_with_len}
use Rattle.cca_base.specs.PlantModel.{PlantModel}
use Rattle.trace_text.specs.Words.{spaced_line}
use Rattle.model_numbers.specs.declared.kind.Kind.{Kind}
use Rattle.model_numbers.specs.declared.kind.Kind.TheVariants.{Component, Mode, Command}
use Rattle.model_numbers.specs.declared.report_numbers.ReplyKind.{ReplyKind}
use Rattle.model_numbers.specs.declared.report_numbers.ReplyKind.TheVariants.{Idle, Send, Achieved, Unreachable}
use Rattle.model_numbers.specs.declared.report_numbers.ReportNumbers.{ReportNumbers}
use Rattle.model_numbers.specs.declared.report_numbers.Tells.{Tells}
use Rattle.model_numbers.specs.declared.report_numbers.Tells.TheVariants.{NothingYet, Estimated, Unexplained, Holding}
use Rattle.model_numbers.specs.KindNames.{name_of_number}

-- the name of a number; no bytes where there is no name or no number
abbrev pub named : PlantModel → Kind → ℕ → Option ℕ → List ℕ
named m kind of None = []
named m kind of (Some number) = unwrap_or (name_of_number m kind of number) []

-- COMPONENT=MODE by a component's number and a mode's
abbrev pub named_pair : PlantModel → Option ℕ → Option ℕ → List ℕ
named_pair m None mode = []
named_pair m (Some c) mode = named m Component 0 (Some c) ++ 61 ∷ named m Mode c mode

-- the words of a reply by its numbers
abbrev pub named_reply : PlantModel → ReportNumbers → Option ReplyKind → List (List ℕ)
named_reply m numbers None = []
named_reply m numbers (Some Idle) = codes "idle" ∷ []
named_reply m numbers (Some Send) = codes "send" ∷ named m Command 0 numbers.command ∷ []
named_reply m numbers (Some Achieved) = codes "achieved" ∷ []
named_reply m numbers (Some Unreachable) = codes "unreachable" ∷ named_pair m numbers.component numbers.mode ∷ []

-- the words of what is told by numbers, with the numbers of the components' modes
abbrev pub named_words : PlantModel → ReportNumbers → List ℕ → Tells → List (List ℕ)
named_words m numbers modes NothingYet = []
named_words m numbers modes Estimated =
    codes "cost" ∷ decimal numbers.cost ∷ codes "modes" ∷ map (λ c. named_pair m (Some c) (slice_get modes c)) (range_with_len 0 numbers.components) ++ named_reply m numbers numbers.reply
named_words m numbers modes Unexplained = codes "unexplained" ∷ []
named_words m numbers modes Holding = codes "holding" ∷ []

-- the line of a tick, made of its numbers and of their names
abbrev pub numbered_line : PlantModel → ReportNumbers → List ℕ → List ℕ
numbered_line m numbers modes = spaced_line (codes "tick") (decimal numbers.tick ∷ named_words m numbers modes numbers.tells)
