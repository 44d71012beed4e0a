-- What is printed of the answers of a tracker.
use Rattle.std.specs.Prelude.{◌≡◌, ◌-◌, ℕ, List, [], ◌++◌, flat_map, length, slice_index_or}
use Rattle.cca_base.specs.Accepted.{CompiledModel}
use Rattle.cca_base.specs.PlantModel.{PlantModel}
use Rattle.cca_base.specs.declared.events.Shown.TheVariants as shown
use Rattle.model_form.specs.Answers.{Saying}
use Rattle.model_form.specs.LinesEnds.{ending}
use Rattle.trace_text.specs.Reports.{report_line}
use Rattle.trace_text.specs.WindowLines.{window_line}
use Rattle.window_laws.specs.Ticks.{Answer, Found, Unexplained, Holding, Numbered, TrackerCall, TrackerState, Tracks, start}
use Rattle.watch_form.specs.Calls.{Calls, ReadsCalls, nothing_pending}

-- the modes of the last state
abbrev pub last_modes : List (List ℕ) → List ℕ
last_modes states = slice_index_or states (length states - 1) []

-- the line of a tick with an answer: what is told of the best trajectory; or that there is none, now or since an earlier tick
abbrev pub line_by : PlantModel → ℕ → Answer → List ℕ
line_by m tick (Found states cost revised) = window_line m tick (length states) cost (last_modes states) revised
line_by m tick Unexplained = report_line m (record { tick = tick; shown = shown.Unexplained })
line_by m tick Holding = report_line m (record { tick = tick; shown = shown.Holding })

-- the line of a numbered answer
abbrev pub answer_line : PlantModel → Numbered → List ℕ
answer_line m a = line_by m a.tick a.answer

-- the lines of answers, one behind the other
abbrev pub answers_text : PlantModel → List Numbered → List ℕ
answers_text m answers = flat_map (answer_line m) answers

-- the text of calls: that of the answers of a tracker to them
abbrev pub CallsText : CompiledModel → List TrackerCall → List ℕ → Type 0
CallsText b calls text = (y : TrackerState) × (answers : List Numbered) × Tracks b.model (start b.model 0) calls y answers × (text ≡ answers_text b.model answers)

-- what is printed of the lines behind the line `script`, which has this number: the text of their calls, and a refusal's line last
abbrev pub SaysWatch : Saying
SaysWatch b n ls e text =
    (r : Calls) × (told : List ℕ) × ReadsCalls b.model nothing_pending n ls r × CallsText b r.items told
    × (e ≡ (ending b.model r.ending).end) × (text ≡ told ++ (ending b.model r.ending).text)
