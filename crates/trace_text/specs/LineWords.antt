-- The words of each line of a printed trace, and what it means that something is read from words.
use Rattle.std.specs.Prelude.{◌≡◌, ◌≢◌, ◌<◌, ℕ, Bool, false, List, length, [], ◌∷◌, ◌++◌, codes, map, if◌then◌else◌, Option, MatchOption}
use Rattle.std.specs.List.{AllZip}
use Rattle.std.specs.Fmt.{decimal}
use Rattle.std.specs.Str.{bytes_eq}
use Rattle.cca_base.specs.declared.model.Component.{Component}
use Rattle.cca_base.specs.declared.model.Variable.{Variable}
use Rattle.cca_base.specs.declared.events.PlanEnd.{PlanEnd}
use Rattle.cca_base.specs.declared.events.PlanEnd.TheVariants as plans
use Rattle.cca_base.specs.declared.events.Reply.{Reply}
use Rattle.cca_base.specs.declared.events.Reply.TheVariants.{Idle, Send, Achieved, Unreachable}
use Rattle.cca_base.specs.declared.events.Shown.{Shown}
use Rattle.cca_base.specs.declared.events.Shown.TheVariants.{Estimated, Unexplained, Holding}
use Rattle.cca_base.specs.declared.events.TickReport.{TickReport}
use Rattle.cca_base.specs.PlantModel.{PlantModel}
use Rattle.trace_text.specs.declared.trace_line.TraceLine.{TraceLine}
use Rattle.trace_text.specs.declared.trace_line.TraceLine.TheVariants.{Tick, World, Plan, Back}
use Rattle.trace_text.specs.Names.{name_at, choice_text, Row, mode_row, value_row, pair_text_at}

-- each name with one of its choices
abbrev pub choice_words : List Row → List ℕ → List (List ℕ)
choice_words [] ks = []
choice_words (row ∷ rows) [] = []
choice_words (row ∷ rows) (k ∷ ks) = choice_text row.name row.choices k ∷ choice_words rows ks

-- each variable with its value
abbrev pub value_words : List Variable → List ℕ → List (List ℕ)
value_words variables values = choice_words (map value_row variables) values

-- each component with its mode
abbrev pub mode_words : List Component → List ℕ → List (List ℕ)
mode_words components modes = choice_words (map mode_row components) modes

-- the words of a reply
abbrev pub reply_words : PlantModel → Reply → List (List ℕ)
reply_words m Idle = codes "idle" ∷ []
reply_words m (Send command) = codes "send" ∷ name_at m.commands command ∷ []
reply_words m Achieved = codes "achieved" ∷ []
reply_words m (Unreachable c mode) = codes "unreachable" ∷ pair_text_at m.components c mode ∷ []

-- what a tick shows
abbrev pub shown_words : PlantModel → Shown → List (List ℕ)
shown_words m (Estimated cost state reply) = codes "cost" ∷ decimal cost ∷ codes "modes" ∷ mode_words m.components state.modes ++ reply_words m reply
shown_words m Unexplained = codes "unexplained" ∷ []
shown_words m Holding = codes "holding" ∷ []

-- a report behind its line's word
abbrev pub report_words : PlantModel → TickReport → List (List ℕ)
report_words m report = decimal report.tick ∷ shown_words m report.shown

-- the only command of the plan is named `long`
abbrev pub is_only_long : List (List ℕ) → List ℕ → Bool
is_only_long names [] = false
is_only_long names (k ∷ []) = bytes_eq (name_at names k) (codes "long")
is_only_long names (k ∷ l ∷ ks) = false

-- a plan behind its line's word; two spaces have an empty word between them
abbrev pub plan_words : List (List ℕ) → PlanEnd → List (List ℕ)
plan_words names plans.Long = codes "long" ∷ []
plan_words names (plans.Plan plan) = (if is_only_long names plan then [] ∷ [] else []) ++ map (name_at names) plan

-- the words of a whole line of a trace
abbrev pub line_words : PlantModel → TraceLine → List (List ℕ)
line_words m (Tick report) = codes "tick" ∷ report_words m report
line_words m (World world) = codes "world" ∷ value_words m.variables world.values
line_words m (Plan end) = codes "plan" ∷ plan_words m.commands end
line_words m (Back end) = codes "back" ∷ plan_words m.commands end

-- a choice for each row, from the row's own
abbrev pub AreChosen : List Row → List ℕ → Type 0
AreChosen rows ks = AllZip (λ row k. k < length row.choices) rows ks

-- the answer fits and has these words, or nothing that fits has them
abbrev pub IsReadFrom : {W X : Type 0} → W → (X → Type 0) → (X → W) → Option X → Type 0
IsReadFrom {W} {X} words Fits words_of answer = MatchOption answer ((x : X) → Fits x → words_of x ≢ words) (λ x. Fits x × (words_of x ≡ words))
