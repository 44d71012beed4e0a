-- Each line of a trace that fits a well-formed model is a text with one LF, at its end, and it isn't long.
use Rattle.std.proofs.Common.{◌≡◌, ◌≢◌, ◌<◌, ◌≤◌, ◌+◌, ◌-◌, ◌*◌, ℕ, Bool, true, false, cond, List, [], ◌∷◌, ◌++◌, All, length, map, drop, refl, sym, ap, subst, arith}
use Rattle.std.proofs.lemmas.List.{length-append, length-map}
use Rattle.std.proofs.lemmas.List.Concat.{length-flat_map}
use Rattle.std.proofs.lemmas.List.Elements.{All-append, All-cons, All-head, All-nil, All-tail, All-weaker}
use Rattle.std.proofs.lemmas.List.Sums.{sum_by-le}
use Rattle.cca_base.specs.declared.limits.TheConstants.{MAX_PLAN, MAX_COMPONENTS, MAX_VARIABLES}
use Rattle.cca_base.specs.declared.events.PlanEnd.{PlanEnd}
use Rattle.cca_base.specs.declared.events.PlanEnd.TheVariants as plans
use Rattle.cca_base.specs.declared.events.Reply.{Reply}
use Rattle.cca_base.specs.declared.events.Reply.TheVariants.{Idle, Send, Achieved, Unreachable}
use Rattle.cca_base.specs.declared.events.Shown.{Shown}
use Rattle.cca_base.specs.declared.events.Shown.TheVariants.{Estimated, Unexplained, Holding}
use Rattle.cca_base.specs.PlantModel.{PlantModel}
use Rattle.cca_base.specs.Model.{WellFormed}
use Rattle.trace_text.specs.declared.trace_line.TraceLine.{TraceLine}
use Rattle.trace_text.specs.declared.trace_line.TraceLine.TheVariants.{Tick, World, Plan, Back}
use Rattle.trace_text.specs.Names.{mode_row, value_row, name_at}
use Rattle.trace_text.specs.TraceLines.{trace_line, FitsLine, FitsShown, HasValues}
use Rattle.trace_text.specs.LineWords.{mode_words, reply_words, shown_words, plan_words, line_words, value_words, is_only_long}
use Rattle.trace_text.specs.Words.{behind_spaces}
use Rattle.trace_text.specs.declared.limits.TheConstants.{MAX_TRACE_LINE}
use Rattle.trace_text.proofs.ChosenRows.{length-choice_words}
use Rattle.trace_text.proofs.RowsOfModels.{state_is_chosen, values_are_chosen}
use Rattle.trace_text.proofs.LinesAsWords.{line_spaced}
use Rattle.trace_text.proofs.ShortWords.{IsShortWord, IsLineWord, word_lacks, word_length, plan_short, line_formed}
use Rattle.trace_text.proofs.WordsApart.{Lacks}

-- a plan that is written out has no more commands than may be shown
abbrev pub IsShowablePlan : PlanEnd → Type 0
IsShowablePlan (plans.Plan ks) = length ks ≤ MAX_PLAN
IsShowablePlan plans.Long = Unit {0}

-- the same of a line
abbrev pub IsShowable : TraceLine → Type 0
IsShowable (Tick report) = Unit {0}
IsShowable (World world) = Unit {0}
IsShowable (Plan end) = IsShowablePlan end
IsShowable (Back end) = IsShowablePlan end

-- the text is one line and its LF
pub record IsShortLine (text : List ℕ) : Type 0 where
  pub line : List ℕ
  pub is : text ≡ line ++ 10 ∷ []
  pub clean : All (λ b. b ≢ 10) line
  pub short : length line ≤ MAX_TRACE_LINE

-- ---- how many words there are

reply_count : (m : PlantModel) (reply : Reply) → length (reply_words m reply) ≤ 2
reply_count m Idle = omega arith
reply_count m (Send k) = omega arith
reply_count m Achieved = omega arith
reply_count m (Unreachable c mode) = omega arith

shown_count : (m : PlantModel) → WellFormed m → (shown : Shown) → FitsShown m shown → length (shown_words m shown) ≤ 261
shown_count m h (Estimated cost state reply) fits =
    let modes : length (mode_words m.components state.modes) ≡ length (map mode_row m.components) =
    length-choice_words (map mode_row m.components) state.modes (state_is_chosen m state.modes fits.1) in
    let many : length (map mode_row m.components) ≡ length m.components = length-map m.components mode_row in
    let few : length m.components ≤ MAX_COMPONENTS = h.limits.components in
    let both : length (mode_words m.components state.modes ++ reply_words m reply) ≡ length (mode_words m.components state.modes) + length (reply_words m reply) =
    length-append (mode_words m.components state.modes) (reply_words m reply) in
    let said : length (reply_words m reply) ≤ 2 = reply_count m reply in
    omega arith
shown_count m h Unexplained fits = omega arith
shown_count m h Holding fits = omega arith

value_count : (m : PlantModel) → WellFormed m → (values : List ℕ) → HasValues m values → length (value_words m.variables values) ≤ MAX_VARIABLES
value_count m h values fits =
    let all : length (value_words m.variables values) ≡ length (map value_row m.variables) = length-choice_words (map value_row m.variables) values (values_are_chosen m values fits) in
    let many : length (map value_row m.variables) ≡ length m.variables = length-map m.variables value_row in
    let few : length m.variables ≤ MAX_VARIABLES = h.limits.variables in
    omega arith

-- an empty word may stand before the commands
plan_count : (names : List (List ℕ)) (end : PlanEnd) → IsShowablePlan end → length (plan_words names end) ≤ MAX_PLAN + 1
plan_count names plans.Long h = omega arith
plan_count names (plans.Plan ks) h = go (is_only_long names ks)
  where
    go : (b : Bool) → length (cond b ([] ∷ []) [] ++ map (name_at names) ks) ≤ MAX_PLAN + 1
    go true = omega (arith, h, length-map ks (name_at names))
    go false = omega (arith, h, length-map ks (name_at names))

-- ---- how many bytes there are

-- words below a length, each behind a space
pub spaced_length : (k : ℕ) (words : List (List ℕ)) → All (λ word. length word < k) words → length (behind_spaces words) ≤ length words * k
spaced_length k words h = subst (λ n. n ≤ length words * k) (sym (length-flat_map (λ word. 32 ∷ word) words)) (sum_by-le (λ word. length (32 ∷ word)) k words h)

-- words of at most 65 bytes, as those of a tick or a world
few_bytes : (words : List (List ℕ)) → All IsLineWord words → length words ≤ 263 → length (behind_spaces words) ≤ MAX_TRACE_LINE
few_bytes words h few =
    let most : length (behind_spaces words) ≤ length words * 66 =
    spaced_length 66 words (All-weaker IsLineWord (λ word. length word < 66) (λ word is. omega (arith, word_length word is)) words h) in
    omega arith

-- words of at most 32 bytes, as those of a plan, before which the line's own word stands
plan_bytes : (words : List (List ℕ)) → All IsShortWord words → length words ≤ MAX_PLAN + 1 → length (behind_spaces words) ≤ MAX_TRACE_LINE - 5
plan_bytes words h few =
    let most : length (behind_spaces words) ≤ length words * 33 =
    spaced_length 33 words (All-weaker IsShortWord (λ word. length word < 33) (λ word is. omega (arith, is.short)) words h) in
    omega arith

line_bytes : (m : PlantModel) → WellFormed m → (value : TraceLine) → FitsLine m value → IsShowable value → length (behind_spaces (line_words m value)) ≤ MAX_TRACE_LINE
line_bytes m h (Tick report) fits show = few_bytes (line_words m (Tick report)) (line_formed m h (Tick report) fits) (omega (arith, shown_count m h report.shown fits.1))
line_bytes m h (World world) fits show = few_bytes (line_words m (World world)) (line_formed m h (World world) fits) (omega (arith, value_count m h world.values fits))
line_bytes m h (Plan end) fits show =
    omega (arith, plan_bytes (plan_words m.commands end) (plan_short m.commands h.command_names.each end) (plan_count m.commands end show))
line_bytes m h (Back end) fits show =
    omega (arith, plan_bytes (plan_words m.commands end) (plan_short m.commands h.command_names.each end) (plan_count m.commands end show))

-- ---- the line and its LF

spaced_lacks : (words : List (List ℕ)) → All (Lacks 10) words → Lacks 10 (behind_spaces words)
spaced_lacks [] h = All-nil (λ b. b ≢ 10)
spaced_lacks (word ∷ words) h =
    All-cons (λ b. b ≢ 10) 32 (word ++ behind_spaces words) (λ e. absurd (omega (arith, e)))
    (All-append (λ b. b ≢ 10) word (behind_spaces words) (All-head (Lacks 10) word words h) (spaced_lacks words (All-tail (Lacks 10) word words h)))

-- the text behind the first space
from_words : (text : List ℕ) (words : List (List ℕ)) → 32 ∷ text ≡ behind_spaces words ++ 10 ∷ [] → All (Lacks 10) words → length (behind_spaces words) ≤ MAX_TRACE_LINE → IsShortLine text
from_words text [] e h few = absurd cc
from_words text (word ∷ words) e h few = record {
  line = word ++ behind_spaces words;
  is = ap (drop 1) e;
  clean = All-tail (λ b. b ≢ 10) 32 (word ++ behind_spaces words) (spaced_lacks (word ∷ words) h);
  short = omega arith;
}

pub short_line : (m : PlantModel) → WellFormed m → (value : TraceLine) → FitsLine m value → IsShowable value → IsShortLine (trace_line m value)
short_line m h value fits show =
    let clean : All (Lacks 10) (line_words m value) = All-weaker IsLineWord (Lacks 10) (λ word is. word_lacks 10 refl (λ e. absurd (omega (arith, e))) word is) (line_words m value) (line_formed m h value fits) in
    from_words (trace_line m value) (line_words m value) (line_spaced m value) clean (line_bytes m h value fits show)
