-- The line of a report is made of its numbers and of their names.
use Rattle.std.proofs.Common.{◌≡◌, ℕ, zero, suc, ◌+◌, ◌-◌, ◌<◌, ◌≤◌, List, [], ◌∷◌, ◌++◌, codes, length, map, take, replicate, slice_get, Option, Some, None, refl, sym, ap, ap₂, ◌∙◌, arith}
use Rattle.std.specs.Prelude.{unwrap_or}
use Rattle.std.specs.Fmt.{decimal}
use Rattle.std.specs.List.{range_with_len}
use Rattle.std.specs.Option.{option_map, option_map_or, option_and_then}
use Rattle.std.proofs.lemmas.List.{length-map, take_all}
use Rattle.std.proofs.lemmas.Option.{slice_get-map}
use Rattle.list_laws.proofs.Places.{some_at, place_inside}
use Rattle.cca_base.specs.declared.events.Reply.{Reply}
use Rattle.cca_base.specs.declared.events.Reply.TheVariants as reply
use Rattle.cca_base.specs.declared.events.Shown.{Shown}
use Rattle.cca_base.specs.declared.events.Shown.TheVariants as shown
use Rattle.cca_base.specs.declared.events.TickReport.{TickReport}
use Rattle.cca_base.specs.declared.model.Component.{Component}
use Rattle.cca_base.specs.PlantModel.{PlantModel}
use Rattle.cca_base.specs.Model.{HasMode, mode_counts}
use Rattle.trace_text.specs.LineWords.{mode_words, reply_words, shown_words}
use Rattle.trace_text.specs.Names.{choice_text, name_at, pair_text_at}
use Rattle.trace_text.specs.Reports.{report_line}
use Rattle.trace_text.specs.TraceLines.{FitsReply, FitsShown}
use Rattle.trace_text.specs.Words.{spaced_line}
use Rattle.model_numbers.specs.declared.modes.TheConstants.{NO_MODE}
use Rattle.model_numbers.specs.NumberLaws.{NumbersPrint}
use Rattle.model_numbers.specs.NumberedLines.{named_pair, named_reply, named_words}
use Rattle.model_numbers.specs.ReportNumbers.{modes_of, numbers_of, tells_of}

-- ---- names

name_there : (o : Option (List ℕ)) → option_map_or (λ (name : List ℕ). name) o [] ≡ unwrap_or o []
name_there None = refl
name_there (Some name) = refl

-- a component with its modes, where it is
pair_there : (m : PlantModel) (c mode : ℕ) (x : Component) → slice_get m.components c ≡ Some x → named_pair m (Some c) (Some mode) ≡ choice_text x.name x.modes mode
pair_there m c mode x at =
    let name : unwrap_or (slice_get (map (λ (y : Component). y.name) m.components) c) [] ≡ x.name =
    ap (λ (o : Option (List ℕ)). unwrap_or o []) (slice_get-map (λ (y : Component). y.name) m.components c ∙ ap (option_map (λ (y : Component). y.name)) at) in
    let of_mode : unwrap_or (option_and_then (λ (names : List (List ℕ)). slice_get names mode) (option_map (λ (y : Component). y.modes) (slice_get m.components c))) [] ≡ name_at x.modes mode =
    ap (λ (o : Option Component). unwrap_or (option_and_then (λ (names : List (List ℕ)). slice_get names mode) (option_map (λ (y : Component). y.modes) o)) []) at ∙ sym (name_there (slice_get x.modes mode)) in
    ap₂ (λ a b. a ++ 61 ∷ b) name of_mode

-- ---- replies

pair_printed : (m : PlantModel) (c mode : ℕ) → HasMode m c mode → pair_text_at m.components c mode ≡ named_pair m (Some c) (Some mode)
pair_printed m c mode has =
    let inside : c < length m.components = omega (arith, place_inside (mode_counts m) c mode has, length-map m.components (λ (x : Component). length x.modes)) in
    let x = some_at m.components c inside in
    ap (λ o. option_map_or (λ (y : Component). choice_text y.name y.modes mode) o []) x.1 ∙ sym (pair_there m c mode x.0 x.1)

reply_printed : (m : PlantModel) (tick cost : ℕ) (modes : List ℕ) (r : Reply) → FitsReply m r
    → let report : TickReport = record { tick = tick; shown = shown.Estimated cost (record { modes = modes }) r } in
    reply_words m r ≡ named_reply m (numbers_of m report) (numbers_of m report).reply
reply_printed m tick cost modes reply.Idle fits = refl
reply_printed m tick cost modes (reply.Send command) fits = ap (λ name. codes "send" ∷ name ∷ []) (name_there (slice_get m.commands command))
reply_printed m tick cost modes reply.Achieved fits = refl
reply_printed m tick cost modes (reply.Unreachable c mode) fits = ap (λ pair. codes "unreachable" ∷ pair ∷ []) (pair_printed m c mode fits)

-- ---- modes

-- what is said of each component in turn
each_printed : (said : ℕ → List ℕ) (first : ℕ) (components : List Component) (modes : List ℕ) → length modes ≡ length components
    → ((k mode : ℕ) (x : Component) → slice_get components k ≡ Some x → slice_get modes k ≡ Some mode → choice_text x.name x.modes mode ≡ said (first + k))
    → mode_words components modes ≡ map said (range_with_len first (length components))
each_printed said first [] modes full each = refl
each_printed said first (x ∷ components) [] full each = absurd (omega (arith, full))
each_printed said first (x ∷ components) (mode ∷ modes) full each =
    let here : first + 0 ≡ first = omega arith in
    let rest = each_printed said (first + 1) components modes (omega (arith, full)) (λ k next y at mode_at. let further : first + suc k ≡ (first + 1) + k = omega arith in each (suc k) next y at mode_at ∙ ap said further) in
    ap₂ (λ word words. word ∷ words) (each 0 mode x refl refl ∙ ap said here) rest

still_there : (modes more : List ℕ) (k mode : ℕ) → slice_get modes k ≡ Some mode → slice_get (modes ++ more) k ≡ Some mode
still_there [] more k mode at = absurd cc
still_there (x ∷ modes) more zero mode at = at
still_there (x ∷ modes) more (suc k) mode at = still_there modes more k mode at

modes_printed : (m : PlantModel) (modes more : List ℕ) → length modes ≡ length m.components
    → mode_words m.components modes ≡ map (λ c. named_pair m (Some c) (slice_get (modes ++ more) c)) (range_with_len 0 (length m.components))
modes_printed m modes more full =
    each_printed (λ c. named_pair m (Some c) (slice_get (modes ++ more) c)) 0 m.components modes full (λ k mode x at mode_at.
    let same : 0 + k ≡ k = omega arith in
    sym (pair_there m k mode x at) ∙ ap (named_pair m (Some k)) (sym (still_there modes more k mode mode_at)) ∙ ap (λ c. named_pair m (Some c) (slice_get (modes ++ more) c)) (sym same))

-- ---- what a tick shows

shown_printed : (m : PlantModel) (tick room : ℕ) (s : Shown) → FitsShown m s → length m.components ≤ room
    → let report : TickReport = record { tick = tick; shown = s } in
    shown_words m s ≡ named_words m (numbers_of m report) (modes_of report room) (tells_of s)
shown_printed m tick room (shown.Estimated cost state r) fits enough =
    let behind : List ℕ = replicate (room - length state.modes) NO_MODE in
    let full : length state.modes ≡ length m.components = fits.1.full in
    let whole : take room state.modes ≡ state.modes = take_all room state.modes (omega (arith, full, enough)) in
    let modes = modes_printed m state.modes behind full ∙ ap (λ first. map (λ c. named_pair m (Some c) (slice_get (first ++ behind) c)) (range_with_len 0 (length m.components))) (sym whole) in
    ap₂ (λ a b. codes "cost" ∷ decimal cost ∷ codes "modes" ∷ a ++ b) modes (reply_printed m tick cost state.modes r fits.2)
shown_printed m tick room shown.Unexplained fits enough = refl
shown_printed m tick room shown.Holding fits enough = refl

pub numbers_print : NumbersPrint
unfolding report_line
numbers_print m report room fits enough =
    ap (λ words. spaced_line (codes "tick") (decimal report.tick ∷ words)) (shown_printed m report.tick room report.shown fits.1 enough)
