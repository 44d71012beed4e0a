-- The line of any report of a model fits into the room for reports.
use Rattle.std.proofs.Common.{◌+◌, ◌*◌, ◌<◌, ◌≤◌, ◌^◌, ℕ, List, [], ◌∷◌, ◌++◌, length, map, Result, Ok, Err, ap, arith}
use Rattle.std.specs.Prelude.{codes, OnOk}
use Rattle.byte_buffer.specs.Outs.{Buffered, Pushes}
use Rattle.std.specs.Fmt.{decimal}
use Rattle.std.proofs.lemmas.Fmt.{length-decimal-le}
use Rattle.std.proofs.lemmas.List.{length-append, length-map}
use Rattle.std.proofs.lemmas.List.Elements.{All-weaker}
use Rattle.std.proofs.lemmas.Grind.{flat_map-append}
use Rattle.cca_base.specs.declared.events.Reply.{Reply}
use Rattle.cca_base.specs.declared.events.Reply.TheVariants.{Idle, Send, Achieved, Unreachable}
use Rattle.cca_base.specs.declared.events.Shown.{Shown}
use Rattle.cca_base.specs.declared.events.Shown.TheVariants.{Estimated, Unexplained, Holding}
use Rattle.cca_base.specs.declared.events.TickReport.{TickReport}
use Rattle.cca_base.specs.Model.{WellFormed}
use Rattle.cca_base.specs.PlantModel.{PlantModel}
use Rattle.cca_base.proofs.ModelNames.{model_names}
use Rattle.trace_text.specs.LineWords.{choice_words, mode_words, reply_words, shown_words}
use Rattle.trace_text.specs.Names.{Row, mode_row, name_at, pair_text_at}
use Rattle.trace_text.specs.ReportRefs.{HasSmallCost, HasSmallNumbers, most_bytes}
use Rattle.trace_text.specs.Reports.{report_line}
use Rattle.trace_text.specs.Words.{behind_spaces}
use Rattle.trace_text.proofs.RowsOfModels.{mode_rows}
use Rattle.trace_text.proofs.ShortLines.{spaced_length}
use Rattle.trace_text.proofs.ShortWords.{IsLineWord, choices_formed, name_at_short, pair_formed, word_length}

-- not more words than rows
length-choice_words-le : (rows : List Row) (ks : List ℕ) → length (choice_words rows ks) ≤ length rows
length-choice_words-le [] ks = omega arith
length-choice_words-le (r ∷ rs) [] = omega arith
length-choice_words-le (r ∷ rs) (k ∷ ks) = omega (arith, length-choice_words-le rs ks)

few_digits : (n : ℕ) → n < 2 ^ 64 → length (decimal n) ≤ 20
few_digits n h = length-decimal-le 20 n (omega arith) (omega arith) h

modes_fit : (m : PlantModel) → WellFormed m → (modes : List ℕ) → length (behind_spaces (mode_words m.components modes)) ≤ 66 * length m.components
modes_fit m h modes =
    let words = mode_words m.components modes in
    let most : length (behind_spaces words) ≤ length words * 66 =
    spaced_length 66 words (All-weaker IsLineWord (λ word. length word < 66) (λ word is. omega (arith, word_length word is)) words (choices_formed (map mode_row m.components) modes (mode_rows m h))) in
    omega (arith, most, length-choice_words-le (map mode_row m.components) modes, length-map m.components mode_row)

reply_fits : (m : PlantModel) → WellFormed m → (reply : Reply) → length (behind_spaces (reply_words m reply)) ≤ 78
reply_fits m h Idle = omega arith
reply_fits m h (Send k) = omega (arith, (name_at_short m.commands k h.command_names.each).short, length-append (name_at m.commands k) [])
reply_fits m h Achieved = omega arith
reply_fits m h (Unreachable c mode) =
    omega (arith, word_length (pair_text_at m.components c mode) (pair_formed m.components c mode (model_names m h)), length-append (pair_text_at m.components c mode) [])

shown_fits : (m : PlantModel) → WellFormed m → (shown : Shown) → HasSmallCost shown → length (behind_spaces (shown_words m shown)) ≤ 66 * length m.components + 110
shown_fits m h (Estimated cost state reply) small =
    let modes = mode_words m.components state.modes in
    let said = reply_words m reply in
    omega (
      arith,
      few_digits cost small,
      modes_fit m h state.modes,
      reply_fits m h reply,
      length-append (behind_spaces modes) (behind_spaces said),
      ap length (flat_map-append (λ (word : List ℕ). 32 ∷ word) modes said),
      length-append (decimal cost) (behind_spaces (codes "modes" ∷ modes ++ said)),
    )
shown_fits m h Unexplained small = omega arith
shown_fits m h Holding small = omega arith

pub report_fits : (m : PlantModel) (r : TickReport) → WellFormed m → HasSmallNumbers r → length (report_line m r) ≤ most_bytes m
unfolding report_line
report_fits m r h small =
    let shown = behind_spaces (shown_words m r.shown) in
    omega (arith, few_digits r.tick small.0, shown_fits m h r.shown small.1, length-append (decimal r.tick) shown, length-append (decimal r.tick ++ shown) (10 ∷ []))

-- so does what is pushed of it
pub pushed_fits : {A E : Type 0} (m : PlantModel) (r : TickReport) (result : Result A E) (old new : Buffered) → WellFormed m → HasSmallNumbers r → Pushes (report_line m r) old result new → OnOk result (length new.bytes ≤ length old.bytes + most_bytes m)
pushed_fits m r (Ok a) old new h small p = omega (arith, ap length p.ok, length-append old.bytes (report_line m r), report_fits m r h small)
pushed_fits m r (Err e) old new h small p = tt
