-- What is read of a tick's line, and that nothing else has its words.
use Rattle.std.proofs.Common.{◌≡◌, ◌≢◌, ◌<◌, ◌+◌, ℕ, List, [], ◌∷◌, ◌++◌, length, map, take, drop, refl, sym, ap, ◌∙◌, arith}
use Rattle.std.specs.Prelude.{codes}
use Rattle.std.specs.Fmt.{decimal}
use Rattle.std.proofs.lemmas.List.{length-append, length-map}
use Rattle.std.proofs.Math.Seq.{take-append_seam, drop-append_seam}
use Rattle.cca_base.specs.declared.events.Reply.{Reply}
use Rattle.cca_base.specs.declared.events.Reply.TheVariants.{Idle, Send, Achieved, Unreachable}
use Rattle.cca_base.specs.declared.events.Shown.{Shown}
use Rattle.cca_base.specs.declared.events.Shown.TheVariants.{Estimated, Unexplained, Holding}
use Rattle.cca_base.specs.declared.state.State.{State}
use Rattle.cca_base.specs.PlantModel.{PlantModel}
use Rattle.cca_base.specs.Model.{HasMode}
use Rattle.cca_base.specs.State.{IsState}
use Rattle.trace_text.specs.Names.{mode_row, pair_text_at}
use Rattle.trace_text.specs.TraceLines.{FitsReply, FitsShown}
use Rattle.trace_text.specs.LineWords.{mode_words, reply_words, shown_words}
use Rattle.trace_text.proofs.ChosenRows.{length-choice_words}
use Rattle.trace_text.proofs.RowsOfModels.{state_is_chosen}
use Rattle.trace_text.proofs.WordsApart.{others}

-- ---- replies

pub no_unreachable : (m : PlantModel) (kind word : List ℕ) → kind ≡ codes "unreachable" → ((p : ℕ × ℕ) → HasMode m p.0 p.1 → pair_text_at m.components p.0 p.1 ≢ word)
    → (reply : Reply) → FitsReply m reply → reply_words m reply ≢ kind ∷ word ∷ []
no_unreachable m kind word is none Idle h e = absurd cc
no_unreachable m kind word is none Achieved h e = absurd cc
no_unreachable m kind word is none (Send k) h e =
    let kinds : codes "send" ≡ kind = cc in others (codes "send") (codes "unreachable") [] [] refl (ap (λ t. t ∷ []) (kinds ∙ is))
no_unreachable m kind word is none (Unreachable c mode) h e =
    let text : pair_text_at m.components c mode ≡ word = cc in none (c, mode) h text

-- ---- estimates

-- a state and a reply have these words
record IsEstimate (m : PlantModel) (words : List (List ℕ)) : Type 0 where
  state : State
  reply : Reply
  fits : IsState m state.modes
  named : FitsReply m reply
  said : mode_words m.components state.modes ++ reply_words m reply ≡ words

estimate : (m : PlantModel) (cost : ℕ) (words : List (List ℕ)) (shown : Shown) → FitsShown m shown → shown_words m shown ≡ codes "cost" ∷ decimal cost ∷ codes "modes" ∷ words → IsEstimate m words
estimate m cost words (Estimated other state reply) fits e =
    let rest : mode_words m.components state.modes ++ reply_words m reply ≡ words = cc in record { state = state; reply = reply; fits = fits.1; named = fits.2; said = rest }
estimate m cost words Unexplained fits e = absurd (others (codes "unexplained") (codes "cost") [] (decimal cost ∷ codes "modes" ∷ words) refl e)
estimate m cost words Holding fits e = absurd (others (codes "holding") (codes "cost") [] (decimal cost ∷ codes "modes" ∷ words) refl e)

many_modes : (m : PlantModel) (s : List ℕ) → IsState m s → length (mode_words m.components s) ≡ length m.components
many_modes m s h = length-choice_words (map mode_row m.components) s (state_is_chosen m s h) ∙ length-map m.components mode_row

pub too_few_words : (m : PlantModel) (cost : ℕ) (words : List (List ℕ)) → length words < length m.components
    → (shown : Shown) → FitsShown m shown → shown_words m shown ≢ codes "cost" ∷ decimal cost ∷ codes "modes" ∷ words
too_few_words m cost words few shown fits e =
    let x = estimate m cost words shown fits e in
    let many : length (mode_words m.components x.state.modes) ≡ length m.components = many_modes m x.state.modes x.fits in
    let all : length (mode_words m.components x.state.modes) + length (reply_words m x.reply) ≡ length words = sym (length-append (mode_words m.components x.state.modes) (reply_words m x.reply)) ∙ ap length x.said in
    omega arith

pub no_reply : (m : PlantModel) (cost : ℕ) (words : List (List ℕ)) → ((reply : Reply) → FitsReply m reply → reply_words m reply ≢ drop (length m.components) words)
    → (shown : Shown) → FitsShown m shown → shown_words m shown ≢ codes "cost" ∷ decimal cost ∷ codes "modes" ∷ words
no_reply m cost words none shown fits e =
    let x = estimate m cost words shown fits e in
    let many : length (mode_words m.components x.state.modes) ≡ length m.components = many_modes m x.state.modes x.fits in
    none x.reply x.named (sym (drop-append_seam (mode_words m.components x.state.modes) (reply_words m x.reply)) ∙ ap (λ n. drop n (mode_words m.components x.state.modes ++ reply_words m x.reply)) many ∙ ap (drop (length m.components)) x.said)

pub no_state : (m : PlantModel) (cost : ℕ) (words : List (List ℕ)) → ((s : List ℕ) → IsState m s → mode_words m.components s ≢ take (length m.components) words)
    → (shown : Shown) → FitsShown m shown → shown_words m shown ≢ codes "cost" ∷ decimal cost ∷ codes "modes" ∷ words
no_state m cost words none shown fits e =
    let x = estimate m cost words shown fits e in
    let many : length (mode_words m.components x.state.modes) ≡ length m.components = many_modes m x.state.modes x.fits in
    none x.state.modes x.fits
    (sym (take-append_seam (mode_words m.components x.state.modes) (reply_words m x.reply)) ∙ ap (λ n. take n (mode_words m.components x.state.modes ++ reply_words m x.reply)) many ∙ ap (take (length m.components)) x.said)
