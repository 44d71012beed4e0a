use Rattle.std.proofs.Common.{◌≡◌, ◌∙◌, ap, arith, length, map}
use Rattle.std.proofs.lemmas.List.{length-map}
use Rattle.trace_text.proofs.ReadReports.{too_few_words, no_reply, no_state}
use Rattle.list_laws.proofs.WordsByPlace.{words_dropped, words_taken}
use Rattle.trace_text.proofs.read_report.read_estimate.Goals as goal

pub returns-then-words-components : goal.returns-then-words-components
returns-then-words-components c =
    let same : length c.as_slice-components.result.now ≡ length c.args.model.now.components = ap length (c.as_slice-components.ensures ∙ c.components.ensures.value) in
    too_few_words c.args.model.now c.args.cost (map (λ w. w.now) c.args.words.now) (let many = length-map c.args.words.now (λ w. w.now) in omega arith)

pub returns-in_default : goal.returns-in_default
returns-in_default c =
    let same : length c.as_slice-components.result.now ≡ length c.args.model.now.components = ap length (c.as_slice-components.ensures ∙ c.components.ensures.value) in
    no_reply c.args.model.now c.args.cost (map (λ w. w.now) c.args.words.now)
    (λ reply h e. c.in_default.ensures reply h (e ∙ words_dropped c.args.words.now c.split_at.result.1.now _ _ c.split_at.ensures.back same))

pub returns-in-None : goal.returns-in-None
returns-in-None c =
    let same : length c.as_slice-components.result.now ≡ length c.args.model.now.components = ap length (c.as_slice-components.ensures ∙ c.components.ensures.value) in
    let none = rw c.in-None.is at c.in_ok-modes.ensures in
    no_state c.args.model.now c.args.cost (map (λ w. w.now) c.args.words.now)
    (λ s h e. none s h (e ∙ words_taken c.args.words.now c.split_at.result.0.now _ _ c.split_at.ensures.front same))
