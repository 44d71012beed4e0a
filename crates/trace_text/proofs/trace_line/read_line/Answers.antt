use Rattle.std.proofs.Common.{map, sym, ◌∙◌}
use Rattle.trace_text.specs.Words.{AreWords}
use Rattle.trace_text.proofs.LinesAsWords.{text_by_words, words_by_text}
use Rattle.trace_text.proofs.OneTextEach.{lines_are_told_apart}
use Rattle.trace_text.proofs.trace_line.read_line.Goals as goal

pub returns-in-Some-clause-text : goal.returns-in-Some-clause-text
returns-in-Some-clause-text c =
    let words : AreWords c.args.line.now (map (λ w. w.now) c.as_slice.result.now) = rw c.as_slice.ensures.value c.in_ok-words.ensures in
    text_by_words c.args.model.now c.args.line.now (map (λ w. w.now) c.as_slice.result.now) c.in-Some.value words (rw c.in-Some.is at c.in_ok-value.ensures).1

pub returns-in-Some-clause-only : goal.returns-in-Some-clause-only
returns-in-Some-clause-only c = λ other fits text.
    let m = c.args.model.now in
    let words : AreWords c.args.line.now (map (λ w. w.now) c.as_slice.result.now) = rw c.as_slice.ensures.value c.in_ok-words.ensures in
    let read = rw c.in-Some.is at c.in_ok-value.ensures in
    let own = text_by_words m c.args.line.now (map (λ w. w.now) c.as_slice.result.now) c.in-Some.value words read.1 in
    lines_are_told_apart m c.components-well_formed.ensures.well_formed other c.in-Some.value fits read.0 (text ∙ sym own)

pub returns-clause-not_a_line : goal.returns-clause-not_a_line
returns-clause-not_a_line c = λ not value fits text.
    let words : AreWords c.args.line.now (map (λ w. w.now) c.as_slice.result.now) = rw c.as_slice.ensures.value c.in_ok-words.ensures in
    (rw c.in-None.is at c.in_ok-value.ensures) value fits (words_by_text c.args.model.now c.components-well_formed.ensures.well_formed c.args.line.now (map (λ w. w.now) c.as_slice.result.now) value words fits text)
