use Rattle.std.proofs.Common.{◌∙◌, map, ap, sym, length}
use Rattle.std.proofs.lemmas.List.{length-map}
use Rattle.trace_text.proofs.RowsOfModels.{other_count, values_are_read}
use Rattle.trace_text.proofs.read_parts.read_values.Goals as goal

pub returns-then-words-variables : goal.returns-then-words-variables
returns-then-words-variables c =
    other_count c.args.model.now (map (λ w. w.now) c.args.words.now)
    (λ e. c.if-words-variables.true (sym (length-map c.args.words.now (λ w. w.now)) ∙ e ∙ ap length (sym (c.as_slice-variables.ensures ∙ c.variables.ensures.value))))

pub returns : goal.returns
returns c = values_are_read c.args.model.now _ (map (λ w. w.now) c.args.words.now) c.read_each.result (c.as_slice-variables.ensures ∙ c.variables.ensures.value) c.read_each.ensures
