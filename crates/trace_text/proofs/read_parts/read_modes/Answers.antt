use Rattle.std.proofs.Common.{◌∙◌, map}
use Rattle.trace_text.proofs.RowsOfModels.{state_is_read}
use Rattle.trace_text.proofs.read_parts.read_modes.Goals as goal

pub returns : goal.returns
returns c = state_is_read c.args.model.now _ (map (λ w. w.now) c.args.words.now) c.read_each.result (c.as_slice-components.ensures ∙ c.components.ensures.value) c.read_each.ensures
