use Rattle.std.proofs.Common.{◌∙◌}
use Rattle.std.proofs.lemmas.List.Elements.{All-same}
use Rattle.trace_text.specs.Json.{HasAsciiNames}
use Rattle.trace_text.proofs.AsciiNames.{ascii_components}
use Rattle.trace_text.proofs.json.put_shown.Goals as goal

pub modes_value-requires : goal.modes_value-requires
modes_value-requires c =
    All-same HasAsciiNames c.as_slice-components.result.now c.args.model.now.components (c.as_slice-components.ensures ∙ c.components.ensures.value)
    (ascii_components c.args.model.now c.components.ensures.well_formed)
