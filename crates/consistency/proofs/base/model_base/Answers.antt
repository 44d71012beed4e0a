use Rattle.std.proofs.Common.{ap, ◌∙◌, length}
use Rattle.consistency.proofs.Bridge.{asked_modes, seen_pairs}
use Rattle.consistency.proofs.base.model_base.Goals as goal

pub base_of-requires-clause-modes : goal.base_of-requires-clause-modes
base_of-requires-clause-modes c = asked_modes c.args.model.now c.args.sizes.now c.args.modes.now c.requires.sizes c.components.ensures.well_formed c.requires.modes

pub base_of-requires-clause-seen : goal.base_of-requires-clause-seen
base_of-requires-clause-seen c =
    seen_pairs c.args.model.now c.args.sizes.now c.len-components.result c.args.seen.now c.requires.sizes c.components.ensures.well_formed
    (c.len-components.ensures ∙ ap length c.components.ensures.value) c.requires.seen
