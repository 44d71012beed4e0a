use Rattle.std.proofs.Common.{sym}
use Rattle.formula_syntax.proofs.UnknownNames.{long_is_unknown}
use Rattle.formula_syntax.proofs.named_model.subject_in.Goals as goal

pub returns-then-text-gt-MAX_NAME : goal.returns-then-text-gt-MAX_NAME
returns-then-text-gt-MAX_NAME c =
    sym (long_is_unknown c.args.model.now c.args.text.now c.components-well_formed.ensures.well_formed c.if-text-gt-MAX_NAME.true)
