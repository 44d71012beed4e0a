use Rattle.std.proofs.Common.{sym}
use Rattle.formula_syntax.proofs.UnknownCommands.{long_is_none}
use Rattle.trace_text.proofs.commands.place_by.Goals as goal

pub returns-then-word-gt-MAX_NAME : goal.returns-then-word-gt-MAX_NAME
returns-then-word-gt-MAX_NAME c = sym (long_is_none c.args.model.now c.args.word.now c.commands.ensures.well_formed c.if-word-gt-MAX_NAME.true)
