use Rattle.std.proofs.Common.{sym, ◌∙◌}
use Rattle.text_base.specs.Lexemes.{lexeme_of}
use Rattle.script_reader.proofs.AskedItems.{not_left_out}
use Rattle.script_reader.proofs.asking.item_asked.Goals as goal

pub returns-else-is_left_out-clause-asked : goal.returns-else-is_left_out-clause-asked
returns-else-is_left_out-clause-asked c =
    let k = c.args.context.now in
    c.form_asked.ensures.asked ∙ not_left_out k.model k.pending.now k.mirrored c.args.goals (lexeme_of c.args.first.now) c.args.rest (sym c.if-is_left_out.ensures)
