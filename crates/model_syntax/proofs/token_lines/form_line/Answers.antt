use Rattle.std.proofs.Common.{Some, sym, subst}
use Rattle.model_syntax.specs.Items.{shown_item}
use Rattle.model_syntax.specs.Lines.{AnswersLine, LeadsByForm}
use Rattle.model_syntax.proofs.token_lines.form_line.Goals as goal

pub returns-else-begun : goal.returns-else-begun
returns-else-begun c =
    let m = c.args.model.now in
    subst (λ b. AnswersLine c.opening_line.result (record { model = m; begun = c.args.begun.now }) (record { model = c.opening_line.new.model; begun = c.opening_line.new.begun }) (LeadsByForm b m (Some (shown_item c.args.item))))
    (sym c.if-begun.false) c.opening_line.ensures
