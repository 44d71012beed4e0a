use Rattle.std.proofs.Common.{[], ◌∷◌, ap, ◌∙◌}
use Rattle.model_syntax.specs.Printing.{header_said}
use Rattle.model_syntax.specs.Drafts.{with_lines}
use Rattle.model_syntax.proofs.PrintedText.{printed_model-made}
use Rattle.model_syntax.proofs.print.print_model.Goals as goal

pub returns : goal.returns
returns c =
    c.into_text.ensures
    ∙ printed_model-made c.args.model.now c.header.new.out c.components.new.out c.variables.new.out c.rules.new.out c.moves.new.out c.failures.new.out
    (c.in_ok-header.ensures ∙ ap (λ t. with_lines t (header_said c.args.model.now.version ∷ [])) c.new-out.ensures) c.in_ok-components.ensures c.in_ok-variables.ensures c.in_ok-rules.ensures c.in_ok-moves.ensures c.in_ok-failures.ensures
