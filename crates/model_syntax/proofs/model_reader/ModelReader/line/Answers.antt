use Rattle.std.proofs.Common.{map, sym, subst}
use Rattle.std.specs.List.{AllByRecursion}
use Rattle.text_base.specs.Tokens.{IsOfItsKind, token_view}
use Rattle.text_base.proofs.TokenKinds.{tokens_of_kinds}
use Rattle.model_syntax.proofs.model_reader.ModelReader.line.Goals as goal

pub tokens_line-requires : goal.tokens_line-requires
tokens_line-requires c =
    subst (λ ts. AllByRecursion IsOfItsKind (map token_view ts)) (sym c.as_slice.ensures.value) (tokens_of_kinds c.args.text.now _ c.in-Ok.ensures)
