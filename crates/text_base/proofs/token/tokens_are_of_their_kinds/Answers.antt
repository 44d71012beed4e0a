use Rattle.text_base.proofs.TokenKinds.{tokens_of_kinds}
use Rattle.text_base.proofs.token.tokens_are_of_their_kinds.Goals as goal

pub returns : goal.returns
returns c = tokens_of_kinds
