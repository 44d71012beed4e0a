use Rattle.model_syntax.proofs.JoinedTokens.{joined_read}
use Rattle.model_syntax.proofs.print_laws.joined_are_tokens.Goals as goal

pub returns : goal.returns
returns c = joined_read
