use Rattle.text_base.proofs.LongestTokens.{tokens_longest}
use Rattle.text_base.proofs.token.tokens_are_longest.Goals as goal

pub returns : goal.returns
returns c = tokens_longest
