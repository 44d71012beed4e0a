use Rattle.text_base.proofs.AheadLaws.{read_more}
use Rattle.text_base.proofs.ahead.Ahead.of.Goals as goal

pub tokens-preserved : goal.tokens-preserved
tokens-preserved c = read_more c.args.line.now c.tokens.at c.in-Here.token c.tokens.invariant c.in-Here.ensures.1 c.in-Here.ensures.2
