use Rattle.model_syntax.proofs.PrintedTokens.{list_begun}
use Rattle.model_syntax.proofs.print_names.list.Goals as goal

pub loop-name-init : goal.loop-name-init
loop-name-init c = list_begun c.args.out.now c.word.new.self c.args.names.now c.first-item.result c.bytes.result.now c.in-len1-up.len_at_least c.first-item.is c.bytes.ensures c.in_ok-word.ensures
