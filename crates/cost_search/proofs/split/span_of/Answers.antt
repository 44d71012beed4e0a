use Rattle.std.proofs.Common.{arith}
use Rattle.cost_search.proofs.Boxes.{spans-long, span-is}
use Rattle.cost_search.proofs.split.span_of.Goals as goal

pub get-requires : goal.get-requires
get-requires c = omega (arith, spans-long c.args.rows.now c.args.part.now.spans c.requires.part.each, c.requires.at)

pub returns-clause-span : goal.returns-clause-span
returns-clause-span c = span-is c.args.rows.now c.args.part.now.spans c.args.at c.get.result.now c.requires.part.each c.requires.at c.get.ensures.item
