use Rattle.plan_checker.proofs.CostSums.{change_of}
use Rattle.plan_checker.proofs.cost.change_cost.Goals as goal

pub returns : goal.returns
returns c = change_of c.args.model.now c.args.component c.args.from c.args.nominal c.args.to c.least_cost.result c.if-to-nominal.false c.least_cost.ensures
