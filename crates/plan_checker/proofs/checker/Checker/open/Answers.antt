use Rattle.std.proofs.Common.{sym, subst}
use Rattle.plan_checker.specs.Standing.{FitsModel}
use Rattle.plan_checker.proofs.EventsFit.{start_fits}
use Rattle.plan_checker.proofs.checker.Checker.open.Goals as goal

pub returns-clause-fits : goal.returns-clause-fits
returns-clause-fits c = subst (FitsModel c.args.model.now) (sym c.in_ok-standing.ensures) (start_fits c.args.model.now 0 c.moves-moves.ensures.well_formed)
