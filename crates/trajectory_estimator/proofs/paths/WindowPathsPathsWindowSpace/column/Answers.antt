use Rattle.std.proofs.Common.{refl, ◌∙◌}
use Rattle.trajectory_estimator.specs.PlaceLaws.{length-places}
use Rattle.trajectory_estimator.proofs.ColumnLaws.{is_column, no_column}
use Rattle.trajectory_estimator.proofs.paths.WindowPathsPathsWindowSpace.column.Goals as goal

pub invariant_of-asked : goal.invariant_of-asked
invariant_of-asked c = record { within = c.requires.component; full = c.requires.masks ∙ length-places c.args.self.now.query.now }

pub returns-then-not-follow-clause-none : goal.returns-then-not-follow-clause-none
returns-then-not-follow-clause-none c = λ e. no_column _ c.fill_rests.new.room c.fill_rests.ensures (c.follow.ensures.none c.if-not-follow.true)

pub set_prices-requires-clause-least : goal.set_prices-requires-clause-least
set_prices-requires-clause-least c = (c.follow.ensures.walk c.if-not-follow.false).least

pub returns-clause-stands : goal.returns-clause-stands
returns-clause-stands c = λ e.
    is_column _ _ c.follow.new.columns _ c.set_prices.new.columns (c.follow.ensures.walk c.if-not-follow.false) refl refl c.set_prices.ensures.kept c.set_prices.ensures.priced c.args.self.now.few_records
