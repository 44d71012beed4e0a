use Rattle.std.proofs.Common.{◌≡◌, ◌<◌, ℕ, true, slice_index_or}
use Rattle.cca_base.specs.Sets.{has}
use Rattle.cca_base.specs.declared.choice.Choice.{Choice}
use Rattle.cca_base.specs.declared.limits.TheConstants.{MAX_CHOICES}
use Rattle.mode_estimator.proofs.first.mask_of.Given as goal

abbrev pub invariant-loop-choice : goal.invariant-loop-choice
invariant-loop-choice l = (k : ℕ) (d : Choice) → k < l.choice-index → (slice_index_or l.row k d).mode < MAX_CHOICES → has l.modes (slice_index_or l.row k d).mode ≡ true
