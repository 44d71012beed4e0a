use Rattle.std.proofs.Common.{◌+◌, ◌*◌, slice_index}
use Rattle.cca_base.specs.Model.{mode_counts}
use Rattle.policy_tables.specs.Filling.{AreRightTo}
use Rattle.policy_tables.proofs.filling.skip_row.Given as goal

abbrev pub invariant-loop-to : goal.invariant-loop-to
invariant-loop-to l =
    AreRightTo l.classes l.ways l.component (slice_index (mode_counts l.classes.compiled.model) l.component) l.codes
    (l.from * slice_index (mode_counts l.classes.compiled.model) l.component + l.to)
