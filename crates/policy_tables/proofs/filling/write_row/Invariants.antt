use Rattle.std.proofs.Common.{◌+◌, ◌*◌, slice_index}
use Rattle.cca_base.specs.Model.{mode_counts}
use Rattle.policy_tables.specs.Filling.{AreRightTo}
use Rattle.policy_tables.proofs.filling.write_row.Given as goal

abbrev pub invariant-loop-to : goal.invariant-loop-to
invariant-loop-to l =
    AreRightTo l.classes l.ways l.work.leaving.component (slice_index (mode_counts l.classes.compiled.model) l.work.leaving.component) l.codes
    (l.work.leaving.mode * slice_index (mode_counts l.classes.compiled.model) l.work.leaving.component + l.to)
