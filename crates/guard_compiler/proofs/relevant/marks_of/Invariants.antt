use Rattle.std.proofs.Common.{◌≡◌, All, length}
use Rattle.cca_base.specs.Flags.{is_set, unset}
use Rattle.guard_compiler.specs.Naming.{IsOver}
use Rattle.guard_compiler.proofs.relevant.marks_of.Given as goal

abbrev pub invariant-rounds : goal.invariant-rounds
invariant-rounds l = record {
  full : length l.marks.items ≡ l.subjects;
  of_guard : All (IsOver l.components (is_set l.marks.items)) l.guard;
}

abbrev pub decreases-rounds : goal.decreases-rounds
decreases-rounds l = unset l.marks.items
