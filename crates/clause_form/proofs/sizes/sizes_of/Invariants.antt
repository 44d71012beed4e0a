use Rattle.std.proofs.Common.{◌≡◌, ◌++◌, take}
use Rattle.cca_base.specs.Model.{mode_counts, value_counts}
use Rattle.clause_form.proofs.sizes.sizes_of.Given as goal

abbrev pub invariant-loop-subject : goal.invariant-loop-subject
invariant-loop-subject l = l.counts ≡ take l.subject (mode_counts l.model ++ value_counts l.model)
