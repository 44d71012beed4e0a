use Rattle.std.proofs.Common.{◌≡◌, ◌≢◌, ◌⊎◌, ℕ, true, slice_index}
use Rattle.clash_analysis.specs.Subjects.{is_in}
use Rattle.consistency.proofs.backbone.with_differing.Given as goal

abbrev pub invariant-loop-at : goal.invariant-loop-at
invariant-loop-at l = (d : ℕ) → is_in l.varied d ≡ true → (is_in l.subjects d ≡ true) ⊎ (slice_index l.one d ≢ slice_index l.other d)
