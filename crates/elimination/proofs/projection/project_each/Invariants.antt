use Rattle.std.proofs.Common.{◌≡◌, ◌≤◌, ℕ, length}
use Rattle.cca_base.specs.Flags.{IsSet, unset}
use Rattle.clause_form.specs.Clauses.{AllBelow, AllOthers}
use Rattle.elimination.specs.Projection.{IsProjectedSoFar}
use Rattle.elimination.proofs.projection.project_each.Given as goal

abbrev pub invariant-subjects : goal.invariant-subjects
invariant-subjects l = record {
  full : length l.marks.items ≡ length l.clauses.sizes;
  above : (x : ℕ) → IsSet l.marks.items x → l.keep ≤ x;
  gone : (x : ℕ) → IsSet l.marks.items x → AllOthers x l.left.items;
  exact : IsProjectedSoFar l.clauses.sizes l.marks.items l.clauses.clauses l.left.items;
  below : AllBelow (length l.clauses.sizes) l.left.items;
}

abbrev pub decreases-subjects : goal.decreases-subjects
decreases-subjects l = unset l.marks.items
