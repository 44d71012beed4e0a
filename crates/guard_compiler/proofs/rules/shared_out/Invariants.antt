use Rattle.std.proofs.Common.{◌≤◌, ◌+◌, ◌*◌, ◌-◌, length}
use Rattle.guard_compiler.specs.declared.rules.TheConstants.{MOST_OWNED}
use Rattle.clause_form.specs.Clauses.{AllBelow}
use Rattle.guard_compiler.specs.Shared.{AreSharedOut}
use Rattle.guard_compiler.proofs.rules.shared_out.Given as goal

abbrev pub invariant-rounds : goal.invariant-rounds
invariant-rounds l = record {
  some : 1 ≤ l.most;
  few : l.most ≤ 2 * MOST_OWNED;
  below : AllBelow (length l.sizes) l.left.items;
  shared : AreSharedOut l.sizes l.components l.clauses l.rules l.left.items;
}

abbrev pub decreases-rounds : goal.decreases-rounds
decreases-rounds l = length l.left.items + (2 * MOST_OWNED - l.most)
