use Rattle.std.proofs.Common.{◌≤◌, ◌-◌, length}
use Rattle.clause_form.proofs.literals.skip.Given as goal

abbrev pub invariant-passing : goal.invariant-passing
invariant-passing l = record { above : l.at ≤ l.next; inside : l.next ≤ length l.literals }

abbrev pub decreases-passing : goal.decreases-passing
decreases-passing l = length l.literals - l.next
