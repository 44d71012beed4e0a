use Rattle.std.proofs.Common.{◌≡◌, ℕ, ◌<◌, ◌≤◌, not, false}
use Rattle.cca_base.specs.Sets.{has}
use Rattle.clause_form.proofs.convert.complement.Given as goal

abbrev pub invariant-loop-n : goal.invariant-loop-n
invariant-loop-n l = record {
  below : (m : ℕ) → m < l.n → has l.others m ≡ not (has l.set m);
  above : (m : ℕ) → l.n ≤ m → has l.others m ≡ false;
}
