use Rattle.std.proofs.Common.{◌≡◌, ℕ, ◌<◌, ◌≢◌, true, slice_index_or}
use Rattle.clash_analysis.specs.Subjects.{is_in}
use Rattle.world_search.specs.declared.words.WordLiteral.{WordLiteral}
use Rattle.world_search.proofs.visit.others.Given as goal

abbrev pub invariant-loop-i : goal.invariant-loop-i
invariant-loop-i l = record {
  all : (i : ℕ) (w : WordLiteral) → i < l.i → i ≢ l.skip → is_in l.all (slice_index_or l.literals i w).subject ≡ true;
  inside : (v : ℕ) → is_in l.all v ≡ true → v < l.subjects;
}
