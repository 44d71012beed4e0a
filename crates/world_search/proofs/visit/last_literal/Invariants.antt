use Rattle.std.proofs.Common.{ℕ, ◌<◌, ◌≤◌, ◌≢◌, length, slice_index, slice_index_or, bit_and}
use Rattle.clash_analysis.specs.Learning.{IsOut}
use Rattle.world_search.specs.declared.words.WordLiteral.{WordLiteral}
use Rattle.world_search.specs.Words.{literal_of}
use Rattle.world_search.proofs.visit.last_literal.Given as goal

abbrev pub invariant-loop-i : goal.invariant-loop-i
invariant-loop-i l = record {
  place : l.found ≤ length l.literals;
  before : l.found < length l.literals → l.found < l.i;
  others : (i : ℕ) (w : WordLiteral) → i < l.i → i ≢ l.found → IsOut l.dom (literal_of (slice_index_or l.literals i w));
  open_one : (w : WordLiteral) → l.found < length l.literals → bit_and (slice_index l.dom (slice_index_or l.literals l.found w).subject) (slice_index_or l.literals l.found w).values ≢ 0;
}
