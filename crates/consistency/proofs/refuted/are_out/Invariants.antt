use Rattle.std.proofs.Common.{◌≡◌, ℕ, List, false, take}
use Rattle.clause_form.specs.Clauses.{is_met}
use Rattle.world_search.specs.Spaces.{base_in}
use Rattle.world_search.specs.Worlds.{IsSolution}
use Rattle.consistency.proofs.refuted.are_out.Given as goal

abbrev pub invariant-loop-literal : goal.invariant-loop-literal
invariant-loop-literal l = (xs : List ℕ) → IsSolution l.problem.clauses (base_in l.space) xs → is_met xs (take l.literal-index l.literals) ≡ false
