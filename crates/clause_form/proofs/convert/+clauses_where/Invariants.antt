use Rattle.std.proofs.Common.{◌≡◌, ℕ, List, ◌++◌, ◌-◌, length, IsTrue, drop, map, not}
use Rattle.std.specs.List.{list_all, list_any}
use Rattle.cca_base.specs.Formula.{truth, is_within}
use Rattle.clause_form.specs.Clauses.{AreValues, all_met, AllBelow}
use Rattle.clause_form.specs.Formulas.{agrees, combine}
use Rattle.clause_form.proofs.convert.+clauses_where.Given as goal

abbrev pub decreases-clauses_where : goal.decreases-clauses_where
decreases-clauses_where l = goal.size-clauses_where l

-- with what is left it says what the whole says
abbrev pub invariant-loop-part : goal.invariant-loop-part
invariant-loop-part l = record {
  within : IsTrue (list_all (λ b. b) (map (is_within l.components (length l.sizes - l.components)) (drop l.part-index l.part-items)));
  means : (modes values : List ℕ) → length modes ≡ l.components → AreValues l.sizes (modes ++ values)
      → combine l.wanted (all_met (modes ++ values) l.out.items) (agrees l.wanted (list_all (λ b. b) (map (truth modes values) (drop l.part-index l.part-items)))) ≡ agrees l.wanted (truth modes values l.formula);
  below : AllBelow (length l.sizes) l.out.items;
}

abbrev pub invariant-loop-part-2 : goal.invariant-loop-part-2
invariant-loop-part-2 l = record {
  within : IsTrue (list_all (λ b. b) (map (is_within l.components (length l.sizes - l.components)) (drop l.part-index l.part-items)));
  means : (modes values : List ℕ) → length modes ≡ l.components → AreValues l.sizes (modes ++ values)
      → combine (not l.wanted) (all_met (modes ++ values) l.out.items) (agrees l.wanted (list_any (λ b. b) (map (truth modes values) (drop l.part-index l.part-items)))) ≡ agrees l.wanted (truth modes values l.formula);
  below : AllBelow (length l.sizes) l.out.items;
}
