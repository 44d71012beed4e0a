use Rattle.std.proofs.Common.{take, length}
use Rattle.std.specs.List.{list_all}
use Rattle.cca_base.specs.Formula.{truth}
use Rattle.clause_form.specs.Formulas.{Adds}
use Rattle.clause_form.specs.Clauses.{AllBelow}
use Rattle.clause_form.proofs.whole.add_rules.Given as goal

abbrev pub invariant-loop-rule : goal.invariant-loop-rule
invariant-loop-rule l = record {
  adds : Adds l.components l.sizes (λ modes values. list_all (truth modes values) (take l.rule-index l.rules)) l.fn.clauses l.clauses;
  below : AllBelow (length l.sizes) l.clauses;
}
