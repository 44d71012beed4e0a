use Rattle.std.proofs.Common.{◌∙◌, ◌&&◌, ap, sym, set, subst, take}
use Rattle.std.proofs.lemmas.List.Folds.{list_all_more}
use Rattle.clause_form.specs.declared.clause.Clause.{Clause}
use Rattle.clause_form.specs.Clauses.{AreBelow, AreOthers, all_met, meets}
use Rattle.clause_form.proofs.condition.given.Goals as goal

pub loop-clause-preserved : goal.loop-clause-preserved
loop-clause-preserved c =
    let i = c.loop-clause.clause-index in
    let clause = c.clause-item.result in
    record {
      met = λ xs h.
          let met_there = all_met (set xs c.args.subject c.args.value) in
          c.in_ok-push_rest.ensures.met xs h ∙ ap (λ b. b && meets (set xs c.args.subject c.args.value) clause) (c.loop-clause.invariant.met xs h)
          ∙ ap (λ z. met_there (take i c.args.clauses.now) && meets (set xs c.args.subject c.args.value) z) c.clause-item.is
          ∙ sym (list_all_more (meets (set xs c.args.subject c.args.value)) c.args.clauses.now i clause c.loop-clause-test.true);
      gone = c.in_ok-push_rest.ensures.gone c.loop-clause.invariant.gone;
      below = λ n h. c.in_ok-push_rest.ensures.below n (subst (λ (z : Clause). AreBelow n z.literals) (sym c.clause-item.is) (h i clause c.loop-clause-test.true)) (c.loop-clause.invariant.below n h);
      names = λ x h. c.in_ok-push_rest.ensures.names x (subst (λ (z : Clause). AreOthers x z.literals) (sym c.clause-item.is) (h i clause c.loop-clause-test.true)) (c.loop-clause.invariant.names x h);
    }
