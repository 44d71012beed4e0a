use Rattle.std.proofs.Common.{◌<◌, ◌&&◌, ◌||◌, length, take, ap, ◌∙◌, sym, subst}
use Rattle.std.proofs.lemmas.List.Folds.{list_all_more}
use Rattle.clause_form.specs.declared.clause.Clause.{Clause}
use Rattle.clause_form.specs.Clauses.{AreOthers, all_met, is_met, meets}
use Rattle.list_laws.proofs.TestedLists.{row_step}
use Rattle.clause_form.proofs.combination.add_row.Goals as goal

pub loop-clause-preserved : goal.loop-clause-preserved
loop-clause-preserved c =
    let more = c.args.more.now in
    let i = c.loop-clause.clause-index in
    let clause = c.clause-item.result in
    let one = c.args.one.now.literals in
    let inside : i < length more = c.loop-clause-test.true in
    record {
      met = λ xs h.
          let old = all_met xs c.args.clauses.items in
          c.in_ok-all.ensures.met xs h ∙ ap (λ b. b && is_met xs c.in_ok-wider.wider.literals) (c.loop-clause.invariant.met xs h)
          ∙ ap (λ b. (old && (is_met xs one || all_met xs (take i more))) && b) (c.in_ok-wider.ensures.met xs)
          ∙ row_step old (is_met xs one) (all_met xs (take i more)) (meets xs clause)
          ∙ ap (λ z. old && (is_met xs one || (all_met xs (take i more) && meets xs z))) c.clause-item.is
          ∙ ap (λ b. old && (is_met xs one || b)) (sym (list_all_more (meets xs) more i clause inside));
      below = c.in_ok-all.ensures.below;
      names = λ x own others old. c.in_ok-all.ensures.names x
          (c.in_ok-wider.ensures.names x own (subst (λ (z : Clause). AreOthers x z.literals) (sym c.clause-item.is) (others i clause inside))) (c.loop-clause.invariant.names x own others old);
    }
