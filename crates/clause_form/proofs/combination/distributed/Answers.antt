use Rattle.std.proofs.Common.{◌<◌, ◌&&◌, ◌||◌, length, take, ap, ◌∙◌, sym, subst}
use Rattle.std.proofs.lemmas.List.Folds.{list_all_more}
use Rattle.clause_form.specs.declared.clause.Clause.{Clause}
use Rattle.clause_form.specs.Clauses.{AreOthers, all_met, meets}
use mathlib.Core.Bool.{or-and_distrib_right}
use Rattle.clause_form.proofs.combination.distributed.Goals as goal

pub loop-clause-preserved : goal.loop-clause-preserved
loop-clause-preserved c =
    let clauses = c.args.clauses.now in
    let i = c.loop-clause.clause-index in
    let clause = c.clause-item.result in
    let inside : i < length clauses = c.loop-clause-test.true in
    record {
      met = λ xs h.
          let others = all_met xs c.args.more.now in
          c.in_ok-out.ensures.met xs h ∙ ap (λ k. k && (meets xs clause || others)) (c.loop-clause.invariant.met xs h)
          ∙ sym (or-and_distrib_right (all_met xs (take i clauses)) (meets xs clause) others)
          ∙ ap (λ z. (all_met xs (take i clauses) && meets xs z) || others) c.clause-item.is
          ∙ ap (λ k. k || others) (sym (list_all_more (meets xs) clauses i clause inside));
      below = c.in_ok-out.ensures.below;
      names = λ x own others. c.in_ok-out.ensures.names x (subst (λ (z : Clause). AreOthers x z.literals) (sym c.clause-item.is) (own i clause inside)) others (c.loop-clause.invariant.names x own others);
    }
