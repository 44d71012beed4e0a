use Rattle.std.proofs.Common.{◌≡◌, ◌∷◌, ◌++◌, [], ◌&&◌, All, List, length, sym, ap, subst, ◌∙◌, append_assoc}
use Rattle.std.specs.Vec.Iter.{into_iter_items}
use Rattle.clause_form.specs.declared.clause.Clause.{Clause}
use Rattle.clause_form.specs.Clauses.{AreBelow, AreOthers, all_met, meets}
use Rattle.list_laws.proofs.TestedLists.{All-at_seam, all_push, All-before, All-last}
use Rattle.clause_form.proofs.combination.with_all.Goals as goal

pub with_clause-requires-clause-of_clause : goal.with_clause-requires-clause-of_clause
with_clause-requires-clause-of_clause c =
    let at = c.loop-clause in
    let left = into_iter_items c.next.new.self in
    let steps : into_iter_items at.clause-iterator ≡ c.in-Some.clause ∷ left = c.in-Some.ensures.steps.0 in
    let whole : at.yielded ++ c.in-Some.clause ∷ left ≡ c.args.more.items = ap (λ (z : List Clause). at.yielded ++ z) (sym steps) ∙ at.invariant.parted in
    let P : Clause → Type 0 = λ z. AreBelow (length c.args.sizes.now) z.literals in
    All-at_seam P at.yielded c.in-Some.clause left (subst (All P) (sym whole) c.requires.of_more)

pub loop-clause-preserved : goal.loop-clause-preserved
loop-clause-preserved c =
    let at = c.loop-clause in
    let x = c.in-Some.clause in
    let steps : into_iter_items at.clause-iterator ≡ x ∷ into_iter_items c.next.new.self = c.in-Some.ensures.steps.0 in
    record {
      parted = append_assoc at.yielded (x ∷ []) (into_iter_items c.next.new.self) ∙ ap (λ (z : List Clause). at.yielded ++ z) (sym steps) ∙ at.invariant.parted;
      met = λ xs h.
          let old = all_met xs c.args.clauses.items in
          c.in_ok-all.ensures.met xs h ∙ ap (λ b. b && meets xs x) (at.invariant.met xs h) ∙ all_push (meets xs) old at.yielded x;
      below = c.in_ok-all.ensures.below;
      names = λ n own others. c.in_ok-all.ensures.names n (All-last (λ (z : Clause). AreOthers n z.literals) at.yielded x others)
          (at.invariant.names n own (All-before (λ (z : Clause). AreOthers n z.literals) at.yielded x others));
    }
