use Rattle.std.proofs.Common.{◌≡◌, List, true, subst}
use Rattle.clause_form.specs.declared.clause.Literal.{Literal}
use Rattle.clause_form.specs.Clauses.{is_met, meets, AreBelow, AreOthers}
use Rattle.list_laws.proofs.TestedLists.{kept_push, fewer_push, kept_skip, fewer_skip, All-before, below_push}
use Rattle.clause_form.proofs.combination.without_absorbed.Goals as goal

pub loop-clause-preserved-in-Continue-1 : goal.loop-clause-preserved-in-Continue-1
loop-clause-preserved-in-Continue-1 c = record {
  met = λ xs h. kept_push (meets xs) c.loop-clause.kept.items _ c.loop-clause.yielded c.in-Some.clause c.in_ok-push.ensures.items (c.loop-clause.invariant.met xs h);
  fewer = λ xs h. fewer_push (meets xs) c.loop-clause.kept.items _ c.loop-clause.yielded c.in-Some.clause c.in_ok-push.ensures.items (c.loop-clause.invariant.fewer xs) h;
  below = λ n h. below_push (λ clause. AreBelow n clause.literals) c.loop-clause.kept.items _ c.loop-clause.yielded c.in-Some.clause c.in_ok-push.ensures.items (c.loop-clause.invariant.below n) h;
  names = λ x h. below_push (λ clause. AreOthers x clause.literals) c.loop-clause.kept.items _ c.loop-clause.yielded c.in-Some.clause c.in_ok-push.ensures.items (c.loop-clause.invariant.names x) h;
}

pub loop-clause-preserved : goal.loop-clause-preserved
loop-clause-preserved c = record {
  met = λ xs h. kept_skip (meets xs) c.loop-clause.kept.items c.loop-clause.yielded c.in-Some.clause (subst (λ (ls : List Literal). is_met xs ls ≡ true) c.as_slice.ensures (c.subsumes.ensures c.if-not-subsumes.false xs h)) (c.loop-clause.invariant.met xs h);
  fewer = λ xs h. fewer_skip (meets xs) c.loop-clause.kept.items c.loop-clause.yielded c.in-Some.clause (c.loop-clause.invariant.fewer xs) h;
  below = λ n h. c.loop-clause.invariant.below n (All-before (λ clause. AreBelow n clause.literals) c.loop-clause.yielded c.in-Some.clause h);
  names = λ x h. c.loop-clause.invariant.names x (All-before (λ clause. AreOthers x clause.literals) c.loop-clause.yielded c.in-Some.clause h);
}
