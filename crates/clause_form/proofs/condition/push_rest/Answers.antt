use Rattle.std.proofs.Common.{◌≡◌, ◌<◌, ◌∙◌, ◌&&◌, ◌||◌, ◌∷◌, [], ◌==◌, ap, sym, true, false, set, filter}
use Rattle.std.specs.List.{list_any}
use Rattle.std.proofs.lemmas.List.Folds.{list_all-append}
use Rattle.std.proofs.lemmas.List.Elements.{All-push, All-filter}
use Rattle.list_laws.proofs.Tests.{and_with}
use mathlib.Core.Bool.{and-true}
use Rattle.clause_form.specs.declared.clause.Clause.{Clause}
use Rattle.clause_form.specs.declared.clause.Literal.{Literal}
use Rattle.clause_form.specs.Clauses.{AreBelow, AreOthers, all_met, is_met, meets}
use Rattle.clause_form.proofs.ConditionedClauses.{met_with, is_made_true, is_other, others_left}
use Rattle.clause_form.proofs.condition.push_rest.Goals as goal

pub returns-then-is_made_true-clause-met : goal.returns-then-is_made_true-clause-met
returns-then-is_made_true-clause-met c = λ xs h.
    let literals = c.args.clause.now.literals in
    let made : list_any (is_made_true c.args.subject c.args.value) literals ≡ true = sym c.is_made_true.ensures ∙ c.if-is_made_true.true in
    and_with _ _ (met_with xs c.args.subject c.args.value literals h ∙ ap (λ b. b || is_met xs (filter (is_other c.args.subject) literals)) made)

pub returns-clause-met : goal.returns-clause-met
returns-clause-met c = λ xs h.
    let literals = c.args.clause.now.literals in
    let rest = c.in_ok-rest_of.field-0 in
    let made : list_any (is_made_true c.args.subject c.args.value) literals ≡ false = sym c.is_made_true.ensures ∙ c.if-is_made_true.false in
    let same : meets xs rest ≡ meets (set xs c.args.subject c.args.value) c.args.clause.now =
    ap (is_met xs) c.in_ok-rest_of.ensures ∙ sym (met_with xs c.args.subject c.args.value literals h ∙ ap (λ b. b || is_met xs (filter (is_other c.args.subject) literals)) made) in
    ap (all_met xs) c.in_ok-push.ensures.items ∙ list_all-append (meets xs) c.args.clauses.now.items (rest ∷ []) ∙ ap (λ b. all_met xs c.args.clauses.now.items && b) (and-true (meets xs rest) ∙ same)

pub returns-clause-gone : goal.returns-clause-gone
returns-clause-gone c = λ old.
    rw c.in_ok-push.ensures.items (All-push (λ (other : Clause). AreOthers c.args.subject other.literals) c.args.clauses.now.items c.in_ok-rest_of.field-0 old
    (rw c.in_ok-rest_of.ensures (others_left c.args.subject c.args.clause.now.literals)))

pub returns-clause-below : goal.returns-clause-below
returns-clause-below c = λ n own old.
    rw c.in_ok-push.ensures.items (All-push (λ (other : Clause). AreBelow n other.literals) c.args.clauses.now.items c.in_ok-rest_of.field-0 old
    (rw c.in_ok-rest_of.ensures (All-filter (is_other c.args.subject) (λ l. l.subject < n) c.args.clause.now.literals own)))

pub returns-clause-names : goal.returns-clause-names
returns-clause-names c = λ x own old.
    rw c.in_ok-push.ensures.items (All-push (λ (other : Clause). AreOthers x other.literals) c.args.clauses.now.items c.in_ok-rest_of.field-0 old
    (rw c.in_ok-rest_of.ensures (All-filter (is_other c.args.subject) (λ (l : Literal). (l.subject == x) ≡ false) c.args.clause.now.literals own)))
