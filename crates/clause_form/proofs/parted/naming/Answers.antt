use Rattle.std.proofs.Common.{◌≡◌, ◌++◌, ◌+◌, ◌==◌, ◌∷◌, [], Bool, true, false, filter, take, cond, ap, sym, ◌∙◌}
use Rattle.std.proofs.lemmas.List.{append-nil}
use Rattle.std.proofs.lemmas.List.Elements.{filter_more}
use Rattle.clause_form.specs.declared.clause.Clause.{Clause}
use Rattle.clause_form.specs.Clauses.{names_one}
use Rattle.clause_form.proofs.parted.naming.Goals.{then-names+in_ok-copy+in_ok-push, else-names}
use Rattle.clause_form.proofs.parted.naming.Goals as goal

pub loop-clause-preserved : goal.loop-clause-preserved
loop-clause-preserved c =
    let test : Clause → Bool = names_one (λ u. u == c.args.subject) in
    let items = c.args.clauses.now in
    let i = c.loop-clause.clause-index in
    let clause = c.clause-item.result in
    let more : filter test (take (i + 1) items) ≡ filter test (take i items) ++ cond (test clause) (clause ∷ []) [] =
    filter_more test items i clause c.loop-clause-test.true ∙ ap (λ z. filter test (take i items) ++ cond (test z) (z ∷ []) []) (sym c.clause-item.is) in
    let now : (b : Bool) → c.names.result ≡ b → filter test (take (i + 1) items) ≡ filter test (take i items) ++ cond b (clause ∷ []) [] =
    λ b is. more ∙ ap (λ (z : Bool). filter test (take i items) ++ cond z (clause ∷ []) []) (sym c.names.ensures ∙ is) in
    elim c.if-names.branch [
      | then-names+in_ok-copy+in_ok-push w ↦ rw w.with-is (w.in_ok-push.ensures.items ∙ ap (λ z. c.loop-clause.with.items ++ z ∷ []) w.in_ok-copy.ensures ∙ ap (λ z. z ++ clause ∷ []) c.loop-clause.invariant ∙ sym (now true w.if-names.true))
      | else-names w ↦ rw w.with-is (c.loop-clause.invariant ∙ sym (now false w.if-names.false ∙ append-nil (filter test (take i items))))
    ]
