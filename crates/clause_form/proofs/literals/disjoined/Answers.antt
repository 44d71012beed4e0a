use Rattle.std.proofs.Common.{◌≡◌, ◌==◌, ◌<◌, ◌+◌, ◌++◌, ◌∷◌, [], List, false, length, take, ap, ◌∙◌, sym, subst}
use Rattle.std.proofs.lemmas.List.{take_more}
use Rattle.std.proofs.lemmas.List.Elements.{All-nil, All-push}
use Rattle.clause_form.specs.declared.clause.Literal.{Literal}
use Rattle.clause_form.specs.Clauses.{AreMerged}
use Rattle.clause_form.proofs.literals.disjoined.Goals as goal

pub loop-literal-preserved : goal.loop-literal-preserved
loop-literal-preserved c =
    let first = c.as_slice-first.result.now in
    let items = c.as_slice-literal-items.result.now in
    let i = c.loop-literal.literal-index in
    let literal = c.literal-item.result in
    let inside : i < length items = c.loop-literal-test.true in
    let more : take (i + 1) items ≡ take i items ++ literal ∷ [] = take_more items i literal inside ∙ ap (λ z. take i items ++ z ∷ []) (sym c.literal-item.is) in
    record {
      inside = c.in_ok-at.ensures.inside;
      merged = subst (λ (z : List Literal). AreMerged first c.in_ok-at.at z c.push_with.new.merged) (sym more)
          (c.in_ok-at.ensures.merged (take i items) (c.in_ok-push_between.ensures.merged (take i items) c.loop-literal.invariant.merged));
      below = λ n a b. c.in_ok-at.ensures.below n (subst (λ (l : Literal). l.subject < n) (sym c.literal-item.is) (b i literal inside)) (c.in_ok-push_between.ensures.below n a (c.loop-literal.invariant.below n a b));
      names = λ x a b. c.in_ok-at.ensures.names x (All-push (λ (l : Literal). (l.subject == x) ≡ false) [] literal (All-nil (λ (l : Literal). (l.subject == x) ≡ false)) (subst (λ (l : Literal). (l.subject == x) ≡ false) (sym c.literal-item.is) (b i literal inside))) (c.in_ok-push_between.ensures.names x a (c.loop-literal.invariant.names x a b));
    }
