use Rattle.std.proofs.Common.{◌≡◌, ◌==◌, ◌<◌, ◌++◌, ◌∷◌, [], false, length, sym, subst, arith}
use Rattle.std.proofs.lemmas.List.Elements.{All-push}
use Rattle.clause_form.specs.declared.clause.Literal.{Literal}
use Rattle.clause_form.proofs.MergedLiterals.{merged_more}
use Rattle.clause_form.proofs.literals.push_between.Goals as goal

pub loop-at-preserved : goal.loop-at-preserved
loop-at-preserved c =
    let all = c.args.literals.now in
    let at = c.loop-at.at in
    let old = c.loop-at.merged in
    let literal = c.index-literals-at.result in
    let inside : at < length all = omega (arith, c.loop-at-test.true, c.requires.inside) in
    let new : c.push.new.self ≡ old ++ literal ∷ [] = c.in_ok-push.ensures.ok in
    record {
      merged = λ others h. merged_more all others old c.push.new.self at literal inside c.index-literals-at.is new (c.loop-at.invariant.merged others h);
      below = λ n own h. rw new (All-push (λ (l : Literal). l.subject < n) old literal (c.loop-at.invariant.below n own h)
          (subst (λ (l : Literal). l.subject < n) (sym c.index-literals-at.is) (own at literal inside)));
      names = λ x own h. rw new (All-push (λ (l : Literal). (l.subject == x) ≡ false) old literal (c.loop-at.invariant.names x own h)
          (subst (λ (l : Literal). (l.subject == x) ≡ false) (sym c.index-literals-at.is) (own at literal inside)));
    }
