use Rattle.std.proofs.Common.{◌≡◌, true, ap, sym, subst, ◌∙◌}
use Rattle.std.specs.Prelude.{All}
use Rattle.std.proofs.lemmas.List.{take_all}
use Rattle.std.proofs.lemmas.List.Elements.{All-more}
use Rattle.world_search.specs.declared.words.WordClause.{WordClause}
use Rattle.world_search.specs.Words.{met}
use Rattle.world_search.proofs.choose.broken.Goals as goal

pub loop-clause-preserved : goal.loop-clause-preserved
loop-clause-preserved c =
    let P : WordClause → Type 0 = λ w. met c.args.trial.now w.literals.items ≡ true in
    All-more P c.args.clauses.now c.loop-clause.clause-index c.clause-item.result c.loop-clause-test.true c.loop-clause.invariant
    (subst P c.clause-item.is (ap (met c.args.trial.now) (sym c.as_slice.ensures.value) ∙ sym c.is_met.ensures ∙ c.if-not-is_met.false))

pub returns-clause-none : goal.returns-clause-none
returns-clause-none c _ =
    let P : WordClause → Type 0 = λ w. met c.args.trial.now w.literals.items ≡ true in
    subst (All P) (take_all c.loop-clause.clause-index c.args.clauses.now c.loop-clause-test.false) c.loop-clause.invariant
