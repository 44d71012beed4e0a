use Rattle.std.proofs.Common.{◌≡◌, length, ap, refl, subst, sym, ◌∙◌}
use Rattle.std.specs.Prelude.{All}
use Rattle.clash_analysis.specs.Trails.{AreApart}
use Rattle.clash_analysis.specs.Laws.{Passes}
use Rattle.clash_analysis.specs.Learning.{IsClauseOf, IsLearned, IsOut}
use Rattle.world_search.specs.Words.{AreInside, literals_of}
use Rattle.world_search.proofs.ClauseLaws.{clause_clash}
use Rattle.world_search.proofs.WorkLaws.{learn_is}
use Rattle.world_search.proofs.choose.choose_value.Goals as goal

pub returns-in_default-mending-clause-clash : goal.returns-in_default-mending-clause-clash
returns-in_default-mending-clause-clash c _ want holds all =
    let old = c.args.work.now in
    let words = c.args.literals.now in
    let same : length c.learn_clause.new.learn ≡ length old.learn.items = c.learn_clause.ensures.long ∙ ap length c.deref_mut.ensures.value in
    subst (λ l. IsLearned (Passes want) l × AreApart old.dom.items l) (sym (learn_is old c.learn_clause.new.learn same))
    (clause_clash old.start.items old.dom.items c.learn_clause.new.learn words (subst (λ n. AreInside n words) c.requires.ready.shape.dom c.requires.inside)
    (subst (λ s. IsClauseOf s (literals_of words) c.learn_clause.new.learn) c.deref-in_default-mending.ensures.value c.learn_clause.ensures.clause)
    (subst (λ d. All (IsOut d) (literals_of words)) c.deref.ensures.value (c.in_default-mending.ensures.none refl))
    want holds all)
