use Rattle.std.proofs.Common.{subst}
use Rattle.std.proofs.lemmas.List.Elements.{All-push}
use Rattle.clause_form.specs.declared.clause.Clause.{Clause}
use Rattle.world_search.specs.declared.words.WordClause.{WordClause}
use Rattle.world_search.specs.Words.{IsClauseInside, MeanSame}
use Rattle.world_search.proofs.WordLaws.{zip_more}
use Rattle.world_search.proofs.words.word_clauses.Goals as goal

pub loop-clause-preserved : goal.loop-clause-preserved
loop-clause-preserved c =
    let R : Clause → WordClause → Type 0 = λ b w. MeanSame b.literals w in
    let item = c.clause-item.result in
    let words = c.in_ok-words_of.field-0 in
    rw c.in_ok-push.ensures.items
    (record {
      inside = All-push (IsClauseInside c.args.subjects) c.loop-clause.all.items words c.loop-clause.invariant.inside c.in_ok-words_of.ensures.inside;
      same = zip_more R c.args.clauses.now c.loop-clause.all.items c.loop-clause.clause-index item words c.loop-clause-test.true c.clause-item.is c.loop-clause.invariant.same
          (subst (λ l. MeanSame l words) c.as_slice.ensures c.in_ok-words_of.ensures.same);
    })
