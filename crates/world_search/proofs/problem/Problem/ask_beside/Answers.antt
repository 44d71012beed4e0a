use Rattle.std.proofs.Common.{List, length, sym, subst}
use Rattle.std.specs.List.{AllZip}
use Rattle.clause_form.specs.declared.clause.Clause.{Clause}
use Rattle.clause_form.specs.declared.clause.Clauses.{Clauses}
use Rattle.world_search.specs.declared.words.WordClause.{WordClause}
use Rattle.world_search.specs.Words.{MeanSame}
use Rattle.world_search.proofs.AskLaws.{answer_after, buffers_base}
use Rattle.world_search.proofs.problem.Problem.ask_beside.Goals as goal

pub answer_on-answer-requires-clause-buffers : goal.answer_on-answer-requires-clause-buffers
answer_on-answer-requires-clause-buffers c = buffers_base (length c.args.self.now.sizes) c.args.space.now c.requires.space.buffers

pub returns-clause-answer : goal.returns-clause-answer
returns-clause-answer c =
    let own = c.args.self.now in
    let more = c.args.beside.now in
    let new = c.answer_on-answer.new.space in
    let words = c.self.inside.rules.clauses.items in
    let others = c.as_slice.result.now in
    let same = subst (λ (x : Clauses). AllZip (λ (b : Clause) w. MeanSame b.literals w) x.clauses words) c.self.view_is c.self.invariant.words.same in
    let same_others = subst (λ (x : Clauses). AllZip (λ (b : Clause) w. MeanSame b.literals w) x.clauses others) c.beside.view_is
    (subst (λ (ws : List WordClause). AllZip (λ (b : Clause) w. MeanSame b.literals w) c.beside.inside.clauses.clauses ws) (sym c.as_slice.ensures.value) c.beside.invariant.same) in
    let after = c.answer_on-answer.ensures in
    answer_after own more.clauses words others same same_others c.args.space.now c.requires.space c.if-space.false new c.args.pairs.now c.answer_on-answer.result after.buffers after.base after.answer
