use Rattle.std.proofs.Common.{◌++◌, [], length, subst}
use Rattle.world_search.specs.Stores.{AreKept}
use Rattle.world_search.proofs.WorldLaws.{is_world}
use Rattle.std.specs.List.{AllZip}
use Rattle.std.proofs.lemmas.List.{append-nil}
use Rattle.clause_form.specs.declared.clause.Clause.{Clause}
use Rattle.clause_form.specs.declared.clause.Clauses.{Clauses}
use Rattle.world_search.specs.Words.{MeanSame}
use Rattle.world_search.specs.Worlds.{IsAnswer}
use Rattle.world_search.proofs.AskLaws.{answer_after, buffers_base, learned_of, looked, space_after, within_start}
use Rattle.world_search.proofs.problem.Problem.ask.Goals as goal

pub answer_on-requires-clause-buffers : goal.answer_on-requires-clause-buffers
answer_on-requires-clause-buffers c = buffers_base (length c.args.self.now.sizes) c.args.space.now c.requires.space.buffers

pub returns-clause-space : goal.returns-clause-space
returns-clause-space c =
    let own = c.args.self.now in
    let old = c.args.space.now in
    let words = c.self.inside.rules.clauses.items in
    let none = c.if-space.false in
    let same = subst (λ (x : Clauses). AllZip (λ (b : Clause) w. MeanSame b.literals w) x.clauses words) c.self.view_is c.self.invariant.words.same in
    let after = c.answer_on.ensures in
    let test = looked own [] words [] same tt old c.requires.space none in
    let kept = after.kept (is_world (own.clauses ++ []) old.base.items) test.met (within_start own [] words [] same tt old c.requires.space none) test.learned in
    space_after own old c.answer_on.new.space c.requires.space none after.buffers after.start after.room after.base after.stuck
    (learned_of own.clauses old.base.items c.answer_on.new.space.store (subst (λ l. AreKept c.answer_on.new.space.store (is_world l old.base.items)) (append-nil own.clauses) kept))

pub returns-clause-answer : goal.returns-clause-answer
returns-clause-answer c =
    let own = c.args.self.now in
    let new = c.answer_on.new.space in
    let words = c.self.inside.rules.clauses.items in
    let same = subst (λ (x : Clauses). AllZip (λ (b : Clause) w. MeanSame b.literals w) x.clauses words) c.self.view_is c.self.invariant.words.same in
    let after = c.answer_on.ensures in
    subst (λ l. IsAnswer l new.base.items new.world.items c.args.pairs.now c.answer_on.result) (append-nil own.clauses)
    (answer_after own [] words [] same tt c.args.space.now c.requires.space c.if-space.false new c.args.pairs.now c.answer_on.result after.buffers after.base after.answer)
