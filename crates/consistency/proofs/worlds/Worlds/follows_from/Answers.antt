use Rattle.std.proofs.Common.{◌++◌, ℕ, List, [], refl, ap, subst, ◌∙◌}
use Rattle.std.proofs.lemmas.Bool.{false≢true}
use Rattle.clause_form.specs.declared.clause.Clauses.{Clauses}
use Rattle.world_search.specs.declared.answer.Answer.TheVariants.{Agrees, Clash}
use Rattle.world_search.specs.Spaces.{world_in}
use Rattle.world_search.specs.Worlds.{IsAnswer}
use Rattle.consistency.proofs.FollowsLaws.{clash_follows, countered, posed, refuted_follows}
use Rattle.consistency.proofs.worlds.Worlds.follows_from.Goals as goal

pub returns-then-is_refuted-clause-follows : goal.returns-then-is_refuted-clause-follows
returns-then-is_refuted-clause-follows c f denying =
    let is = posed c.args.model.now _ _ f _ _ _ _ _ _ _ c.self.view_is c.requires.of c.denied.view_is denying c.see_near.ensures.base c.deref.ensures.value c.put_base.ensures.base refl c.requires.modes in
    let slice = c.as_slice-clauses.ensures ∙ ap (λ (x : Clauses). x.clauses) c.clauses.ensures.value in
    let follows = refuted_follows c.args.model.now _ f _ _ _ is _ slice (c.is_refuted.ensures c.if-is_refuted.true) in
    ((λ _. follows), (λ _. refl))

pub returns-then-is_refuted-2-clause-follows : goal.returns-then-is_refuted-2-clause-follows
returns-then-is_refuted-2-clause-follows c f denying =
    let is = posed c.args.model.now _ _ f _ _ _ _ _ _ _ c.self.view_is c.requires.of c.denied.view_is denying c.see.ensures.base c.deref-2.ensures.value c.put_base.ensures.base refl c.requires.modes in
    let slice = c.as_slice-clauses.ensures ∙ ap (λ (x : Clauses). x.clauses) c.clauses.ensures.value in
    let follows = refuted_follows c.args.model.now _ f _ _ _ is _ slice (c.is_refuted-2.ensures c.if-is_refuted-2.true) in
    ((λ _. follows), (λ _. refl))

pub returns-in-Agrees-clause-follows : goal.returns-in-Agrees-clause-follows
returns-in-Agrees-clause-follows c f denying =
    let is = posed c.args.model.now _ _ f _ _ _ _ _ _ _ c.self.view_is c.requires.of c.denied.view_is denying c.see.ensures.base c.deref-2.ensures.value c.put_base.ensures.base refl c.requires.modes in
    let both = c.self.inside.problem.clauses ++ c.denied.inside.beside.clauses in
    let world = world_in c.ask_beside.new.space in
    let found = subst (λ (xs : List ℕ). IsAnswer both xs world [] Agrees) c.ask_beside.ensures.base c.in-Agrees.ensures.answer in
    ((λ h. absurd (false≢true h)), (λ follows. absurd (countered c.args.model.now _ f _ _ _ is world found follows)))

pub returns-in-Clash-clause-follows : goal.returns-in-Clash-clause-follows
returns-in-Clash-clause-follows c f denying =
    let is = posed c.args.model.now _ _ f _ _ _ _ _ _ _ c.self.view_is c.requires.of c.denied.view_is denying c.see.ensures.base c.deref-2.ensures.value c.put_base.ensures.base refl c.requires.modes in
    let both = c.self.inside.problem.clauses ++ c.denied.inside.beside.clauses in
    let world = world_in c.ask_beside.new.space in
    let none = subst (λ (xs : List ℕ). IsAnswer both xs world [] (Clash c.in-Clash._blamed)) c.ask_beside.ensures.base c.in-Clash.ensures.answer in
    ((λ _. clash_follows c.args.model.now _ f _ _ _ is world c.in-Clash._blamed none), (λ _. refl))
