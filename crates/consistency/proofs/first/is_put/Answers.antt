use Rattle.std.proofs.Common.{◌∙◌, Contains, List, ℕ, sym, subst}
use Rattle.cca_base.specs.declared.cube.Pair.{Pair}
use Rattle.world_search.specs.Worlds.{IsSolution}
use Rattle.consistency.proofs.PairLaws.{has_more}
use Rattle.consistency.proofs.first.is_put.Goals as goal

pub returns-in-Clash-clause-none : goal.returns-in-Clash-clause-none
returns-in-Clash-clause-none c _ xs world all at =
    let old = c.args.pairs.now in
    c.in-Clash.ensures.answer xs (subst (λ (b : List ℕ). IsSolution c.args.problem.now.clauses b xs) (sym c.ask.ensures.base) world)
    (λ p among _. has_more old c.args.pair xs all at p (subst (λ (l : List Pair). Contains l p) (c.as_slice.ensures ∙ c.in_ok-push.ensures.ok) among))
