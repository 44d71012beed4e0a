use Rattle.std.proofs.Common.{List, All, sym, subst}
use Rattle.cca_base.specs.declared.cube.Pair.{Pair}
use Rattle.cca_base.specs.Model.{HasMode}
use Rattle.cca_base.specs.State.{Follows}
use Rattle.cca_base.proofs.StatePairs.{pairs_have_modes}
use Rattle.cca_base.proofs.HeldFormulas.{follows_holds, holds_follows}
use Rattle.control_program.proofs.AskedParts.{denied_found, denied_inside, denied_there}
use Rattle.control_program.proofs.asking.holds.Goals as goal

pub follows_from-requires-clause-modes : goal.follows_from-requires-clause-modes
follows_from-requires-clause-modes c =
    let a = c.args.asking.now in
    subst (All (λ (p : Pair). HasMode a.model.now p.item p.value)) (sym a.pairs) (pairs_have_modes a.model.now a.estimate.now.modes a.state)

pub bounds-asking-at : goal.bounds-asking-at
bounds-asking-at c =
    let a = c.args.asking.now in
    denied_inside a.model.now a.nodes.now a.denials.now c.args.at c.requires.asks.0 c.requires.denied c.requires.asks.1

pub follows_from-requires-clause-denied : goal.follows_from-requires-clause-denied
follows_from-requires-clause-denied c =
    let a = c.args.asking.now in
    let f = c.requires.asks.0 in
    (f, denied_found a.model.now a.nodes.now a.denials.now c.args.at f c.requires.denied c.requires.asks.1 c.index-asking-at.result c.in-Some.denied c.in-Some.is)

pub unreachable-requires : goal.unreachable-requires
unreachable-requires c =
    let a = c.args.asking.now in
    denied_there a.model.now a.nodes.now a.denials.now c.args.at c.requires.asks.0 c.requires.denied c.requires.asks.1 c.index-asking-at.result c.in-None.is

pub returns-clause-holds : goal.returns-clause-holds
returns-clause-holds c f asks =
    let a = c.args.asking.now in
    let m = a.model.now in
    let s = a.estimate.now.modes in
    let h = c.follows_from.ensures.follows f (denied_found m a.nodes.now a.denials.now c.args.at f c.requires.denied asks c.index-asking-at.result c.in-Some.denied c.in-Some.is) in (
      λ t. follows_holds m s f a.state (subst (λ (l : List Pair). Follows m l f) a.pairs (h.0 t)),
      λ holds. h.1 (subst (λ (l : List Pair). Follows m l f) (sym a.pairs) (holds_follows m s f a.state holds)),
    )
