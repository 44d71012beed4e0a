use Rattle.std.proofs.Common.{true, is_some, refl, ap}
use Rattle.std.proofs.lemmas.Bool.{both_ways}
use Rattle.cca_base.specs.Repairs.{pairs_of}
use Rattle.cca_base.proofs.StatePairs.{pairs_have_modes}
use Rattle.consistency.proofs.CoreTrying.{core_clash}
use Rattle.consistency.proofs.Fitting.{own_shows, own_clash}
use Rattle.consistency.proofs.conflicts.blame_of.Goals as goal

pub core_of-requires-clause-modes : goal.core_of-requires-clause-modes
core_of-requires-clause-modes c = rw c.in_ok-pairs.ensures (pairs_have_modes c.args.rules.now.model.now c.args.state.now.modes c.requires.state)

pub returns-in-Some-clause-none : goal.returns-in-Some-clause-none
returns-in-Some-clause-none c =
    let m = c.args.rules.now.model.now in
    let core = rw c.in_ok-pairs.ensures at (rw c.in-Some.is at c.core_of.ensures.some) in
    (λ e. absurd (both_ways true e refl), λ h. absurd (own_clash m c.args.state.now.modes c.args.seen.now.pairs c.requires.state (core_clash m c.args.seen.now.pairs (pairs_of c.args.state.now.modes) c.in-Some.core core) h))

pub returns-in-None-clause-none : goal.returns-in-None-clause-none
returns-in-None-clause-none c =
    let shows = rw c.in_ok-pairs.ensures at (c.core_of.ensures.none (ap is_some c.in-None.is)) in
    (λ e. own_shows c.args.rules.now.model.now c.args.state.now.modes c.args.seen.now.pairs c.requires.state shows, λ h. refl)
