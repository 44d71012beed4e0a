use Rattle.std.proofs.Common.{ℕ, List, false, refl}
use Rattle.std.proofs.lemmas.Bool.{both_ways}
use Rattle.list_laws.proofs.Members.{from_filter}
use Rattle.cca_base.specs.declared.cube.Pair.{Pair}
use Rattle.cca_base.specs.Repairs.{pairs_of}
use Rattle.cca_base.specs.Shown.{Clash}
use Rattle.cca_base.proofs.StatePairs.{extends_own}
use Rattle.clash_analysis.specs.Subjects.{is_in}
use Rattle.consistency.specs.Cores.{IsCore, pairs_in}
use Rattle.consistency.proofs.MinimalConflict.{more_clash}
use Rattle.consistency.proofs.worlds.Worlds.agrees.Goals as goal

pub returns-in-Clash-clause-agrees : goal.returns-in-Clash-clause-agrees
returns-in-Clash-clause-agrees c =
    let m = c.args.model.now in
    let s : List ℕ = c.args.state.now.modes in
    let seen = c.args.seen.now in
    let set = c.in-Clash._blamed in
    let core : IsCore m seen (pairs_of s) set = c.in-Clash.ensures.answer in
    let all : Clash m seen (pairs_of s) = more_clash m seen (pairs_in set (pairs_of s)) (pairs_of s) (λ q there. (from_filter (λ (p : Pair). is_in set p.item) (pairs_of s) q there).1) core in
    ((λ e. absurd (both_ways false refl e)), (λ shows. absurd (all s c.requires.state (extends_own s) shows)))
