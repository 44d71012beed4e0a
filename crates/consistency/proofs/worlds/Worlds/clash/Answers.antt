use Rattle.std.proofs.Common.{◌∙◌, ℕ, List, All, Contains, true, refl, ap, subst, sym}
use Rattle.std.proofs.lemmas.Bool.{both_ways}
use Rattle.list_laws.proofs.Members.{all_from, from_filter}
use Rattle.cca_base.specs.declared.cube.Pair.{Pair}
use Rattle.cca_base.specs.Cube.{IsCube}
use Rattle.cca_base.specs.Repairs.{pairs_of}
use Rattle.cca_base.specs.Shown.{Clash}
use Rattle.cca_base.proofs.StatePairs.{extends_own}
use Rattle.clash_analysis.specs.Subjects.{is_in}
use Rattle.consistency.specs.Cores.{IsCore, pairs_in}
use Rattle.consistency.proofs.ClashLaws.{own_pairs, pairs_cube}
use Rattle.consistency.proofs.MinimalConflict.{more_clash}
use Rattle.consistency.proofs.worlds.Worlds.clash.Goals as goal

pub cube_in-requires : goal.cube_in-requires
cube_in-requires c =
    let s : List ℕ = c.args.state.now.modes in
    subst IsCube (sym (own_pairs s s c.len.result c.ask_state.new.space.pairs.items c.as_slice-in-Clash.result.now refl c.len.ensures c.as_slice-in-Clash.ensures.value c.in-Clash.ensures.pairs)) (pairs_cube s)

pub returns-in_ok-cube_in-in-Clash-clause-some : goal.returns-in_ok-cube_in-in-Clash-clause-some
returns-in_ok-cube_in-in-Clash-clause-some c =
    let m = c.args.model.now in
    let s : List ℕ = c.args.state.now.modes in
    let set = c.in-Clash.blamed in
    let own = own_pairs s s c.len.result c.ask_state.new.space.pairs.items c.as_slice-in-Clash.result.now refl c.len.ensures c.as_slice-in-Clash.ensures.value c.in-Clash.ensures.pairs in
    let made = c.in_ok-cube_in-in-Clash.ensures ∙ ap (pairs_in set) own in
    let core : IsCore m c.args.seen.now.pairs (pairs_of s) set = subst (λ (ps : List Pair). IsCore m ps (pairs_of s) set) c.as_slice.ensures c.in-Clash.ensures.answer in
    record {
      part = subst (All (Contains (pairs_of s))) (sym made) (all_from (Contains (pairs_of s)) (pairs_in set (pairs_of s)) (λ q there. (from_filter (λ (p : Pair). is_in set p.item) (pairs_of s) q there).1));
      clash = subst (Clash m c.args.seen.now.pairs) (sym made) core;
    }

pub returns-in_ok-cube_in-in-Clash-clause-none : goal.returns-in_ok-cube_in-in-Clash-clause-none
returns-in_ok-cube_in-in-Clash-clause-none c =
    let m = c.args.model.now in
    let s : List ℕ = c.args.state.now.modes in
    let seen = c.args.seen.now.pairs in
    let set = c.in-Clash.blamed in
    let core : IsCore m seen (pairs_of s) set = subst (λ (ps : List Pair). IsCore m ps (pairs_of s) set) c.as_slice.ensures c.in-Clash.ensures.answer in
    let all : Clash m seen (pairs_of s) = more_clash m seen (pairs_in set (pairs_of s)) (pairs_of s) (λ q there. (from_filter (λ (p : Pair). is_in set p.item) (pairs_of s) q there).1) core in
    ((λ e. absurd (both_ways true e refl)), (λ shows. absurd (all s c.requires.state (extends_own s) shows)))
