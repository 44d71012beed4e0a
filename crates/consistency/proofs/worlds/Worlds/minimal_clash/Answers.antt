use Rattle.std.proofs.Common.{◌≡◌, ◌∙◌, All, Contains, ap, subst, sym}
use Rattle.std.proofs.lemmas.List.Elements.{All-filter}
use Rattle.list_laws.proofs.Members.{all_from, from_filter}
use Rattle.cca_base.specs.declared.cube.Pair.{Pair}
use Rattle.cca_base.specs.Model.{HasMode}
use Rattle.cca_base.specs.Repairs.{pairs_of}
use Rattle.cca_base.specs.Shown.{Clash}
use Rattle.consistency.specs.Cores.{IsCore, pairs_in}
use Rattle.clash_analysis.specs.Subjects.{is_in}
use Rattle.cca_base.proofs.StatePairs.{pairs_have_modes}
use Rattle.consistency.proofs.worlds.Worlds.minimal_clash.Goals as goal

pub minimal_part-requires-clause-modes : goal.minimal_part-requires-clause-modes
minimal_part-requires-clause-modes c =
    let m = c.args.model.now in
    let core = c.in-Some.blamed.core in
    let own : c.in-Some.blamed.pairs ≡ pairs_of c.args.state.now.modes = rw c.in-Some.is at c.in_ok-blamed.ensures.pairs in
    subst (All (λ (p : Pair). HasMode m p.item p.value)) (sym (c.in_ok-among.ensures ∙ ap (pairs_in core) (c.as_slice.ensures.pairs ∙ own)))
    (All-filter (λ (p : Pair). is_in core p.item) (λ p. HasMode m p.item p.value) (pairs_of c.args.state.now.modes) (pairs_have_modes m c.args.state.now.modes c.requires.state))

pub minimal_part-requires-clause-clash : goal.minimal_part-requires-clause-clash
minimal_part-requires-clause-clash c =
    let m = c.args.model.now in
    let seen = c.args.seen.now.pairs in
    let core : IsCore m seen c.in-Some.blamed.pairs c.in-Some.blamed.core = rw c.in-Some.is at c.in_ok-blamed.ensures.core in
    subst (Clash m seen) (sym (c.in_ok-among.ensures ∙ ap (pairs_in c.in-Some.blamed.core) c.as_slice.ensures.pairs)) core

pub returns-clause-some : goal.returns-clause-some
returns-clause-some c =
    let s = c.args.state.now.modes in
    let core = c.in-Some.blamed.core in
    let own : c.in-Some.blamed.pairs ≡ pairs_of s = rw c.in-Some.is at c.in_ok-blamed.ensures.pairs in
    c.in_ok-minimal_part.ensures s (subst (All (Contains (pairs_of s))) (sym (c.in_ok-among.ensures ∙ ap (pairs_in core) (c.as_slice.ensures.pairs ∙ own)))
    (all_from (Contains (pairs_of s)) (pairs_in core (pairs_of s)) (λ q there. (from_filter (λ (p : Pair). is_in core p.item) (pairs_of s) q there).1)))
