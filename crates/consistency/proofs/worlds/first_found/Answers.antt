use Rattle.std.proofs.Common.{◌≡◌, ap, subst, sym, ◌∙◌, length, List, ℕ}
use Rattle.consistency.specs.Base.{IsBase}
use Rattle.consistency.specs.Search.{IsFirst, IsFirstOrNone}
use Rattle.consistency.proofs.Firsts.{none_fits, first_split}
use Rattle.consistency.proofs.worlds.first_found.Goals as goal

pub returns-in-Some : goal.returns-in-Some
returns-in-Some c denied of =
    let m = c.args.model.now in
    let p = c.args.problem.now in
    let fresh : List ℕ = c.see.new.space.search.base.items in
    let n : c.len-components.result ≡ length m.components = c.len-components.ensures ∙ ap length c.components.ensures.value in
    let base : IsBase p.sizes c.len-components.result c.args.modes.now c.args.seen.now fresh = subst (λ k. IsBase p.sizes k c.args.modes.now c.args.seen.now fresh) (sym n) c.see.ensures.base in
    let first : IsFirst p.clauses fresh c.in-Some.values = subst (IsFirstOrNone p.clauses fresh) c.in-Some.is c.in_ok-values.ensures in
    first_split m c.args.modes.now c.args.seen.now denied p c.len-components.result fresh of n base c.requires.modes c.requires.seen
    c.in-Some.values c.as_slice.result.now _ _ c.as_slice.ensures c.in_ok-split-in-Some.ensures.modes c.in_ok-split-in-Some.ensures.values first

pub returns : goal.returns
returns c denied of =
    let m = c.args.model.now in
    let p = c.args.problem.now in
    let fresh : List ℕ = c.see.new.space.search.base.items in
    let n : c.len-components.result ≡ length m.components = c.len-components.ensures ∙ ap length c.components.ensures.value in
    let base : IsBase p.sizes c.len-components.result c.args.modes.now c.args.seen.now fresh = subst (λ k. IsBase p.sizes k c.args.modes.now c.args.seen.now fresh) (sym n) c.see.ensures.base in
    none_fits m c.args.modes.now c.args.seen.now denied p c.len-components.result fresh of n base c.requires.modes c.requires.seen
    (subst (IsFirstOrNone p.clauses fresh) c.in-None.is c.in_ok-values.ensures)
