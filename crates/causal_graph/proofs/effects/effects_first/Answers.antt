use Rattle.std.proofs.Common.{◌<◌, ℕ, Bool, List, length, All, ap, subst, sym, ◌∙◌, arith}
use Rattle.std.proofs.lemmas.Bool.{eqb-true, eqb-false}
use Rattle.cca_base.specs.Relations.{numbers_below}
use Rattle.causal_graph.specs.Search.{AreNeeded, IsFirstUnset}
use Rattle.cca_base.specs.Flags.{IsSet}
use Rattle.causal_graph.proofs.EffectsFirst.{taking_none, taking_all, taking_more, taking_stuck}
use Rattle.causal_graph.proofs.effects.effects_first.Goals as goal

pub taking-init : goal.taking-init
taking-init c = rw c.new-order.ensures (taking_none c.args.needs.now c.in_ok-remaining.remaining.items (c.in_ok-remaining.ensures ∙ ap numbers_below c.len.ensures))

pub taking-preserved : goal.taking-preserved
taking-preserved c =
    let remaining : List ℕ = c.taking.remaining.items in
    let flags : List Bool = c.in_ok-flags.flags.items in
    let needed : AreNeeded c.args.needs.now remaining flags = subst (λ xs. AreNeeded c.args.needs.now xs flags) c.as_slice.ensures.value c.in_ok-flags.ensures in
    let first : IsFirstUnset flags remaining c.in-Some.at =
    subst (λ xs. IsFirstUnset flags xs c.in-Some.at) c.as_slice-in-taking.ensures.value
    (subst (λ fs. IsFirstUnset fs c.as_slice-in-taking.result.now c.in-Some.at) c.as_slice-in-taking-2.ensures.value c.in-Some.ensures)
    in
    rw (c.remove-c.ensures.items, c.in_ok-push.ensures.ok) (taking_more c.args.needs.now remaining c.taking.order flags c.taking.invariant needed c.in-Some.at c.remove-c.result first c.remove-c.ensures.value)

pub returns-in_default : goal.returns-in_default
returns-in_default c =
    let remaining : List ℕ = c.taking.remaining.items in
    let flags : List Bool = c.in_ok-flags.flags.items in
    let needed : AreNeeded c.args.needs.now remaining flags = subst (λ xs. AreNeeded c.args.needs.now xs flags) c.as_slice.ensures.value c.in_ok-flags.ensures in
    let some : 0 < length remaining = omega (arith, eqb-false c.taking.remaining.len 0 (sym c.taking-test.ensures), c.taking.remaining.ok.0) in
    let all : All (IsSet flags) remaining =
    subst (λ xs. All (IsSet flags) xs) c.as_slice-in-taking.ensures.value
    (subst (λ fs. All (IsSet fs) c.as_slice-in-taking.result.now) c.as_slice-in-taking-2.ensures.value c.in_default.ensures)
    in
    taking_stuck c.args.needs.now remaining c.taking.order flags c.taking.invariant needed some all

pub returns : goal.returns
returns c = taking_all c.args.needs.now c.taking.remaining.items c.taking.order (omega (arith, eqb-true c.taking.remaining.len 0 (sym c.taking-test.ensures), c.taking.remaining.ok.0)) c.taking.invariant
