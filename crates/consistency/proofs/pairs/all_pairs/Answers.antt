use Rattle.std.proofs.Common.{◌≡◌, ◌∷◌, [], ◌++◌, ◌<◌, ℕ, List, length, get_or, take, sym, ap, subst, ◌∙◌, arith}
use Rattle.std.proofs.lemmas.List.{length-take-le, take_more}
use Rattle.std.proofs.lemmas.Option.{get_or_from_slice_get}
use Rattle.cca_base.specs.declared.cube.Pair.{Pair}
use Rattle.cca_base.specs.Cube.{Lacks}
use Rattle.cca_base.specs.Repairs.{pairs_of}
use Rattle.cca_base.proofs.StatePairs.{lacks_next, pairs_grow}
use Rattle.consistency.proofs.pairs.all_pairs.Goals as goal

pub push-requires : goal.push-requires
push-requires c =
    let s : List ℕ = c.args.state.now.modes in
    let i = c.loop-item.item in
    let full = c.requires.full in
    let within : i < length s = omega (arith, full, c.loop-item-test.true, c.len-item-end.ensures, ap length c.components.ensures.value) in
    subst (Lacks i) (sym c.loop-item.invariant) (lacks_next (take i s) i (omega (arith, length-take-le i s (omega arith))))

pub loop-item-preserved : goal.loop-item-preserved
loop-item-preserved c =
    let s : List ℕ = c.args.state.now.modes in
    let i = c.loop-item.item in
    let full = c.requires.full in
    let within : i < length s = omega (arith, full, c.loop-item-test.true, c.len-item-end.ensures, ap length c.components.ensures.value) in
    let value : c.get-value.result.now ≡ get_or s i 0 = sym (get_or_from_slice_get s i c.get-value.result.now 0 c.get-value.ensures.value) in
    let size : i ≡ length (take i s) = sym (length-take-le i s (omega arith)) in
    c.in_ok-push.ensures.ok
    ∙ ap (λ (ps : List Pair). ps ++ record { item = i; value = c.get-value.result.now } ∷ []) c.loop-item.invariant
    ∙ ap (λ (x : ℕ). pairs_of (take i s) ++ record { item = i; value = x } ∷ []) value
    ∙ sym (pairs_grow (take i s) i (get_or s i 0) size)
    ∙ ap pairs_of (sym (take_more s i 0 within))
