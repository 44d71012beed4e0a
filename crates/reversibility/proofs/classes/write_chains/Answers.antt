use Rattle.std.proofs.Common.{◌≡◌, ◌+◌, ◌<◌, ◌∙◌, length, sym, subst, arith, length-set}
use Rattle.std.proofs.lemmas.Option.{get_or_from_slice_get}
use Rattle.reversibility.specs.ClassParts.{in_row}
use Rattle.reversibility.specs.Chains.{AreOpenChains}
use Rattle.reversibility.proofs.OpenChains.{chains_set}
use Rattle.reversibility.proofs.classes.write_chains.Goals as goal

pub overflow_cast-c : goal.overflow_cast-c
overflow_cast-c c =
    let few = c.model-model.ensures.compiled.accepted.well_formed.limits.components in
    omega (arith, few, c.loop-c-test.true, c.requires.rows)

pub loop-c-preserved : goal.loop-c-preserved
loop-c-preserved c =
    let m = c.args.compiled.now.model in
    let member = in_row c.args.rows.now in
    let at = get_or_from_slice_get c.args.base.now.modes c.loop-c.c c.get.result.now 0 c.get.ensures.value in
    let count = c.loop-c.invariant.0 in
    let within : c.loop-c.c < length c.loop-c.chains = omega (arith, c.loop-c-test.true, count) in
    let made = chains_set m c.args.base.now.modes member c.loop-c.chains c.open_chain-chain.result c.loop-c.c c.get.result.now within at c.loop-c.invariant.1 c.open_chain-chain.ensures in
    subst (λ l. (length l ≡ length c.args.rows.now) × AreOpenChains m c.args.base.now.modes member l (c.loop-c.c + 1)) (sym c.set.ensures)
    (length-set c.loop-c.chains c.loop-c.c c.open_chain-chain.result ∙ count, made)
