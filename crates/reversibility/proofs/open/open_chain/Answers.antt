use Rattle.std.proofs.Common.{◌≡◌, false, refl, subst, arith}
use Rattle.std.proofs.lemmas.Bool.{both_ways}
use Rattle.cca_base.specs.PlantModel.{PlantModel}
use Rattle.cca_base.specs.Model.{WellFormed, IsNext, is_broken}
use Rattle.cca_base.proofs.NextModes.{next_broken}
use Rattle.reversibility.specs.ClassParts.{in_row}
use Rattle.reversibility.proofs.OpenChains.{small_source, short, ends_sound, one_more, ends_here, goes_on}
use Rattle.reversibility.proofs.open.open_chain.Goals as goal

pub returns-in-None : goal.returns-in-None
returns-in-None c =
    let m : PlantModel = c.args.compiled.now.model in
    let w : WellFormed m = c.model-model.ensures.compiled.accepted.well_formed in
    let sound : is_broken m.moves c.args.component c.loop-taken.at ≡ false =
    subst (λ (z : PlantModel). is_broken z.moves c.args.component c.loop-taken.at ≡ false) c.model-model.ensures.value (c.in-None.ensures.none.0 refl) in
    ends_sound m w (in_row c.args.rows.now) c.args.component c.args.mode c.loop-taken.at c.loop-taken.taken c.loop-taken.chain c.loop-taken.invariant.0 c.loop-taken.invariant.1 sound

pub with-chain-requires : goal.with-chain-requires
with-chain-requires c =
    let m : PlantModel = c.args.compiled.now.model in
    let w : WellFormed m = c.model-model.ensures.compiled.accepted.well_formed in
    small_source m w c.args.component c.loop-taken.at c.in-Some.next
    (subst (λ (z : PlantModel). IsNext z.moves c.args.component c.loop-taken.at c.in-Some.next) c.model-model.ensures.value c.in-Some.ensures.next)

pub returns-then-not-leaves : goal.returns-then-not-leaves
returns-then-not-leaves c =
    let m : PlantModel = c.args.compiled.now.model in
    let w : WellFormed m = c.model-model.ensures.compiled.accepted.well_formed in
    let next = subst (λ (z : PlantModel). IsNext z.moves c.args.component c.loop-taken.at c.in-Some.next) c.model-model.ensures.value c.in-Some.ensures.next in
    ends_here m w (in_row c.args.rows.now) c.args.component c.args.mode c.loop-taken.at c.loop-taken.taken c.loop-taken.chain c.with-chain.result c.loop-taken.invariant.0
    c.loop-taken.invariant.1 (next_broken m.moves c.args.component c.loop-taken.at c.in-Some.next next) c.with-chain.ensures.members
    (λ h. both_ways c.leaves.result c.if-not-leaves.true (c.leaves.ensures.1 h))

pub loop-taken-preserved : goal.loop-taken-preserved
loop-taken-preserved c =
    let m : PlantModel = c.args.compiled.now.model in
    let w : WellFormed m = c.model-model.ensures.compiled.accepted.well_formed in
    let next = subst (λ (z : PlantModel). IsNext z.moves c.args.component c.loop-taken.at c.in-Some.next) c.model-model.ensures.value c.in-Some.ensures.next in
    let broken = next_broken m.moves c.args.component c.loop-taken.at c.in-Some.next next in (
      goes_on m w (in_row c.args.rows.now) c.args.component c.args.mode c.loop-taken.at c.loop-taken.taken c.loop-taken.chain c.with-chain.result c.loop-taken.invariant.0
          c.loop-taken.invariant.1 broken c.with-chain.ensures.members c.in-Some.next next (c.leaves.ensures.0 c.if-not-leaves.false),
      one_more m w (in_row c.args.rows.now) c.args.component c.args.mode c.loop-taken.at c.loop-taken.taken c.loop-taken.chain c.with-chain.result c.loop-taken.invariant.0
          c.loop-taken.invariant.1 broken c.with-chain.ensures.members,
    )

pub unreachable-requires : goal.unreachable-requires
unreachable-requires c =
    let m : PlantModel = c.args.compiled.now.model in
    let w : WellFormed m = c.model-model.ensures.compiled.accepted.well_formed in
    let few = short m w (in_row c.args.rows.now) c.args.component c.args.mode c.loop-taken.at c.loop-taken.taken c.loop-taken.invariant.0 in
    omega (arith, few, c.loop-taken-test.false)
