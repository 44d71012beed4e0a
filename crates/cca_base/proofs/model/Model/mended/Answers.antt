use Rattle.std.proofs.Common.{refl, subst, suc, ◌+◌, ◌≡◌, arith}
use Rattle.cca_base.specs.Model.{RepairChain}
use Rattle.cca_base.proofs.NextModes.{next_broken, chain_one, chain_join, chain_short}
use Rattle.cca_base.proofs.model.Model.mended.Goals as goal

pub returns-in-None-clause-mended : goal.returns-in-None-clause-mended
returns-in-None-clause-mended c = record {
  broken = next_broken c.args.self.now.moves c.args.c c.args.m c.loop-taken.invariant.0 c.loop-taken.invariant.1;
  sound = c.in-None.ensures.none.0 refl;
  count = suc c.loop-taken.taken;
  chain = c.loop-taken.invariant;
}

pub loop-taken-preserved : goal.loop-taken-preserved
loop-taken-preserved c =
    let moves = c.args.self.now.moves in
    let longer : suc c.loop-taken.taken + 1 ≡ suc (c.loop-taken.taken + 1) = omega arith in
    subst (RepairChain moves c.args.c c.args.m c.in-Some.next) longer
    (chain_join moves c.args.c c.args.m c.loop-taken.mode c.in-Some.next (suc c.loop-taken.taken) 1 c.loop-taken.invariant
    (chain_one moves c.args.c c.loop-taken.mode c.in-Some.next c.in-Some.ensures.next))

pub unreachable-requires : goal.unreachable-requires
unreachable-requires c =
    let short = chain_short c.args.self.now c.moves-moves.ensures.well_formed c.args.c c.args.m c.loop-taken.mode (suc c.loop-taken.taken) c.loop-taken.invariant in
    omega (arith, short, c.loop-taken-test.false)
