use Rattle.std.proofs.Common.{◌≡◌, refl, arith}
use Rattle.std.proofs.lemmas.Bool.{false≢true}
use Rattle.cca_base.proofs.NextModes.{chain_one, chain_join, chain_short, chain_after, sound_chain}
use Rattle.cca_base.proofs.model.Model.is_in_chain.Goals as goal

pub returns-in-None : goal.returns-in-None
returns-in-None c = (
  λ t. absurd (false≢true t),
  λ h.
      let moves = c.args.self.now.moves in
      let rest = c.loop-taken.invariant.1 h in
      let same : c.loop-taken.at ≡ c.args.other = sound_chain moves c.args.c c.loop-taken.at c.args.other rest.0 rest.1 (c.in-None.ensures.none.0 refl) in
      absurd (c.if-at-other.false same),
)

pub loop-taken-preserved : goal.loop-taken-preserved
loop-taken-preserved c =
    let moves = c.args.self.now.moves in (
      chain_join moves c.args.c c.args.mode c.loop-taken.at c.in-Some.next c.loop-taken.taken 1 c.loop-taken.invariant.0
          (chain_one moves c.args.c c.loop-taken.at c.in-Some.next c.in-Some.ensures.next),
      λ h. chain_after c.args.self.now.version moves c.moves-moves.ensures.well_formed.repairs c.args.c c.loop-taken.at c.in-Some.next c.args.other c.in-Some.ensures.next
          (λ same. c.if-at-other.false same) (c.loop-taken.invariant.1 h),
    )

pub unreachable-requires : goal.unreachable-requires
unreachable-requires c =
    let short = chain_short c.args.self.now c.moves-moves.ensures.well_formed c.args.c c.args.mode c.loop-taken.at c.loop-taken.taken c.loop-taken.invariant.0 in
    omega (arith, short, c.loop-taken-test.false)
