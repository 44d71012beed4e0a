use Rattle.std.proofs.Common.{All, List, take, refl, subst, ◌∙◌, arith}
use Rattle.std.proofs.lemmas.List.Elements.{All-more, All-nil, All-weaker}
use Rattle.list_laws.proofs.GoneThrough.{all_gone}
use Rattle.cca_base.specs.declared.cube.Pair.{Pair}
use Rattle.trajectory_estimator.specs.Clashes.{Blames}
use Rattle.trajectory_estimator.proofs.KnownModes.{blames_more, cut_itself, cut_on}
use Rattle.trajectory_estimator.proofs.before.Before.blame_all.Goals as goal

pub loop-pair-init : goal.loop-pair-init
loop-pair-init c = record {
  cut = cut_itself c.args.self.now c.args.cut.now.items c.requires.own;
  blames = All-nil (Blames c.args.self.now c.args.cut.now.items);
  cube = c.requires.cube;
  room = refl;
}

pub blame-requires-clause-own : goal.blame-requires-clause-own
blame-requires-clause-own c = c.loop-pair.invariant.cut.own

pub blame-requires-clause-cube : goal.blame-requires-clause-cube
blame-requires-clause-cube c = c.loop-pair.invariant.cube

pub blame-requires-clause-room : goal.blame-requires-clause-room
blame-requires-clause-room c = omega (arith, c.requires.room, c.loop-pair.invariant.room)

pub loop-pair-preserved : goal.loop-pair-preserved
loop-pair-preserved c =
    let b = c.args.self.now in
    let items = c.as_slice-pair-items.result.now in
    let i = c.loop-pair.pair-index in
    let its = c.blame.ensures in
    record {
      cut = cut_on b c.args.cut.now.items c.loop-pair.cut.items c.blame.new.cut.items c.loop-pair.invariant.cut its.cut;
      blames = All-more (Blames b c.blame.new.cut.items) items i (record { item = 0; value = 0 }) c.loop-pair-test.true
          (All-weaker (Blames b c.loop-pair.cut.items) (Blames b c.blame.new.cut.items) (λ p h. blames_more b c.loop-pair.cut.items c.blame.new.cut.items p its.cut.more h) (take i items) c.loop-pair.invariant.blames) its.blames;
      cube = its.cube;
      room = its.room ∙ c.loop-pair.invariant.room;
    }

pub returns-clause-blames : goal.returns-clause-blames
returns-clause-blames c =
    subst (λ (l : List Pair). All (Blames c.args.self.now c.loop-pair.cut.items) l) c.as_slice-pair-items.ensures.pairs
    (all_gone (Blames c.args.self.now c.loop-pair.cut.items) c.as_slice-pair-items.result.now c.loop-pair.pair-index (omega arith) c.loop-pair.invariant.blames)
