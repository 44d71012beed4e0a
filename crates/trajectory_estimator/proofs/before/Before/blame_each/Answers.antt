use Rattle.std.proofs.Common.{List, take, refl, subst, ◌∙◌, arith}
use Rattle.std.proofs.lemmas.List.Elements.{All-more, All-nil, All-weaker}
use Rattle.list_laws.proofs.GoneThrough.{all_gone}
use Rattle.cca_base.specs.declared.cube.Pair.{Pair}
use Rattle.trajectory_estimator.specs.Clashes.{Blames, IsAgainst}
use Rattle.trajectory_estimator.specs.declared.before.Before.{Before}
use Rattle.trajectory_estimator.proofs.KnownModes.{blames_more, cut_itself, cut_on}
use Rattle.trajectory_estimator.proofs.before.Before.blame_each.Goals as goal

-- a pair against the cube is blamed
abbrev IsBlamed : Before → List Pair → List Pair → Type 0
IsBlamed b cut cube = (p : Pair) × IsAgainst cube p × Blames b cut p

pub loop-cube-init : goal.loop-cube-init
loop-cube-init c = record {
  cut = cut_itself c.args.self.now c.args.cut.now.items c.requires.own;
  blames = All-nil (IsBlamed c.args.self.now c.args.cut.now.items);
  cube = c.requires.cube;
  room = refl;
}

pub blame-requires-clause-own : goal.blame-requires-clause-own
blame-requires-clause-own c = c.loop-cube.invariant.cut.own

pub blame-requires-clause-cube : goal.blame-requires-clause-cube
blame-requires-clause-cube c = c.loop-cube.invariant.cube

pub blame-requires-clause-room : goal.blame-requires-clause-room
blame-requires-clause-room c = omega (arith, c.requires.room, c.loop-cube.invariant.room)

pub loop-cube-preserved : goal.loop-cube-preserved
loop-cube-preserved c =
    let b = c.args.self.now in
    let ways = c.args.ways.now in
    let i = c.loop-cube.cube-index in
    let old = c.loop-cube.cut.items in
    let new = c.blame.new.cut.items in
    let its = c.blame.ensures in
    record {
      cut = cut_on b c.args.cut.now.items old new c.loop-cube.invariant.cut its.cut;
      blames = All-more (IsBlamed b new) ways i c.cube-item.result c.loop-cube-test.true
          (All-weaker (IsBlamed b old) (IsBlamed b new) (λ cube h. (h.0, h.1, blames_more b old new h.0 its.cut.more h.2)) (take i ways) c.loop-cube.invariant.blames)
          (c.in-Some.pair, subst (λ (l : List Pair). IsAgainst l c.in-Some.pair) c.cube-item.is c.in-Some.ensures.against, its.blames);
      cube = its.cube;
      room = its.room ∙ c.loop-cube.invariant.room;
    }

pub returns-clause-blames : goal.returns-clause-blames
returns-clause-blames c e = all_gone (IsBlamed c.args.self.now c.loop-cube.cut.items) c.args.ways.now c.loop-cube.cube-index (omega arith) c.loop-cube.invariant.blames
