use Rattle.std.proofs.Common.{◌≡◌, ℕ, List, length, sym, ap, subst, arith}
use Rattle.std.proofs.lemmas.Option.{get_or_from_slice_get}
use Rattle.cca_base.specs.Cube.{IsCube}
use Rattle.cca_base.specs.declared.cube.Pair.{Pair}
use Rattle.cca_base.specs.State.{Extends}
use Rattle.trajectory_estimator.specs.Asked.{Asked}
use Rattle.trajectory_estimator.specs.Clashes.{AreOwn}
use Rattle.trajectory_estimator.specs.PlaceLaws.{gate_own, length-places}
use Rattle.trajectory_estimator.proofs.KnownModes.{gate_pairs, gate_pairs_own, gate_pairs_say, gate_pushed, known_by_group}
use Rattle.trajectory_estimator.proofs.gate.gate_cut.Goals as goal

pub push-requires : goal.push-requires
push-requires c =
    let b = c.args.before.now in
    let q : Asked = b.paths.query.now in
    let place = gate_own q c.args.step.now.component b.at (omega (arith, c.requires.component, b.full)) b.within in
    omega (arith, place.within, length-places q, c.requires.room, c.clear.ensures.room, ap length c.clear.ensures.items)

pub blame-requires-clause-known : goal.blame-requires-clause-known
blame-requires-clause-known c =
    let b = c.args.before.now in
    record {
      component = c.requires.component;
      known = known_by_group b c.args.step.now.component c.requires.own;
      stands = get_or_from_slice_get b.modes.now c.args.step.now.component c.args.step.now.source 0 c.requires.source;
    }

pub blame-requires-clause-own : goal.blame-requires-clause-own
blame-requires-clause-own c =
    let b = c.args.before.now in
    let e = gate_pushed b c.args.step.now.component c.count.result c.records.result.now c.clear.new.self.items c.push.new.self.items c.clear.ensures.items c.records.ensures.value c.count.ensures.count c.push.ensures.items in
    subst (AreOwn b.paths) (sym e) (gate_pairs_own b c.args.step.now.component c.requires.component c.requires.own)

pub blame-requires-clause-cube : goal.blame-requires-clause-cube
blame-requires-clause-cube c =
    let b = c.args.before.now in
    let e = gate_pushed b c.args.step.now.component c.count.result c.records.result.now c.clear.new.self.items c.push.new.self.items c.clear.ensures.items c.records.ensures.value c.count.ensures.count c.push.ensures.items in
    let one : IsCube (gate_pairs b c.args.step.now.component) = λ i j d before within same. omega (arith, before, within) in
    subst IsCube (sym e) one

pub blame-requires-clause-room : goal.blame-requires-clause-room
blame-requires-clause-room c = omega (arith, c.requires.room, c.clear.ensures.room, c.push.ensures.room)

pub returns-clause-gate : goal.returns-clause-gate
returns-clause-gate c values extends =
    let b = c.args.before.now in
    let e = gate_pushed b c.args.step.now.component c.count.result c.records.result.now c.clear.new.self.items c.push.new.self.items c.clear.ensures.items c.records.ensures.value c.count.ensures.count c.push.ensures.items in
    gate_pairs_say b c.args.step.now.component values (subst (Extends values) e (c.blame.ensures.cut.more values extends))
