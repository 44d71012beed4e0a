use Rattle.std.proofs.Common.{◌≡◌, length, refl, sym, ap, subst, ◌∙◌}
use Rattle.std.specs.Vec.{with_items}
use Rattle.std.proofs.lemmas.List.{with_items_is}
use Rattle.control_laws.specs.Turns.{Control, TurnsBy}
use Rattle.control_program.specs.declared.turn_room.TurnRoom.{TurnRoom}
use Rattle.control_program.specs.Running.{RunsBy, control_of}
use Rattle.control_program.proofs.RoomLaws.{room_kept, room_ready}
use Rattle.control_program.proofs.RunningLaws.{all_stands, turn_is, turn_runs}
use Rattle.control_program.proofs.runner.Runner.turn_in.Goals as goal

pub turn_at-self-inside-requires-clause-stands : goal.turn_at-self-inside-requires-clause-stands
turn_at-self-inside-requires-clause-stands c =
    let r = c.self.inside in
    all_stands r.nodes.items r.marks r.ended c.self.invariant c.as_slice-3.result.now c.swap.new.y c.as_slice-3.ensures.value c.swap.ensures.y_after

pub turn_at-self-inside-requires-clause-ready : goal.turn_at-self-inside-requires-clause-ready
turn_at-self-inside-requires-clause-ready c =
    let r = c.self.inside in
    room_ready r.nodes.items r.marks r.ended c.self.invariant c.args.self.now c.self.view_is c.as_slice-3.result.now c.as_slice-3.ensures.value c.args.model.now c.args.room.now c.requires.room
    c.args.worlds.now c.requires.of c.as_slice-4.result.now c.as_slice-4.ensures.value c.clear.new.self c.clear.ensures.items c.clear.ensures.room

pub invariant_of-self : goal.invariant_of-self
invariant_of-self c =
    let r = c.self.inside in
    let new = c.turn_at-self-inside.new.course in
    subst (λ ms. RunsBy r.nodes.items ms c.turn_at-self-inside.result) (sym c.swap-2.ensures.x_after)
    (turn_runs r.nodes.items r.marks r.ended c.self.invariant c.args.model.now c.args.estimate.now.modes c.as_slice-3.result.now c.swap.new.y c.as_slice-3.ensures.value c.swap.ensures.y_after
    c.clear.new.self.items new.goal.items c.clear.ensures.items c.turn_at-self-inside.result new.marks c.turn_at-self-inside.ensures.turns)

pub returns-clause-turn : goal.returns-clause-turn
returns-clause-turn c =
    let r = c.self.inside in
    let m = c.args.model.now in
    let e = c.args.estimate.now.modes in
    let new = c.turn_at-self-inside.new.course in
    subst (λ (x : Control). TurnsBy m e x new.goal.items (control_of r.nodes.items c.swap-2.new.x)) c.self.view_is
    (subst (λ ms. TurnsBy m e (control_of r.nodes.items r.marks) new.goal.items (control_of r.nodes.items ms)) (sym c.swap-2.ensures.x_after)
    (turn_is r.nodes.items r.marks r.ended c.self.invariant m e c.as_slice-3.result.now c.swap.new.y c.as_slice-3.ensures.value c.swap.ensures.y_after
    c.clear.new.self.items new.goal.items c.clear.ensures.items c.turn_at-self-inside.result new.marks c.turn_at-self-inside.ensures.turns))

pub returns-clause-room : goal.returns-clause-room
returns-clause-room c =
    let r = c.self.inside in
    let room = c.args.room.now in
    let course = c.turn_at-self-inside.new.course in
    let long : length c.put_pairs.new.pairs ≡ length room.modes.items = c.put_pairs.ensures.long ∙ ap length c.deref_mut.ensures.value in
    let new : TurnRoom = record {
      denials = room.denials;
      modes = with_items room.modes c.put_pairs.new.pairs;
      course = record { marks = c.swap-2.new.y; goal = course.goal; space = course.space };
    } in
    room_kept r.nodes.items r.marks r.ended c.self.invariant c.args.self.now c.self.view_is c.as_slice-3.result.now c.as_slice-3.ensures.value c.args.model.now room c.requires.room
    c.args.worlds.now c.requires.of new refl (ap length (with_items_is room.modes c.put_pairs.new.pairs (long ∙ sym room.modes.ok.0)) ∙ long) c.as_slice-4.result.now c.turn_at-self-inside.ensures.ready
