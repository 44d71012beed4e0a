use Rattle.std.proofs.Common.{◌+◌, Err, refl, sym, ap, subst, ◌∙◌, arith}
use Rattle.std.proofs.lemmas.List.{take_all}
use Rattle.line_machine.proofs.DriverInvariant.{IsDriving, starts, came, goes_on_line, in_turn, cut_in_turn, found_line, found_long, found_last, line_room, line_cut, line_ends, line_next, line_last, line_skipped, line_few, long_room, long_cut, long_refused, starved, no_memory, last_room, last_ends}
use Rattle.line_machine.specs.declared.buffer.FillStop.{FillStop}
use Rattle.line_machine.specs.declared.send.Cut.{Cut}
use Rattle.line_machine.proofs.SteadyCalls.{still_room}
use Rattle.line_machine.proofs.RunsAreOne.{IsFixed}
use Rattle.line_machine.proofs.driver.drive_turns.Goals as goal

pub lines-init : goal.lines-init
lines-init g c = record {
  driving = starts _ _ c.requires.none_held;
  empty = c.requires.none_said;
  out_room = c.requires.out_room;
  turn = c.requires.first;
  few = omega arith;
  quiet_source = refl;
  quiet_sink = refl;
}

pub refuse-requires-clause-room : goal.refuse-requires-clause-room
refuse-requires-clause-room g c =
    let fixed : IsFixed g.M.Machine = record { steps = g.met.M.Machine.steps_are_one; closes = g.met.M.Machine.closes_are_one } in
    let d = came fixed c.lines.invariant.driving c.next_limit-limit.ensures.short c.next_line.ensures.came in
    let f = found_long _ _ _ c.in-Ok.found c.in-Ok.ensures.found c.in-Long.is in
    long_room d f.0 (omega (arith, f.1)) (c.next_limit-limit.ensures.long _ f.1) c.requires.room

pub returns-in-Ok-refuse-clause-driven : goal.returns-in-Ok-refuse-clause-driven
returns-in-Ok-refuse-clause-driven g c =
    let fixed : IsFixed g.M.Machine = record { steps = g.met.M.Machine.steps_are_one; closes = g.met.M.Machine.closes_are_one } in
    let d = came fixed c.lines.invariant.driving c.next_limit-limit.ensures.short c.next_line.ensures.came in
    let f = found_long _ _ _ c.in-Ok.found c.in-Ok.ensures.found c.in-Long.is in
    in_turn _ d (long_refused d f.0 (omega (arith, f.1)) (c.next_limit-limit.ensures.long _ f.1) c.in-Ok-refuse.ensures.ok) (λ e. absurd cc)

pub returns-in-Err-clause-driven : goal.returns-in-Err-clause-driven
returns-in-Err-clause-driven g c =
    let fixed : IsFixed g.M.Machine = record { steps = g.met.M.Machine.steps_are_one; closes = g.met.M.Machine.closes_are_one } in
    let d = came fixed c.lines.invariant.driving c.next_limit-limit.ensures.short c.next_line.ensures.came in
    let f = found_long _ _ _ c.in-Ok.found c.in-Ok.ensures.found c.in-Long.is in
    cut_in_turn _ d (long_cut d f.0 (omega (arith, f.1)) (c.next_limit-limit.ensures.long _ f.1) _ _ c.in-Err.ensures.cut) (λ e steady. c.in-Err.ensures.steady _ steady c.lines.invariant.out_room (ap (λ (v : Cut). Err v) e))

pub take_last-requires-clause-room : goal.take_last-requires-clause-room
take_last-requires-clause-room g c =
    let fixed : IsFixed g.M.Machine = record { steps = g.met.M.Machine.steps_are_one; closes = g.met.M.Machine.closes_are_one } in
    let d = came fixed c.lines.invariant.driving c.next_limit-limit.ensures.short c.next_line.ensures.came in
    let f = found_last _ _ _ c.in-Ok.found c.in-Ok.ensures.found c.in-Last.is in
    last_room d f.0.no_line f.1 (c.front.ensures ∙ take_all _ _ (omega (arith, c.len-len.ensures))) c.requires.room

pub returns-in-Last-clause-driven : goal.returns-in-Last-clause-driven
returns-in-Last-clause-driven g c =
    let fixed : IsFixed g.M.Machine = record { steps = g.met.M.Machine.steps_are_one; closes = g.met.M.Machine.closes_are_one } in
    let d = came fixed c.lines.invariant.driving c.next_limit-limit.ensures.short c.next_line.ensures.came in
    let f = found_last _ _ _ c.in-Ok.found c.in-Ok.ensures.found c.in-Last.is in
    in_turn _ d (last_ends d f.0.no_line f.1 (c.front.ensures ∙ take_all _ _ (omega (arith, c.len-len.ensures))) c.take_last.result _ _ c.take_last.ensures.ok c.take_last.ensures.cut c.take_last.ensures.front) (λ e steady. c.take_last.ensures.steady _ steady c.lines.invariant.out_room e)

pub returns-in-Err-Fault-clause-driven : goal.returns-in-Err-Fault-clause-driven
returns-in-Err-Fault-clause-driven g c =
    let fixed : IsFixed g.M.Machine = record { steps = g.met.M.Machine.steps_are_one; closes = g.met.M.Machine.closes_are_one } in
    let d = came fixed c.lines.invariant.driving c.next_limit-limit.ensures.short c.next_line.ensures.came in
    let w = c.in-Err-Fault.ensures.waits in
    in_turn _ d (starved d w.no_line (λ some. c.next_limit-limit.ensures.short _ some w.short)) (λ e. absurd cc)

pub returns-in-Err-Memory-clause-driven : goal.returns-in-Err-Memory-clause-driven
returns-in-Err-Memory-clause-driven g c =
    let fixed : IsFixed g.M.Machine = record { steps = g.met.M.Machine.steps_are_one; closes = g.met.M.Machine.closes_are_one } in
    let d = came fixed c.lines.invariant.driving c.next_limit-limit.ensures.short c.next_line.ensures.came in
    in_turn _ d (no_memory d) (λ e steady. c.in-Err-Memory.ensures.steady (c.next_limit-limit.ensures.steady _ steady) (ap (λ (v : FillStop). Err v) c.in-Err-Memory.field-0-is))

pub take_line-requires-clause-room : goal.take_line-requires-clause-room
take_line-requires-clause-room g c =
    let fixed : IsFixed g.M.Machine = record { steps = g.met.M.Machine.steps_are_one; closes = g.met.M.Machine.closes_are_one } in
    let d = came fixed c.lines.invariant.driving c.next_limit-limit.ensures.short c.next_line.ensures.came in
    let line = found_line _ _ _ c.in-Ok.found c.in-Ok.ensures.found c.in-Line.len c.in-Line.is in
    line_room d line c.front-in-lines.ensures c.requires.room

pub returns-in-Err-take_line-clause-driven : goal.returns-in-Err-take_line-clause-driven
returns-in-Err-take_line-clause-driven g c =
    let fixed : IsFixed g.M.Machine = record { steps = g.met.M.Machine.steps_are_one; closes = g.met.M.Machine.closes_are_one } in
    let d = came fixed c.lines.invariant.driving c.next_limit-limit.ensures.short c.next_line.ensures.came in
    let line = found_line _ _ _ c.in-Ok.found c.in-Ok.ensures.found c.in-Line.len c.in-Line.is in
    cut_in_turn _ d (line_cut d line c.front-in-lines.ensures _ _ c.in-Err-take_line.ensures.cut) (λ e steady. c.in-Err-take_line.ensures.steady _ steady c.lines.invariant.out_room (ap (λ (v : Cut). Err v) e))

pub returns-in-Some-clause-driven : goal.returns-in-Some-clause-driven
returns-in-Some-clause-driven g c =
    let fixed : IsFixed g.M.Machine = record { steps = g.met.M.Machine.steps_are_one; closes = g.met.M.Machine.closes_are_one } in
    let d = came fixed c.lines.invariant.driving c.next_limit-limit.ensures.short c.next_line.ensures.came in
    let line = found_line _ _ _ c.in-Ok.found c.in-Ok.ensures.found c.in-Line.len c.in-Line.is in
    in_turn _ d (line_ends d line c.front-in-lines.ensures _ c.in-Ok-take_line.said c.in-Some.end c.in-Some.is c.in-Ok-take_line.ensures.ok) (λ e. absurd cc)

pub lines-preserved-then-skips_line : goal.lines-preserved-then-skips_line
lines-preserved-then-skips_line g c =
    let line = c.skips_line.ensures.line c.if-skips_line.true in
    record {
      driving = subst (λ h. IsDriving g.M.Machine c.args.machine.now (g.I.Intake.left c.args.source.now) (g.K.Sink.written c.args.sink.now) (g.K.Sink.space c.args.sink.now) (g.I.Intake.calls c.args.source.now) ⊥ (c.lines.count + 1) c.lines.machine h (g.I.Intake.left c.lines.source) (g.K.Sink.written c.lines.sink) (g.K.Sink.space c.lines.sink) (g.I.Intake.calls c.lines.source)) (sym c.drop_line.ensures)
          (line_skipped c.lines.invariant.driving line refl (c.skips_line.ensures.skips c.if-skips_line.true));
      turn = c.skips_line.ensures.turn c.if-skips_line.true c.lines.invariant.turn;
      empty = c.lines.invariant.empty;
      out_room = c.lines.invariant.out_room;
      few = c.skips_line.ensures.few c.if-skips_line.true;
      quiet_source = c.lines.invariant.quiet_source;
      quiet_sink = c.lines.invariant.quiet_sink;
    }

pub lines-preserved : goal.lines-preserved
lines-preserved g c =
    let fixed : IsFixed g.M.Machine = record { steps = g.met.M.Machine.steps_are_one; closes = g.met.M.Machine.closes_are_one } in
    let d = goes_on_line c.in-Ok.found c.in-Line.is (came fixed c.lines.invariant.driving c.next_limit-limit.ensures.short c.in-Ok.ensures.came) in
    let line = found_line _ _ _ c.in-Ok.found c.in-Ok.ensures.found c.in-Line.len c.in-Line.is in
    record {
      driving = subst (λ h. IsDriving g.M.Machine c.args.machine.now (g.I.Intake.left c.args.source.now) (g.K.Sink.written c.args.sink.now) (g.K.Sink.space c.args.sink.now) (g.I.Intake.calls c.args.source.now) ⊥ (c.lines.count + 1) c.take_line.new.machine h (g.I.Intake.left c.next_line.new.source) (g.K.Sink.written c.take_line.new.sink) (g.K.Sink.space c.take_line.new.sink) (g.I.Intake.calls c.next_line.new.source)) (sym c.drop_line-in-lines.ensures)
          (line_next d line c.front-in-lines.ensures _ (λ steady. c.in-Ok-take_line.ensures.stays _ steady c.lines.invariant.out_room c.in-None.is) c.in-Ok-take_line.said c.in-None.is c.in-Ok-take_line.ensures.ok);
      turn = c.in-Ok-take_line.ensures.turn c.in-None.is;
      empty = c.reserve.ensures.bytes ∙ c.in-Ok-take_line.ensures.empty;
      out_room = c.in-Ok-reserve.ensures.ok;
      few = line_few d line c.front-in-lines.ensures _ c.in-Ok-take_line.said c.in-None.is c.in-Ok-take_line.ensures.ok;
      quiet_source = c.in-Ok.ensures.quiet (λ e. absurd cc) ∙ c.lines.invariant.quiet_source;
      quiet_sink = c.in-Ok-take_line.ensures.quiet (λ e. absurd cc) ∙ c.lines.invariant.quiet_sink;
    }

pub returns-in_default-clause-driven : goal.returns-in_default-clause-driven
returns-in_default-clause-driven g c =
    let fixed : IsFixed g.M.Machine = record { steps = g.met.M.Machine.steps_are_one; closes = g.met.M.Machine.closes_are_one } in
    let d = came fixed c.lines.invariant.driving c.next_limit-limit.ensures.short c.next_line.ensures.came in
    let line = found_line _ _ _ c.in-Ok.found c.in-Ok.ensures.found c.in-Line.len c.in-Line.is in
    in_turn _ d (line_last d line c.front-in-lines.ensures _ c.in-Ok-take_line.said c.in-Ok-take_line.ensures.ok)
    (λ e steady. let same = c.in-Ok-take_line.ensures.capacity _ steady c.lines.invariant.out_room in let ok = c.in_default.ensures.succeeds (still_room _ _ c.in-Ok-take_line.ensures.empty same c.lines.invariant.out_room) in absurd cc)
