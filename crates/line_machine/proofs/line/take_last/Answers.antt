use Rattle.std.proofs.Common.{Some, None, sym, eqb-true}
use Rattle.line_machine.proofs.LastBytes.{positive, empty_room, empty_sent, empty_front, may_line, line_front, behind_room, behind_sent, behind_front, stopped_sent, said_as}
use Rattle.line_machine.proofs.line.take_last.Goals as goal

pub finish-requires-clause-room : goal.finish-requires-clause-room
finish-requires-clause-room g c = empty_room g.M.Machine c.args.machine.now c.args.count c.args.tail.now (eqb-true _ 0 (sym c.if-is_empty.ensures)) _ c.requires.room

pub returns-then-is_empty-clause-ok : goal.returns-then-is_empty-clause-ok
returns-then-is_empty-clause-ok g c = empty_sent g.M.Machine c.args.machine.now c.args.count c.args.tail.now (eqb-true _ 0 (sym c.if-is_empty.ensures)) c.finish.result _ _ _ _ c.finish.ensures.ok

pub returns-then-is_empty-clause-front : goal.returns-then-is_empty-clause-front
returns-then-is_empty-clause-front g c = empty_front g.M.Machine c.args.machine.now c.args.count c.args.tail.now (eqb-true _ 0 (sym c.if-is_empty.ensures)) c.finish.result _ _ c.finish.ensures.cut

pub take_line-requires-clause-room : goal.take_line-requires-clause-room
take_line-requires-clause-room g c text may = c.requires.room text (may_line g.M.Machine c.args.machine.now c.args.count c.args.tail.now (positive _ c.if-is_empty.ensures) text may)

pub returns-in-Err-clause-front : goal.returns-in-Err-clause-front
returns-in-Err-clause-front g c = line_front g.M.Machine c.args.machine.now c.args.count c.args.tail.now (positive _ c.if-is_empty.ensures) c.in-Err.cut _ _ c.in-Err.ensures.cut

pub finish-requires-in-None-clause-room : goal.finish-requires-in-None-clause-room
finish-requires-in-None-clause-room g c =
    let line = said_as g.M.Machine c.args.machine.now c.args.count c.args.tail.now c.take_line.new.machine c.in-Ok.said None c.in-None.is c.in-Ok.ensures.ok in
    behind_room g.M.Machine c.args.machine.now c.args.count c.args.tail.now (positive _ c.if-is_empty.ensures) c.take_line.new.machine line c.requires.room

pub returns-in-None-clause-ok : goal.returns-in-None-clause-ok
returns-in-None-clause-ok g c =
    let line = said_as g.M.Machine c.args.machine.now c.args.count c.args.tail.now c.take_line.new.machine c.in-Ok.said None c.in-None.is c.in-Ok.ensures.ok in
    behind_sent g.M.Machine c.args.machine.now c.args.count c.args.tail.now (positive _ c.if-is_empty.ensures) c.take_line.new.machine line c.finish-in-None.result _ _ c.finish-in-None.ensures.ok

pub returns-in-None-clause-front : goal.returns-in-None-clause-front
returns-in-None-clause-front g c =
    let line = said_as g.M.Machine c.args.machine.now c.args.count c.args.tail.now c.take_line.new.machine c.in-Ok.said None c.in-None.is c.in-Ok.ensures.ok in
    behind_front g.M.Machine c.args.machine.now c.args.count c.args.tail.now (positive _ c.if-is_empty.ensures) c.take_line.new.machine line c.finish-in-None.result _ c.finish-in-None.ensures.cut

pub returns-in-Some-clause-ok : goal.returns-in-Some-clause-ok
returns-in-Some-clause-ok g c =
    let line = said_as g.M.Machine c.args.machine.now c.args.count c.args.tail.now c.take_line.new.machine c.in-Ok.said (Some c.in-Some.end) c.in-Some.is c.in-Ok.ensures.ok in
    stopped_sent g.M.Machine c.args.machine.now c.args.count c.args.tail.now (positive _ c.if-is_empty.ensures) c.in-Some.end line
