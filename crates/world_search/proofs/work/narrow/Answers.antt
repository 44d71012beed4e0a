use Rattle.std.proofs.Common.{length, ap}
use Rattle.world_search.proofs.PutLaws.{entry_of, levels_put}
use Rattle.world_search.proofs.WorkLaws.{ready_put, right_put, room_here}
use Rattle.world_search.proofs.work.narrow.Goals as goal

pub put-requires-clause-room : goal.put-requires-clause-room
put-requires-clause-room c = room_here c.args.work.now c.args.work.now c.args.subject c.args.kept c.args.why c.requires.ready c.requires.subject c.requires.some c.requires.more

pub returns-clause-ready : goal.returns-clause-ready
returns-clause-ready c =
    let old = c.args.work.now in
    let room = room_here old old c.args.subject c.args.kept c.args.why c.requires.ready c.requires.subject c.requires.some c.requires.more in
    ready_put old c.put.new.work c.args.subject c.args.kept c.args.why c.requires.ready c.requires.subject c.requires.some c.requires.more c.put.ensures.put (ap length c.put.ensures.levels.marks)
    (rw (c.put.ensures.levels.marks, c.put.ensures.levels.levels)
    (levels_put old.trail.items old.long (entry_of old.dom.items c.args.subject c.args.kept c.args.why) room old.marks.items old.levels c.requires.ready.levels c.requires.why.plain c.requires.why.derived))

pub returns-clause-right : goal.returns-clause-right
returns-clause-right c = right_put c.args.work.now c.put.new.work c.args.subject c.args.kept c.args.why c.requires.ready c.requires.subject c.requires.some c.requires.more c.put.ensures.put
