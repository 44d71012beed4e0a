use Rattle.std.proofs.Common.{◌*◌, ◌%◌, ◌^◌, length, slice_index, ap, ◌∙◌, arith}
use Rattle.std.proofs.lemmas.List.{length-set, take-set-le}
use Rattle.clash_analysis.specs.declared.entry.Why.TheVariants.{Chosen}
use Rattle.world_search.specs.Works.{HasMore, ShareSome}
use Rattle.world_search.proofs.PutLaws.{entry_of, levels_tried}
use Rattle.world_search.proofs.WorkLaws.{mark_room, marks_tried, one_has, one_none, ready_put, right_put, room_here, weight_tried}
use Rattle.world_search.proofs.work.try_value.Goals as goal

pub put-requires-clause-room : goal.put-requires-clause-room
put-requires-clause-room c =
    let old = c.args.work.now in
    let value = c.args.value in
    room_here old old c.args.subject (1 * 2 ^ value % 2 ^ 64) Chosen c.requires.ready c.requires.subject (value, c.requires.has, one_has value c.requires.small)
    (c.requires.other.0, c.requires.other.2, one_none value c.requires.other.0 c.requires.small c.requires.other.1)

pub index_mut-requires : goal.index_mut-requires
index_mut-requires c =
    let old = c.args.work.now in
    let value = c.args.value in
    let room = room_here old old c.args.subject (1 * 2 ^ value % 2 ^ 64) Chosen c.requires.ready c.requires.subject (value, c.requires.has, one_has value c.requires.small)
    (c.requires.other.0, c.requires.other.2, one_none value c.requires.other.0 c.requires.small c.requires.other.1) in
    omega (arith, mark_room old c.requires.ready room, ap length c.put.ensures.levels.marks)

pub returns-clause-ready : goal.returns-clause-ready
returns-clause-ready c =
    let old = c.args.work.now in
    let value = c.args.value in
    let kept = 1 * 2 ^ value % 2 ^ 64 in
    let some : ShareSome (slice_index old.dom.items c.args.subject) kept = (value, c.requires.has, one_has value c.requires.small) in
    let more : HasMore (slice_index old.dom.items c.args.subject) kept = (c.requires.other.0, c.requires.other.2, one_none value c.requires.other.0 c.requires.small c.requires.other.1) in
    let room = room_here old old c.args.subject kept Chosen c.requires.ready c.requires.subject some more in
    let few = mark_room old c.requires.ready room in
    ready_put old _ c.args.subject kept Chosen c.requires.ready c.requires.subject some more
    (record { start = c.put.ensures.put.start; learn = c.put.ensures.put.learn; head = c.put.ensures.put.head; long = c.put.ensures.put.long; trail = c.put.ensures.put.trail; dom = c.put.ensures.put.dom })
    (length-set c.put.new.work.marks.items old.levels old.long ∙ ap length c.put.ensures.levels.marks)
    (rw c.put.ensures.levels.marks (levels_tried old.trail.items old.long (entry_of old.dom.items c.args.subject kept Chosen) room old.marks.items old.levels c.requires.ready.levels few))

pub returns-clause-weight : goal.returns-clause-weight
returns-clause-weight c =
    let old = c.args.work.now in
    let value = c.args.value in
    let kept = 1 * 2 ^ value % 2 ^ 64 in
    let some : ShareSome (slice_index old.dom.items c.args.subject) kept = (value, c.requires.has, one_has value c.requires.small) in
    let more : HasMore (slice_index old.dom.items c.args.subject) kept = (c.requires.other.0, c.requires.other.2, one_none value c.requires.other.0 c.requires.small c.requires.other.1) in
    let room = room_here old old c.args.subject kept Chosen c.requires.ready c.requires.subject some more in
    let few = mark_room old c.requires.ready room in
    rw (c.put.ensures.levels.marks, c.put.ensures.put.trail, c.put.ensures.put.long, length-set old.trail.items old.long (entry_of old.dom.items c.args.subject kept Chosen))
    (weight_tried (length old.trail.items) old.marks.items old.levels old.long few c.requires.ready.shape.marks)

pub returns-clause-right : goal.returns-clause-right
returns-clause-right c want pairs t =
    let old = c.args.work.now in
    let value = c.args.value in
    let kept = 1 * 2 ^ value % 2 ^ 64 in
    let some : ShareSome (slice_index old.dom.items c.args.subject) kept = (value, c.requires.has, one_has value c.requires.small) in
    let more : HasMore (slice_index old.dom.items c.args.subject) kept = (c.requires.other.0, c.requires.other.2, one_none value c.requires.other.0 c.requires.small c.requires.other.1) in
    right_put old c.put.new.work c.args.subject kept Chosen c.requires.ready c.requires.subject some more c.put.ensures.put want pairs tt t

pub returns-clause-below : goal.returns-clause-below
returns-clause-below c n stands =
    let old = c.args.work.now in
    let value = c.args.value in
    let kept = 1 * 2 ^ value % 2 ^ 64 in
    let some : ShareSome (slice_index old.dom.items c.args.subject) kept = (value, c.requires.has, one_has value c.requires.small) in
    let more : HasMore (slice_index old.dom.items c.args.subject) kept = (c.requires.other.0, c.requires.other.2, one_none value c.requires.other.0 c.requires.small c.requires.other.1) in
    let few = mark_room old c.requires.ready (room_here old old c.args.subject kept Chosen c.requires.ready c.requires.subject some more) in (
      record {
        room = omega (arith, stands.room, c.put.ensures.put.long);
        marks = rw c.put.ensures.levels.marks (marks_tried n old few stands);
      },
      rw c.put.ensures.put.trail (take-set-le n old.trail.items old.long (entry_of old.dom.items c.args.subject kept Chosen) stands.room),
    )
