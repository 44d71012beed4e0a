use Rattle.std.proofs.Common.{◌≡◌, ◌*◌, ◌≤◌, length, refl, sym, ap, subst, arith}
use Rattle.std.specs.Prelude.{count_ones}
use Rattle.std.specs.List.{sum_by}
use Rattle.group_search.specs.Rooms.{KeepsRooms}
use Rattle.group_search.specs.Works.{AreMembers}
use Rattle.group_search.specs.declared.columns.Chosen.{Chosen}
use Rattle.group_search.proofs.HalfLaws.{few_halves, few_values}
use Rattle.group_search.proofs.MemberLaws.{members_read}
use Rattle.group_search.proofs.SearchLaws.{sought_begun}
use Rattle.group_search.proofs.StoreLaws.{rooms_kept}
use Rattle.group_search.proofs.find.find.Goals as goal

pub boxes-init : goal.boxes-init
boxes-init g c =
    let q = g.P.Paths.means.question c.args.problem.now in let work = c.args.work.now in let was = c.requires.work in
    record {
      space = c.requires.space;
      work = record {
        ready = was.ready;
        cuts = was.cuts;
        names = was.names;
        room = was.room;
        rooms = rooms_kept (length q.of) q.count work _ (record {
          members = c.look.ensures.members_room;
          cuts = c.look.ensures.cuts_room;
          cut = refl;
          halves = c.clear.ensures.room;
          marks = refl;
          values = ap (λ (x : Chosen). length x.values) c.begin.ensures.found;
          costs = ap (λ (x : Chosen). length x.costs) c.begin.ensures.found;
        }) was.rooms;
      };
      names = refl;
      members = members_read c.look.new.self.members.items work.names c.as_slice-names.result.now c.args.group q.count c.as_slice-names.ensures was.names c.look.ensures.members;
      sought = sought_begun q work.names c.args.group work.boxed.masks c.args.limit c.clear.new.self.items c.begin.new.self c.clear.ensures.items c.begin.ensures.none c.begin.ensures.limit;
    }

pub turn-requires-clause-members : goal.turn-requires-clause-members
turn-requires-clause-members g c =
    subst (λ names. AreMembers (g.P.Paths.means.question c.args.problem.now) names c.args.group c.boxes.work.focus.members.items) (sym c.boxes.invariant.names) c.boxes.invariant.members

pub turn-requires-clause-room : goal.turn-requires-clause-room
turn-requires-clause-room g c =
    let q = g.P.Paths.means.question c.args.problem.now in let base = c.args.work.now.boxed.masks in
    let work = c.boxes.work in let sought = c.boxes.invariant.sought in let masks = work.boxed.masks in let halves = work.halves.items in
    let few = few_halves halves masks (length q.of) c.boxes.invariant.work.ready.masks (λ k d under. (sought.own k d under).0) sought.fewer in
    let same = ap (sum_by count_ones) sought.before in
    let most = few_values base c.requires.work.ready.words in
    let room : 64 * length q.of ≤ work.halves.room = c.boxes.invariant.work.rooms.halves in
    omega (arith, few, same, most, room, c.requires.work.ready.masks)
