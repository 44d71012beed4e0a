-- A search's work with other marks and another cut, and as room for the next search.
use Rattle.std.proofs.Common.{◌≡◌, List, ℕ, length, refl}
use Rattle.bounded_list.specs.Bounded.{Bounded}
use Rattle.cca_base.specs.declared.cube.Pair.{Pair}
use Rattle.group_search.specs.Questions.{Question}
use Rattle.group_search.specs.Rooms.{IsRoomFor}
use Rattle.group_search.specs.Works.{IsWork}
use Rattle.group_search.specs.declared.work.Work.{Work}
use Rattle.group_search.proofs.StoreLaws.{rooms_kept}

-- the work with these marks, and this cut in the room for one
abbrev pub noted : Work → List ℕ → Bounded Pair → Work
noted w marks cut = record { boxed = w.boxed; cuts = w.cuts; names = w.names; spending = w.spending; focus = w.focus; halves = w.halves; best = w.best; marks = marks; cut = cut }

pub work_noted : (q : Question) (w : Work) (marks : List ℕ) (cut : Bounded Pair) → IsWork q w → length marks ≡ length w.marks → cut.room ≡ w.cut.room → IsWork q (noted w marks cut)
work_noted q w marks cut work long room = record {
  ready = work.ready;
  cuts = work.cuts;
  names = work.names;
  room = work.room;
  rooms = rooms_kept (length q.of) q.count w (noted w marks cut)
      (record { members = refl; cuts = refl; cut = room; halves = refl; marks = long; values = refl; costs = refl }) work.rooms;
}

pub work_room : (q : Question) (w : Work) → IsWork q w → IsRoomFor (length q.of) q.count q.room w
work_room q w is = record {
  boxed = record {
    masks = is.ready.masks;
    values = is.ready.shape.values;
    prices = is.ready.shape.prices;
    costs = is.ready.shape.costs;
    behind = is.ready.shape.behind;
    before = is.ready.shape.before;
    stands = is.ready.stands;
  };
  names = is.names;
  spent = is.room.spent;
  named = is.room.named;
  rooms = is.rooms;
}
