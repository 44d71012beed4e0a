-- Rooms that a search works in: as much as its question wants.
use Rattle.std.specs.Prelude.{◌≡◌, ℕ, ◌+◌, ◌*◌, ◌≤◌, List, Bool, Option, None, Some, cond, count_ones, length}
use Rattle.std.specs.List.{sum_by}
use Rattle.bounded_list.specs.Bounded.{Bounded}
use Rattle.cca_base.specs.declared.limits.TheConstants.{MAX_CHOICES}
use Rattle.group_search.specs.Questions.{Question}
use Rattle.group_search.specs.declared.columns.Chosen.{Chosen}
use Rattle.group_search.specs.declared.halves.Half.{Half}
use Rattle.group_search.specs.declared.least.SearchRoom.{SearchRoom}
use Rattle.group_search.specs.declared.path_box.PathBox.{PathBox}
use Rattle.group_search.specs.declared.store.TheConstants.{MAX_CUTS}
use Rattle.group_search.specs.declared.work.Work.{Work}

-- values of so many places, with costs of so many components
pub record IsShapedFor (places components : ℕ) (x : Chosen) : Type 0 where
  pub values : length x.values ≡ places
  pub costs : length x.costs ≡ components

-- as many as the question has
abbrev pub IsShaped : Question → Chosen → Type 0
IsShaped q x = IsShapedFor (length q.of) q.count x

-- a box of so many places and components, with so much room to find a path, whatever stands in it
pub record IsBoxFor (places components room : ℕ) (b : PathBox) : Type 0 where
  pub masks : length b.masks ≡ places
  pub values : length b.columns.values ≡ places
  pub prices : length b.columns.prices ≡ places
  pub costs : length b.columns.costs ≡ components
  pub behind : length b.columns.behind ≡ room
  pub before : length b.columns.before ≡ room
  pub stands : length b.stands ≡ components

-- as the question wants it
abbrev pub IsBoxRoom : Question → PathBox → Type 0
IsBoxRoom q b = IsBoxFor (length q.of) q.count q.room b

-- room for what a search keeps beside its box
pub record HasRoomsFor (places components : ℕ) (w : Work) : Type 0 where
  pub members : components ≤ w.focus.members.room
  pub cuts : MAX_CUTS ≤ w.focus.cuts.room
  pub cut : places ≤ w.cut.room
  pub halves : MAX_CHOICES * places ≤ w.halves.room
  pub marks : length w.marks ≡ components
  pub best : IsShapedFor places components w.best.found

-- all that is room stays so
pub record KeepsRooms (old new : Work) : Type 0 where
  pub members : new.focus.members.room ≡ old.focus.members.room
  pub cuts : new.focus.cuts.room ≡ old.focus.cuts.room
  pub cut : new.cut.room ≡ old.cut.room
  pub halves : new.halves.room ≡ old.halves.room
  pub marks : length new.marks ≡ length old.marks
  pub values : length new.best.found.values ≡ length old.best.found.values
  pub costs : length new.best.found.costs ≡ length old.best.found.costs

-- room for searches among so many places and components
pub record IsRoomFor (places components room : ℕ) (w : Work) : Type 0 where
  pub boxed : IsBoxFor places components room w.boxed
  pub names : length w.names ≡ components
  pub spent : length w.spending.spent ≡ components
  pub named : length w.spending.named ≡ components
  pub rooms : HasRoomsFor places components w

-- memory for questions of so many places and components
pub record IsSearchRoomFor (places components room : ℕ) (r : SearchRoom) : Type 0 where
  pub work : IsRoomFor places components room r.work
  pub chosen : IsShapedFor places components r.chosen
  pub other : IsShapedFor places components r.other

-- memory for this question
abbrev pub IsSearchRoom : Question → SearchRoom → Type 0
IsSearchRoom q r = IsSearchRoomFor (length q.of) q.count q.room r

-- each value that a place can still lose may be split off
abbrev pub HasSplits : List ℕ → Bounded Half → Type 0
HasSplits masks halves = length halves.items + sum_by count_ones masks ≤ halves.room

-- what stands in the room, where something was found
abbrev pub found_in : Bool → SearchRoom → Option Chosen
found_in found r = cond found (Some r.chosen) None
