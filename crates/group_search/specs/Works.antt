-- What a search keeps.
use Rattle.std.specs.Prelude.{◌≡◌, ℕ, List, Option, length, filter, All}
use Rattle.cca_base.specs.Relations.{numbers_below}
use Rattle.group_search.specs.Columns.{IsBox}
use Rattle.group_search.specs.Questions.{Question, IsCut, in_group}
use Rattle.group_search.specs.Rooms.{HasRoomsFor}
use Rattle.group_search.specs.declared.spending.Spending.{Spending}
use Rattle.group_search.specs.declared.work.Work.{Work}

-- a number for each component
pub record HasRoom (q : Question) (s : Spending) : Type 0 where
  pub spent : length s.spent ≡ q.count
  pub named : length s.named ≡ q.count

-- a box, cuts of the question, and a name for each component
pub record IsWork (q : Question) (w : Work) : Type 0 where
  pub ready : IsBox q w.boxed
  pub cuts : All (IsCut q) w.cuts
  pub names : length w.names ≡ q.count
  pub room : HasRoom q w.spending
  pub rooms : HasRoomsFor (length q.of) q.count w

-- exactly the components of the group, rising
abbrev pub AreMembers : Question → List ℕ → Option ℕ → List ℕ → Type 0
AreMembers q names group members = members ≡ filter (in_group names group) (numbers_below q.count)

-- box, cuts and names are as before
pub record KeepsBox (old new : Work) : Type 0 where
  pub boxed : new.boxed ≡ old.boxed
  pub cuts : new.cuts ≡ old.cuts
  pub names : new.names ≡ old.names
  pub focus : new.focus ≡ old.focus
  pub halves : new.halves ≡ old.halves
  pub best : new.best ≡ old.best
  pub marks : new.marks ≡ old.marks
  pub cut : new.cut ≡ old.cut

-- names are as before, and what places may have
pub record KeepsMasks (old new : Work) : Type 0 where
  pub masks : new.boxed.masks ≡ old.boxed.masks
  pub names : new.names ≡ old.names

-- box and names are as before, and the components that the search looks at
pub record KeepsPaths (old new : Work) : Type 0 where
  pub boxed : new.boxed ≡ old.boxed
  pub names : new.names ≡ old.names
  pub members : new.focus.members ≡ old.focus.members
  pub halves : new.halves ≡ old.halves
  pub best : new.best ≡ old.best
