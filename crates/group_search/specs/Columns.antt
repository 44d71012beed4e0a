-- The least path of each component in a box, and what it costs more to leave its values.
use Rattle.std.specs.Prelude.{◌≡◌, ◌≢◌, ℕ, ◌<◌, ◌≤◌, ◌+◌, ◌==◌, ◌^◌, Bool, true, false, List, length, slice_index, slice_index_or, All, Option, None, Some}
use Rattle.group_search.specs.Questions.{Question, IsInside, IsSolution}
use Rattle.group_search.specs.declared.columns.Columns.{Columns}
use Rattle.group_search.specs.declared.path_box.PathBox.{PathBox}
use Rattle.group_search.specs.declared.columns.TheConstants.{MAX_PATH}

-- the component alone
abbrev pub itself : ℕ → ℕ → Bool
itself c d = d == c

-- as many values and prices as there are places, as many costs as components, and the room that is wanted
pub record AreColumns (q : Question) (x : Columns) : Type 0 where
  pub values : length x.values ≡ length q.of
  pub prices : length x.prices ≡ length q.of
  pub costs : length x.costs ≡ q.count
  pub behind : length x.behind ≡ q.room
  pub before : length x.before ≡ q.room

-- a solution that has another value costs this more at least; None: there is none
abbrev pub CostsMore : Option ℕ → ℕ → ℕ → Type 0
CostsMore None cost more = ⊥
CostsMore (Some price) cost more = cost + price ≤ more

-- the component's own values are its path of least cost in the box; each solution that leaves one of them costs the price more
pub record IsColumn (q : Question) (masks : List ℕ) (c : ℕ) (x : Columns) : Type 0 where
  pub inside : IsInside q (itself c) masks x.values
  pub cost : q.has_cost c x.values (slice_index x.costs c)
  pub cheap : slice_index x.costs c ≤ MAX_PATH
  pub least : (values costs : List ℕ) → IsSolution q (itself c) masks values costs → slice_index x.costs c ≤ slice_index costs c
  pub more : (place : ℕ) (values costs : List ℕ) → place < length q.of → slice_index q.of place ≡ c → IsSolution q (itself c) masks values costs
      → slice_index values place ≢ slice_index x.values place → CostsMore (slice_index_or x.prices place None) (slice_index x.costs c) (slice_index costs c)

-- no solution is inside at the component
abbrev pub NoColumn : Question → List ℕ → ℕ → Type 0
NoColumn q masks c = (values costs : List ℕ) → IsSolution q (itself c) masks values costs → ⊥

-- what stands of other components is as before
pub record KeepsOthers (q : Question) (c : ℕ) (old new : Columns) : Type 0 where
  pub shape : AreColumns q new
  pub values : (place : ℕ) → place < length q.of → slice_index q.of place ≢ c → slice_index new.values place ≡ slice_index old.values place
  pub prices : (place : ℕ) → place < length q.of → slice_index q.of place ≢ c → slice_index_or new.prices place None ≡ slice_index_or old.prices place None
  pub costs : (d : ℕ) → d < q.count → d ≢ c → slice_index new.costs d ≡ slice_index old.costs d

-- the component's column, or that there is none
pub record StandsOrNot (q : Question) (b : PathBox) (c : ℕ) : Type 0 where
  pub stands : slice_index_or b.stands c false ≡ true → IsColumn q b.masks c b.columns
  pub none : slice_index_or b.stands c false ≡ false → NoColumn q b.masks c

-- a box with the columns of its components
pub record IsBox (q : Question) (b : PathBox) : Type 0 where
  pub masks : length b.masks ≡ length q.of
  pub words : All (λ w. w < 2 ^ 64) b.masks
  pub shape : AreColumns q b.columns
  pub stands : length b.stands ≡ q.count
  pub each : (c : ℕ) → c < q.count → StandsOrNot q b c

-- values that each component can have at the cost that stands there, at the components that pass the test
pub record ArePaths (q : Question) (test : ℕ → Bool) (values costs : List ℕ) : Type 0 where
  pub places : length values ≡ length q.of
  pub components : length costs ≡ q.count
  pub cost : (c : ℕ) → c < q.count → test c ≡ true → q.has_cost c values (slice_index costs c)
  pub cheap : (c : ℕ) → c < q.count → test c ≡ true → slice_index costs c ≤ MAX_PATH
