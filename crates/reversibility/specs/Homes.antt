-- Homes and classes of single components, and of those that are done.
use Rattle.std.specs.Prelude.{◌≡◌, ◌↔◌, ◌<◌, ℕ, zero, suc, Bool, true, false, List, length, slice_index}
use Rattle.cca_base.specs.declared.model.Move.{Move}
use Rattle.cca_base.specs.PlantModel.{PlantModel}
use Rattle.cca_base.specs.Flags.{is_set}
use Rattle.cca_base.specs.Model.{is_broken, IsNext}
use Rattle.cca_base.specs.Sets.{has}
use Rattle.reach_laws.specs.Classes.{Test, Joined, OpenRepairs, IsHome, InClass}
use Rattle.reach_laws.proofs.Order.{Among}
use Rattle.reversibility.specs.Levels.{Edges}
use Rattle.reversibility.specs.ClassParts.{in_row}
use Rattle.reversibility.specs.declared.taking.Taken.{Taken}

-- the numbers that the last level joins both ways with the home
abbrev pub IsAround : List ℕ → ℕ → ℕ → ℕ → Type 0
IsAround closed home n all = (x : ℕ) → (has all x ≡ true) ↔ ((x < n) × (in_row closed home x ≡ true) × (in_row closed x home ≡ true))

-- n repairs lead from a mode to the next one, and so on, each along an edge
abbrev pub EdgeRepairs : List Move → Edges → ℕ → ℕ → ℕ → ℕ → Type 0
EdgeRepairs moves edge c from to zero = from ≡ to
EdgeRepairs moves edge c from to (suc n) = (next : ℕ) × IsNext moves c from next × edge from next × EdgeRepairs moves edge c next to n

-- by edges: the first mode that is not broken on the way from a mode along repairs
abbrev pub IsHomeBy : List Move → Edges → ℕ → ℕ → ℕ → Type 0
IsHomeBy moves edge c mode a = (is_broken moves c a ≡ false) × ((n : ℕ) × EdgeRepairs moves edge c mode a n)

-- the first mode that is not broken on the way from a mode along open repairs
pub record IsHomeFrom (m : PlantModel) (member : Test) (c mode a : ℕ) : Type 0 where
  pub sound : is_broken m.moves c a ≡ false
  pub count : ℕ
  pub way : OpenRepairs m member c mode a count

-- exactly the modes that are joined both ways with the home
pub record IsClassFrom (m : PlantModel) (member : Test) (c mode set : ℕ) : Type 0 where
  pub home : ℕ
  pub is_home : IsHomeFrom m member c mode home
  pub each : (x : ℕ) → (has set x ≡ true) ↔ (Joined m member c home x × Joined m member c x home)

-- nothing is taken of so many components
pub record IsNothing (count : ℕ) (taken : Taken) : Type 0 where
  pub rows_full : length taken.rows ≡ count
  pub flags_full : length taken.mendable ≡ count
  pub rows : (c x : ℕ) → in_row taken.rows c x ≡ false
  pub flags : (c : ℕ) → is_set taken.mendable c ≡ false

-- the classes of these components stand, and the others are empty
pub record AreDone (m : PlantModel) (base rows : List ℕ) (flags : List Bool) (done : List ℕ) : Type 0 where
  pub rows_full : length rows ≡ length m.components
  pub flags_full : length flags ≡ length m.components
  pub each : (d x : ℕ) → Among d done → (in_row rows d x ≡ true) ↔ InClass m base (in_row rows) d x
  pub rest : (d x : ℕ) → (Among d done → ⊥) → in_row rows d x ≡ false
  pub flagged : (d : ℕ) → Among d done → (is_set flags d ≡ true) ↔ ((is_broken m.moves d (slice_index base d) ≡ true) × ((a : ℕ) × IsHome m base (in_row rows) d a))
  pub unflagged : (d : ℕ) → (Among d done → ⊥) → is_set flags d ≡ false
