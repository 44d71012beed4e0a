-- What tables are filled with.
use Rattle.std.specs.Prelude.{◌≡◌, ◌<◌, ◌+◌, ◌*◌, ℕ, List, [], length, slice_index, slice_index_or}
use Rattle.cca_base.specs.declared.cube.Pair.{Pair}
use Rattle.cca_base.specs.declared.limits.TheConstants.{MAX_MOVES}
use Rattle.cca_base.specs.Model.{mode_counts}
use Rattle.policy_tables.specs.Codes.{IsCode, cell_of}
use Rattle.policy_tables.specs.declared.code.Code.{Code}
use Rattle.policy_tables.specs.declared.code.Code.TheVariants as code
use Rattle.policy_tables.specs.declared.filling.Work.{Work}
use Rattle.reach_laws.specs.declared.cell.Cell.{Cell}
use Rattle.reach_laws.specs.declared.cell.Cell.TheVariants as cell
use Rattle.reach_laws.specs.Cells.{IsCell}
use Rattle.reach_laws.specs.Classes.{Stands}
use Rattle.reversibility.specs.ClassParts.{ClassParts, in_row}

-- the component may stand in the mode
abbrev pub MayStand : ClassParts → ℕ → ℕ → Type 0
MayStand p c from = Stands p.compiled.model p.base (in_row p.rows) c from

-- the cell is right where the component may stand in the one mode, and says never elsewhere
pub record IsRightCell (p : ClassParts) (c from to : ℕ) (x : Cell) : Type 0 where
  pub policy : MayStand p c from → IsCell p.compiled (in_row p.rows) c from to x
  pub outside : (MayStand p c from → ⊥) → x ≡ cell.Never

-- there is room for the moves of any mode
pub record HasRoom (w : Work) : Type 0 where
  pub numbers : w.leaving.numbers.room ≡ MAX_MOVES
  pub ways : w.leaving.ways.room ≡ MAX_MOVES

-- a place for each two modes; the cells for which the codes at the first places stand are right, where each mode has so many
pub record AreRightTo (p : ClassParts) (ways : List (List (List Pair))) (c modes : ℕ) (codes : List Code) (n : ℕ) : Type 0 where
  pub full : length codes ≡ modes * modes
  pub each : (from to : ℕ) → to < modes → from * modes + to < n
      → IsRightCell p c from to (cell_of ways (slice_index_or codes (from * modes + to) code.Never)) × IsCode ways (slice_index_or codes (from * modes + to) code.Never)

-- the cells of the first modes are right
abbrev pub AreRightRows : ClassParts → List (List (List Pair)) → ℕ → ℕ → List Code → Type 0
AreRightRows p ways c n codes = AreRightTo p ways c (slice_index (mode_counts p.compiled.model) c) codes (n * slice_index (mode_counts p.compiled.model) c)

-- the cells of the component are right, one for each two modes
abbrev pub AreRightCells : ClassParts → List (List (List Pair)) → ℕ → List Code → Type 0
AreRightCells p ways c = AreRightRows p ways c (slice_index (mode_counts p.compiled.model) c)

-- the first components have their cells
pub record AreFilledTo (p : ClassParts) (ways : List (List (List Pair))) (tables : List (List Code)) (n : ℕ) : Type 0 where
  pub full : length tables ≡ length p.compiled.model.components
  pub each : (c : ℕ) → c < n → AreRightCells p ways c (slice_index_or tables c [])

-- a table for each component, with a place for each two modes
pub record HasPlaces (p : ClassParts) (tables : List (List Code)) : Type 0 where
  pub full : length tables ≡ length p.compiled.model.components
  pub each : (c : ℕ) → c < length p.compiled.model.components
      → length (slice_index_or tables c []) ≡ slice_index (mode_counts p.compiled.model) c * slice_index (mode_counts p.compiled.model) c
