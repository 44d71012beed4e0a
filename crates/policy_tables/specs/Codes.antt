-- Cells in few bytes: what a table keeps stands for a cell, by the prime implicants of all moves.
use Rattle.std.specs.Prelude.{◌≡◌, ◌<◌, ℕ, List, [], length, slice_index_or}
use Rattle.cca_base.specs.declared.cube.Pair.{Pair}
use Rattle.cca_base.specs.Accepted.{CompiledModel}
use Rattle.cca_base.specs.Orders.{IsSorted}
use Rattle.policy_tables.specs.declared.code.CellRef.{CellRef}
use Rattle.policy_tables.specs.declared.code.CellRef.TheVariants as ref
use Rattle.policy_tables.specs.declared.code.Code.{Code}
use Rattle.policy_tables.specs.declared.code.Code.TheVariants as code
use Rattle.reach_laws.specs.declared.cell.Cell.{Cell}
use Rattle.reach_laws.specs.declared.cell.Cell.TheVariants as cell

-- a move's prime implicant at a place
abbrev pub way_at : List (List (List Pair)) → ℕ → ℕ → List Pair
way_at ways i k = slice_index_or (slice_index_or ways i []) k []

-- for each prime implicant of each move the same pairs, effects before their causes
pub record AreSorted (b : CompiledModel) (ways : List (List (List Pair))) : Type 0 where
  pub full : length ways ≡ length b.ways
  pub rows : (i : ℕ) → i < length b.ways → length (slice_index_or ways i []) ≡ length (slice_index_or b.ways i [])
  pub each : (i k : ℕ) → i < length b.ways → k < length (slice_index_or b.ways i []) → IsSorted b.order (way_at b.ways i k) (way_at ways i k)

-- the cell for which it stands
abbrev pub cell_of : List (List (List Pair)) → Code → Cell
cell_of ways code.Stay = cell.Stay
cell_of ways (code.Step number command way left) = cell.Step number command (way_at ways number way) left
cell_of ways code.Never = cell.Never

-- its prime implicant is there
abbrev pub IsCode : List (List (List Pair)) → Code → Type 0
IsCode ways code.Stay = Unit {0}
IsCode ways (code.Step number command way left) = (number < length ways) × (way < length (slice_index_or ways number []))
IsCode ways code.Never = Unit {0}

-- the cell that is read
abbrev pub cell_read : CellRef → Cell
cell_read ref.Stay = cell.Stay
cell_read (ref.Step number command cube left) = cell.Step number command cube.now left
cell_read ref.Never = cell.Never
