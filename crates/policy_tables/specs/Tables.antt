-- Tables, as contracts see them.
use Rattle.std.specs.Prelude.{◌≡◌, ◌≢◌, ℕ, Bool, false, suc, List, length, slice_get, Some}
use Rattle.cca_base.specs.declared.cube.Pair.{Pair}
use Rattle.cca_base.specs.declared.model.Move.{Move}
use Rattle.cca_base.specs.Accepted.{CompiledModel}
use Rattle.cca_base.specs.Choice.{IsChosen}
use Rattle.cca_base.specs.Model.{is_broken}
use Rattle.cca_base.specs.Orders.{IsSorted}
use Rattle.cca_base.specs.Steps.{Reach}
use Rattle.reach_laws.specs.declared.cell.Cell.{Cell}
use Rattle.reach_laws.specs.declared.cell.Cell.TheVariants as cell
use Rattle.reach_laws.specs.Cells.{AreCells}
use Rattle.reversibility.specs.ClassParts.{ClassParts, IsClasses, CoversState, in_row}
use Rattle.policy_tables.specs.Codes.{AreSorted}
use Rattle.policy_tables.specs.Filling.{AreFilledTo}
use Rattle.policy_tables.specs.declared.code.Code.{Code}

-- classes with their cells
pub record TableParts : Type 0 where
  pub classes : ClassParts
  pub cells : List (List Cell)

-- the classes, and for each component a right cell for each two modes
pub record IsTables (t : TableParts) : Type 0 where
  pub classes : IsClasses t.classes
  pub cells : AreCells t.classes.compiled t.classes.base (in_row t.classes.rows) t.cells

-- what a table keeps is right for the classes; other classes of the same model, and a flag for each component, stand beside it
pub record AreTables (p spare : ClassParts) (ways : List (List (List Pair))) (tables : List (List Code)) (flags : List Bool) : Type 0 where
  pub classes : IsClasses p
  pub same : spare.compiled ≡ p.compiled
  pub sorted : AreSorted p.compiled ways
  pub filled : AreFilledTo p ways tables (length p.compiled.model.components)
  pub kept : length flags ≡ length p.compiled.model.components

-- the cell stays where the component stands there, and is else the chosen move with its command, its chosen cube effects first, and its distance
abbrev pub IsChoice : CompiledModel → List ℕ → ℕ → ℕ → Cell → Type 0
IsChoice b s c to cell.Stay = slice_get s c ≡ Some to
IsChoice b s c to (cell.Step number command cube left) = (slice_get s c ≢ Some to)
    × ((move : Move) × (plain : List Pair) × (chosen : IsChosen b.model s c to move plain)
    × (chosen.at ≡ number) × (move.command ≡ command) × IsSorted b.order plain cube × (left ≡ suc chosen.nearer.rest))
IsChoice b s c to cell.Never = ⊥

-- at each covered state in which the component stands in the one mode, for the other mode where it is not broken and allowed plans reach it
abbrev pub IsChoiceFrom : ClassParts → ℕ → ℕ → ℕ → Cell → Type 0
IsChoiceFrom p c from to x = (s : List ℕ) → CoversState p s → slice_get s c ≡ Some from
    → is_broken p.compiled.model.moves c to ≡ false → Reach p.compiled.model s c to → IsChoice p.compiled s c to x
