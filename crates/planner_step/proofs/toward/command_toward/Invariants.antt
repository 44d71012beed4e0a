use Rattle.std.proofs.Common.{◌≡◌, ◌+◌, ℕ}
use Rattle.reach_laws.specs.Cells.{Finds}
use Rattle.planner_step.specs.Planning.{cells_of}
use Rattle.planner_step.specs.Toward.{IsWantedPair}
use Rattle.reach_laws.proofs.Later.{later}
use Rattle.planner_step.proofs.toward.command_toward.Given as goal

abbrev pub invariant-toward : goal.invariant-toward
invariant-toward g l = IsWantedPair l.tables l.state.modes l.at
    × ((looked : ℕ) × (l.steps ≡ l.initial.steps + looked)
    × ((k n : ℕ) → Finds (cells_of l.tables) l.state.modes l.at.item l.at.value k n → Finds (cells_of l.tables) l.state.modes l.fn.pair.item l.fn.pair.value k (looked + n)))

abbrev pub decreases-toward : goal.decreases-toward
decreases-toward g l = later l.tables.classes.compiled.order l.at.item
