-- What one cell leads to.
use Rattle.std.specs.Prelude.{◌≡◌, ◌≢◌, ℕ, suc, true, List, slice_get, Some}
use Rattle.cca_base.specs.declared.cube.Pair.{Pair}
use Rattle.cca_base.specs.Implicants.{Needs}
use Rattle.reach_laws.specs.Cells.{Finds}
use Rattle.policy_tables.specs.Tables.{TableParts}
use Rattle.planner_step.specs.Planning.{cells_of, member_of}
use Rattle.planner_step.specs.declared.toward.Next.{Next}
use Rattle.planner_step.specs.declared.toward.Next.TheVariants.{Command, First}

-- a pair of the classes that the state does not hold
pub record IsWantedPair (t : TableParts) (s : List ℕ) (p : Pair) : Type 0 where
  pub inside : member_of t p.item p.value ≡ true
  pub missing : slice_get s p.item ≢ Some p.value

-- what is found for the second pair is found for the first, by one cell more
pub record GoesOn (t : TableParts) (s : List ℕ) (p q : Pair) : Type 0 where
  pub finds : (k n : ℕ) → Finds (cells_of t) s q.item q.value k n → Finds (cells_of t) s p.item p.value k (suc n)
  pub needs : Needs t.classes.compiled.model p.item q.item
  pub wanted : IsWantedPair t s q

-- one cell's command is found, or the pair to go on with
abbrev pub CellSays : TableParts → List ℕ → Pair → Next → Type 0
CellSays t s p (Command k) = Finds (cells_of t) s p.item p.value k 1
CellSays t s p (First q) = GoesOn t s p q
