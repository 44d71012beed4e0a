-- Moves that a command names, and commands that are no steps.
use Rattle.std.specs.Prelude.{◌≡◌, ◌⊎◌, ◌↔◌, ℕ, false, List, slice_get, Some, Contains}
use Rattle.cca_base.specs.declared.cube.Pair.{Pair}
use Rattle.cca_base.specs.declared.model.Move.{Move}
use Rattle.cca_base.specs.PlantModel.{PlantModel}
use Rattle.cca_base.specs.Model.{is_broken}
use Rattle.cca_base.specs.Steps.{Step, Run}

-- the command names this move from its component's mode
pub record IsNamed (m : PlantModel) (s : List ℕ) (k : ℕ) (move : Move) : Type 0 where
  pub of_model : Contains m.moves move
  pub command : move.command ≡ k
  pub source : slice_get s move.component ≡ Some move.source

-- the command names no move
abbrev pub NoneNamed : PlantModel → List ℕ → ℕ → Type 0
NoneNamed m s k = (move : Move) → IsNamed m s k move → ⊥

-- the command is no step
abbrev pub NoStep : PlantModel → List ℕ → ℕ → Type 0
NoStep m s k = (next : List ℕ) → Step m s k next → ⊥

-- the commands are no steps one after the other
abbrev pub NoRun : PlantModel → List ℕ → List ℕ → Type 0
NoRun m s ks = (last : List ℕ) → Run m s ks last → ⊥

-- a move of the component may lean on the pair: it is the component's own, or its mode is not broken
abbrev pub IsLeanedOn : PlantModel → ℕ → Pair → Type 0
IsLeanedOn m own p = (p.item ≡ own) ⊎ (is_broken m.moves p.item p.value ≡ false)

-- exactly the state's pairs that a move of the component may lean on
abbrev pub AreSupport : PlantModel → List ℕ → ℕ → List Pair → Type 0
AreSupport m s own pairs = (p : Pair) → Contains pairs p ↔ ((slice_get s p.item ≡ Some p.value) × IsLeanedOn m own p)

-- the other state has the state's pairs that a move of the component may lean on
abbrev pub HasSupport : PlantModel → List ℕ → ℕ → List ℕ → Type 0
HasSupport m s own t = (p : Pair) → slice_get s p.item ≡ Some p.value → IsLeanedOn m own p → slice_get t p.item ≡ Some p.value
