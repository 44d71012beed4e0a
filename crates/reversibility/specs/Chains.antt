-- The open chains of modes.
use Rattle.std.specs.Prelude.{◌≡◌, ◌↔◌, ◌<◌, ℕ, true, List, slice_index}
use Rattle.cca_base.specs.PlantModel.{PlantModel}
use Rattle.cca_base.specs.Model.{is_broken}
use Rattle.cca_base.specs.Sets.{has}
use Rattle.reach_laws.specs.Classes.{Test, OpenMove, OpenRepairs}

-- an open move of the component leaves the mode
abbrev pub LeavesMode : PlantModel → Test → ℕ → ℕ → Type 0
LeavesMode m member c mode = (next : ℕ) × OpenMove m member c mode next

-- the mode is broken, and open repairs lead to it
abbrev pub IsOnChain : PlantModel → Test → ℕ → ℕ → ℕ → Type 0
IsOnChain m member c mode x = (is_broken m.moves c x ≡ true) × ((n : ℕ) × OpenRepairs m member c mode x n)

-- exactly these modes are in the set
abbrev pub IsOpenChain : PlantModel → Test → ℕ → ℕ → ℕ → Type 0
IsOpenChain m member c mode set = (x : ℕ) → (has set x ≡ true) ↔ IsOnChain m member c mode x

-- the sets of the first components are their open chains
abbrev pub AreOpenChains : PlantModel → List ℕ → Test → List ℕ → ℕ → Type 0
AreOpenChains m base member chains n = (u : ℕ) → u < n → IsOpenChain m member u (slice_index base u) (slice_index chains u)
