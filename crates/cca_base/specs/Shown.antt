-- The examples that are shown where a model is refused.
use Rattle.std.specs.Prelude.{◌≡◌, ◌⊎◌, ℕ, List, [], ◌∷◌, ◌++◌}
use Rattle.cca_base.specs.declared.cube.Pair.{Pair}
use Rattle.cca_base.specs.PlantModel.{PlantModel}
use Rattle.cca_base.specs.State.{IsState, IsWorld, Extends}
use Rattle.cca_base.specs.Repairs.{pairs_of}
use Rattle.cca_base.specs.Implicants.{Needs}
use Rattle.cca_base.specs.Relations.{IsShownCycleBy}
use Rattle.cca_base.specs.Estimates.{IsEarlier}

-- the cycle that begins with the least component on any cycle, is shortest through it, and is the first of these entry by entry
abbrev pub IsShownCycle : PlantModel → List ℕ → Type 0
IsShownCycle m = IsShownCycleBy (Needs m)

-- some world of the state has each of the values that are seen
abbrev pub CanShow : PlantModel → List ℕ → List Pair → Type 0
CanShow m s seen = (w : List ℕ) × IsWorld m s w × Extends w seen

-- no state that extends the pairs has such a world
abbrev pub Clash : PlantModel → List Pair → List Pair → Type 0
Clash m seen pairs = (s : List ℕ) → IsState m s → Extends s pairs → CanShow m s seen → ⊥

-- Going through the pairs in their order, each is dropped if what was kept and what is still to come clash without it.
-- What is kept at the end is shown.
abbrev pub KeepsOfClash : PlantModel → List Pair → List Pair → List Pair → List Pair → Type 0
KeepsOfClash m seen kept [] shown = shown ≡ kept
KeepsOfClash m seen kept (p ∷ rest) shown =
    (Clash m seen (kept ++ rest) × KeepsOfClash m seen kept rest shown)
    ⊎ ((Clash m seen (kept ++ rest) → ⊥) × KeepsOfClash m seen (kept ++ p ∷ []) rest shown)

-- what is kept of the state's pairs, where no world of the state has the values that are seen
abbrev pub IsConflict : PlantModel → List ℕ → List Pair → List Pair → Type 0
IsConflict m s seen shown = (CanShow m s seen → ⊥) × KeepsOfClash m seen [] (pairs_of s) shown

-- what is kept of the first state in mode order that has no world
pub record IsShownClash (m : PlantModel) (shown : List Pair) : Type 0 where
  pub state : List ℕ
  pub is_state : IsState m state
  pub first : (t : List ℕ) → IsState m t → (CanShow m t [] → ⊥) → IsEarlier t state → ⊥
  pub conflict : IsConflict m state [] shown
