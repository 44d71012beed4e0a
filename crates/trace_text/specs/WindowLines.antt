-- The line of a tick whose window has a best trajectory.
use Rattle.std.specs.Prelude.{ℕ, List, [], ◌∷◌, ◌++◌, codes, Option, Some, None}
use Rattle.std.specs.Fmt.{decimal}
use Rattle.cca_base.specs.PlantModel.{PlantModel}
use Rattle.trace_text.specs.LineWords.{mode_words}
use Rattle.trace_text.specs.Words.{spaced_line}

-- the first tick that has changed, where there is one
abbrev pub revised_words : Option ℕ → List (List ℕ)
revised_words None = []
revised_words (Some tick) = codes "revised" ∷ decimal tick ∷ []

-- how many ticks the window has, what its trajectory costs, each component with its last mode, and the first tick that has changed
abbrev pub window_words : PlantModel → (count cost : ℕ) → (modes : List ℕ) → (revised : Option ℕ) → List (List ℕ)
window_words m count cost modes revised =
    codes "window" ∷ decimal count ∷ codes "cost" ∷ decimal cost ∷ codes "modes" ∷ mode_words m.components modes ++ revised_words revised

-- the line of a tick with these words
unfoldable pub window_line : PlantModel → (tick count cost : ℕ) → (modes : List ℕ) → (revised : Option ℕ) → List ℕ
window_line m tick count cost modes revised = spaced_line (codes "tick") (decimal tick ∷ window_words m count cost modes revised)
