-- The document of a seed.
use Rattle.std.specs.Prelude.{◌≡◌, ℕ, List, [], ◌∷◌, ◌++◌, flat_map}
use Rattle.std.specs.List.{range_with_len}
use Rattle.trial_maker.specs.Chains.{links}
use Rattle.trial_maker.specs.Draws.{Drawing, undrawn, each, ◌>>=◌}
use Rattle.trial_maker.specs.PlantLines.{plant_lines}
use Rattle.trial_maker.specs.ScriptLines.{mirror_lines, tick_lines}
use Rattle.trial_maker.specs.Sizes.{tick_count}
use Rattle.trial_maker.specs.TransitionLines.{move_lines, failure_lines}

-- a line with its LF
abbrev pub ended : List ℕ → List ℕ
ended line = line ++ 10 ∷ []

-- some lines, each with its LF
abbrev pub text_of : List (List ℕ) → List ℕ
text_of lines = flat_map ended lines

-- behind the old text come the lines that are drawn from the number on, and the number behind their draws is next
abbrev pub AreDrawn : (old new : List ℕ) (number next : ℕ) → Drawing (List (List ℕ)) → Type 0
AreDrawn old new number next lines = (new ≡ old ++ text_of (lines number).0) × (next ≡ (lines number).1)

-- the ticks, counted from 1
unfoldable pub ticks : List ℕ
ticks = range_with_len 1 tick_count

-- the lines before the ticks: the model and the mirrors
unfoldable pub setup_lines : Drawing (List (List ℕ))
setup_lines = do
  moves ← each move_lines links
  failures ← each failure_lines links
  undrawn (plant_lines links ++ moves ++ failures ++ mirror_lines links)

-- all lines of a document
unfoldable pub all_lines : Drawing (List (List ℕ))
all_lines = do
  setup ← setup_lines
  script ← each tick_lines ticks
  undrawn (setup ++ script)

-- the lines of the document of a seed
abbrev pub document_lines : ℕ → List (List ℕ)
document_lines seed = (all_lines seed).0

-- the document of a seed
abbrev pub document : ℕ → List ℕ
document seed = text_of (document_lines seed)
