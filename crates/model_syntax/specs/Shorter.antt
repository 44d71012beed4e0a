-- Printed lines are no longer than those that were read.
use Rattle.std.specs.Prelude.{◌≡◌, ◌≤◌, ◌⊎◌, ℕ, true, false, List, ◌∷◌, ◌++◌, length}
use Rattle.cca_base.specs.PlantModel.{PlantModel}
use Rattle.cca_base.specs.Model.{WellFormed}
use Rattle.text_base.specs.Lexemes.{Lexeme}
use Rattle.model_syntax.specs.Lines.{ModelSoFar, Reads, LineLeads}
use Rattle.model_syntax.specs.Printing.{joined, header_said, lines_said}

-- the lines of the second model are those of the first and one more, which is not longer than this text
pub record AddsLine (old new : PlantModel) (text : List ℕ) : Type 0 where
  pub front : List (List Lexeme)
  pub back : List (List Lexeme)
  pub line : List Lexeme
  pub before : lines_said old ≡ front ++ back
  pub after : lines_said new ≡ front ++ line ∷ back
  pub no_longer : length (joined line) ≤ length text

-- the lines of the second model are those of the first, or have one more, which is not longer than this text
abbrev pub AddsNoLonger : PlantModel → PlantModel → List ℕ → Type 0
AddsNoLonger old new text = (lines_said new ≡ lines_said old) ⊎ AddsLine old new text

-- but for the line of the version, a line that is read adds no line to the printed model, or one that is not longer than itself
abbrev pub LinesAreNoLonger : Type 0
LinesAreNoLonger = (s t : ModelSoFar) (text : List ℕ) → WellFormed s.model → s.begun ≡ t.begun → LineLeads s text (Reads t) → AddsNoLonger s.model t.model text

-- the header's printed line is not longer than a line that begins a reading
abbrev pub HeaderIsNoLonger : Type 0
HeaderIsNoLonger = (s t : ModelSoFar) (text : List ℕ) → s.begun ≡ false → t.begun ≡ true → LineLeads s text (Reads t) → length (joined (header_said t.model.version)) ≤ length text
