-- What the lines behind a model say, without a reader: a program as it is written, and behind it events that set no goal.
use Rattle.std.specs.Prelude.{◌≡◌, ◌↔◌, ◌+◌, ℕ, List, [], ◌∷◌, ◌++◌, length, Some, None, IsTrue}
use Rattle.std.specs.List.{AllByRecursion}
use Rattle.cca_base.specs.PlantModel.{PlantModel}
use Rattle.control_syntax.specs.Written.{AreLines, IsProgram}
use Rattle.control_syntax.specs.declared.line.Line.{Line}
use Rattle.control_syntax.specs.declared.part.Part.{Part}
use Rattle.model_form.specs.Limits.{line_code}
use Rattle.program_form.specs.PutInLaws.{sets_no_goal}
use Rattle.program_form.specs.Sequences.{Sequence, SaysEvents, SaysSequence}

-- none of the lines, of which the first stands behind so many, is refused for its number or its length
abbrev pub AreShort : ℕ → List (List ℕ) → Type 0
AreShort n [] = Unit {0}
AreShort n (l ∷ ls) = (line_code (n + 1) l ≡ None) × AreShort (n + 1) ls

-- the first lines are the program, as it is written, and the later ones say the events and how the lines end
pub record IsWrittenFirst (m : PlantModel) (n : ℕ) (ls : List (List ℕ)) (part : Part) (r : Sequence) : Type 0 where
  pub first : List (List ℕ)
  pub later : List (List ℕ)
  pub lines : List Line
  pub splits : ls ≡ first ++ later
  pub short : AreShort n first
  pub are : AreLines m first lines
  pub is : IsProgram lines part
  pub says : SaysEvents m part [] 0 (n + length first) later r

-- lines say a program exactly where the first of them are that program, as it is written
abbrev pub ProgramsAreWritten : Type 0
ProgramsAreWritten = (m : PlantModel) (n : ℕ) (ls : List (List ℕ)) (part : Part) (r : Sequence)
    → (SaysSequence m n ls r × (r.program ≡ Some part)) ↔ IsWrittenFirst m n ls part r

-- no line sets or clears a goal
abbrev pub LinesSetNoGoal : Type 0
LinesSetNoGoal = (m : PlantModel) (n : ℕ) (ls : List (List ℕ)) (r : Sequence) → SaysSequence m n ls r → AllByRecursion (λ e. IsTrue (sets_no_goal e)) r.events
