-- How the lines behind an accepted model end, and what is printed for that.
use Rattle.std.specs.Prelude.{◌≡◌, ◌⊎◌, ℕ, ◌+◌, false, List, [], ◌∷◌, Option, Some, None, Result, Ok, Err}
use Rattle.cca_base.specs.Accepted.{CompiledModel}
use Rattle.cca_base.specs.PlantModel.{PlantModel}
use Rattle.cca_base.specs.Refusals.{bare}
use Rattle.line_machine.specs.declared.machine.End.TheVariants.{Ended}
use Rattle.model_form.specs.Acceptance.{AcceptedAs, IsAcceptanceOf}
use Rattle.model_form.specs.Answers.{Answer, answer, refused_answer}
use Rattle.model_form.specs.Limits.{line_code}
use Rattle.model_form.specs.ModelEnds.{HasEnd, IsRefused}
use Rattle.model_form.specs.ModelTexts.{ModelText, WholeModel, RefusedModel}

-- all lines are read, or one of them is refused
pub data LinesEnd : Type 0 where
  AllRead : LinesEnd
  RefusedAt : (line code : ℕ) → LinesEnd

-- what is printed for the end of the lines, and how the program ends
abbrev pub ending : PlantModel → LinesEnd → Answer
ending m AllRead = answer Ended []
ending m (RefusedAt line code) = refused_answer false m line (bare code)

-- ---- what lines ask for

-- what some lines ask for, one thing after the other, and how these end
pub record Asked (X : Type 0) : Type 0 where
  pub items : List X
  pub ending : LinesEnd

-- a line is refused, and none behind it is read
abbrev pub refused_at : {X : Type 0} → ℕ → ℕ → Asked X
refused_at line code = record { items = []; ending = RefusedAt line code }

-- one thing before those of the later lines
abbrev pub with_item : {X : Type 0} → X → Asked X → Asked X
with_item x r = record { items = x ∷ r.items; ending = r.ending }

-- lines, where this is what a line says by what was set before it, and this is how one that says something and the later ones are read
module _ {S R X : Type 0} (IsSaid : S → List ℕ → Result (Option R) ℕ → Type 0) (Follows : R → S → ℕ → (S → Asked X → Type 0) → Asked X → Type 0) where
  -- what a line says: its number and its length come before all that it says
  abbrev pub SaysByCode : Option ℕ → S → List ℕ → Result (Option R) ℕ → Type 0
  SaysByCode (Some code) x line said = said ≡ Err code
  SaysByCode None x line said = IsSaid x line said

  -- a line and the later ones, by what it says: a refusal ends them
  abbrev pub ReadsBy : Result (Option R) ℕ → S → ℕ → (S → Asked X → Type 0) → Asked X → Type 0
  ReadsBy (Err code) x n Later r = r ≡ refused_at n code
  ReadsBy (Ok None) x n Later r = Later x r
  ReadsBy (Ok (Some request)) x n Later r = Follows request x n Later r

  -- what the lines behind n lines ask for
  abbrev pub ReadsLines : S → ℕ → List (List ℕ) → Asked X → Type 0
  ReadsLines x n [] r = r ≡ record { items = []; ending = AllRead }
  ReadsLines x n (l ∷ ls) r =
      (said : Result (Option R) ℕ) × SaysByCode (line_code (n + 1) l) x l said
      × ReadsBy said x (n + 1) (λ y rest. ReadsLines y (n + 1) ls rest) r

-- ---- how a whole input ends

-- of the compiled model, the number of the line `script`, and the lines behind it: how these end
abbrev pub Ending : Type 1
Ending = CompiledModel → ℕ → List (List ℕ) → LinesEnd → Type 0

module _ (EndsSo : Ending) where
  -- the model is accepted, and the lines behind it end so
  abbrev pub EndsLines : LinesEnd → ModelText → Type 0
  EndsLines lines (WholeModel m n ls) = (b : CompiledModel) × IsAcceptanceOf m (AcceptedAs b) × EndsSo b n ls lines
  EndsLines lines (RefusedModel m line r) = ⊥

  -- the model is refused, or a line behind it
  abbrev pub RefusesSomewhere : ModelText → Type 0
  RefusesSomewhere end = IsRefused end ⊎ ((line code : ℕ) × EndsLines (RefusedAt line code) end)

  -- the model of the input is accepted, and all lines behind it are read
  abbrev pub IsReadWhole : List ℕ → Type 0
  IsReadWhole = HasEnd (EndsLines AllRead)

  -- the model of the input is refused, or a line behind it, or the line that is missing where the input ends too early
  abbrev pub HasRefusedLine : List ℕ → Type 0
  HasRefusedLine = HasEnd RefusesSomewhere
