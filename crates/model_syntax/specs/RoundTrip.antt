-- What is printed of a model is read as that model.
use Rattle.std.specs.Prelude.{◌≡◌, ◌≢◌, ℕ, false, true, IsTrue, List, [], ◌∷◌, map, All, Result, Ok, Err}
use Rattle.std.specs.List.{list_all}
use Rattle.cca_base.specs.PlantModel.{PlantModel}
use Rattle.cca_base.specs.Model.{WellFormed, IsComplete, empty_model}
use Rattle.text_base.specs.Tokens.{Tok, tokens_of, is_of_kind}
use Rattle.text_base.specs.Lexemes.{Lexeme, lexeme}
use Rattle.model_syntax.specs.Lines.{ModelSoFar, Reads, LineLeads}
use Rattle.model_syntax.specs.Printing.{joined, lines_said}

-- each lexeme's bytes are a word, digits or a symbol, as its kind says
abbrev pub AreOfTheirKinds : List Lexeme → Type 0
AreOfTheirKinds ls = IsTrue (list_all (λ l. is_of_kind l.0 l.1) ls)

-- what was read is these lexemes
abbrev pub AreTokens : List Lexeme → Result (List Tok) ℕ → Type 0
AreTokens ls (Ok ts) = map lexeme ts ≡ ls
AreTokens ls (Err at) = ⊥

-- lexemes that are joined are read as they were
abbrev pub JoinedAreTokens : Type 0
JoinedAreTokens = (ls : List Lexeme) → AreOfTheirKinds ls → AreTokens ls (tokens_of (joined ls))

-- these lines lead from one reading to the other
abbrev pub ReadsTo : ModelSoFar → List (List ℕ) → ModelSoFar → Type 0
ReadsTo s [] t = s ≡ t
ReadsTo s (line ∷ lines) t = (u : ModelSoFar) × LineLeads s line (Reads u) × ReadsTo u lines t

-- the printed lines of a model, read one after the other, give the model
abbrev pub PrintedReadsBack : Type 0
PrintedReadsBack = (m : PlantModel) → WellFormed m → IsComplete m
    → ReadsTo (record { model = empty_model 1; begun = false }) (map joined (lines_said m)) (record { model = m; begun = true })

-- no line of a printed model has a line's end in it
abbrev pub PrintedLinesAreWhole : Type 0
PrintedLinesAreWhole = (m : PlantModel) → WellFormed m → All (λ line. All (λ b. b ≢ 10) line) (map joined (lines_said m))
