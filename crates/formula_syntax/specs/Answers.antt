-- What reading a formula's tokens answers.
use Rattle.std.specs.Prelude.{◌≡◌, ◌≢◌, ◌⊎◌, ℕ, if◌then◌else◌, List, Result, Ok, Err}
use Rattle.cca_base.specs.declared.codes.TheConstants.{MALFORMED, NAME_UNKNOWN, LIMIT}
use Rattle.cca_base.specs.declared.formula.Formula.{Formula}
use Rattle.cca_base.specs.PlantModel.{PlantModel}
use Rattle.text_base.specs.Lexemes.{Lexeme}
use Rattle.formula_syntax.specs.Grammar.{Whole, spelling}
use Rattle.formula_syntax.specs.Meanings.{names_unknown, is_deep, whole_formula}

-- the formula that a text means, or the least code that applies to it; a list that has a name twice is the set of its names
abbrev pub formula_or_code : PlantModel → Whole → Result Formula ℕ
formula_or_code m text = if names_unknown m text then Err NAME_UNKNOWN else (if is_deep text then Err LIMIT else Ok (whole_formula m text))

-- these lexemes are a formula's text, and this is its formula or its code; or they are none, and malformed
pub record IsFormulaOf (m : PlantModel) (ls : List Lexeme) (read : Result Formula ℕ) : Type 0 where
  pub of_text : (text : Whole) → ls ≡ spelling text → read ≡ formula_or_code m text
  pub or_none : ((text : Whole) × (ls ≡ spelling text)) ⊎ (((text : Whole) → ls ≢ spelling text) × (read ≡ Err MALFORMED))

-- tokens have one formula, or one code
abbrev pub AnswerOneWay : Type 0
AnswerOneWay = (m : PlantModel) (ls : List Lexeme) (a b : Result Formula ℕ) → IsFormulaOf m ls a → IsFormulaOf m ls b → a ≡ b
