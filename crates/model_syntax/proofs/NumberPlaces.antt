-- In the tokens of formulas and lists no number stands before the end.
use Rattle.std.proofs.Common.{◌≡◌, ℕ, Bool, true, false, List, [], ◌∷◌, ◌++◌, codes, refl, ◌∙◌}
use Rattle.text_base.specs.Lexemes.{Lexeme, word, symbol}
use Rattle.formula_syntax.specs.Grammar.{NameWord, Factor, Conjunction, Disjunction, Whole, True, False, Equal, Differs, In, Not, Parens, Single, And, Case, Or, Plain, Implies, Iff, values_spelled, factor_spelled, conjunction_spelled, disjunction_spelled, whole_spelled}
use Rattle.model_syntax.specs.Items.{sensed_spelled}
use Rattle.text_base.specs.Lists.{names_spelled, name_list_spelled}
use Rattle.model_syntax.proofs.LineWidths.{numbers_end}

-- what stands in front has no number: where none stands before the end is decided by what stands behind
abbrev HasNoNumber : (List Lexeme → List Lexeme) → Type 0
HasNoNumber f = (rest : List Lexeme) → numbers_end (f rest) ≡ numbers_end rest

values_pass : (vs : List NameWord) → HasNoNumber (values_spelled vs)
values_pass [] rest = refl
values_pass (v ∷ vs) rest = values_pass vs rest

-- the text of a formula has no number
mutual
  factor_passes : (t : Factor) → HasNoNumber (factor_spelled t)
  factor_passes True rest = refl
  factor_passes False rest = refl
  factor_passes (Equal name value) rest = refl
  factor_passes (Differs name value) rest = refl
  factor_passes (In name first more) rest = values_pass more rest
  factor_passes (Not part) rest = factor_passes part rest
  factor_passes (Parens part) rest = whole_passes part (symbol (codes ")") ∷ rest)

  conjunction_passes : (c : Conjunction) → HasNoNumber (conjunction_spelled c)
  conjunction_passes (Single part) rest = factor_passes part rest
  conjunction_passes (And front last) rest = conjunction_passes front (word (codes "and") ∷ factor_spelled last rest) ∙ factor_passes last rest

  disjunction_passes : (d : Disjunction) → HasNoNumber (disjunction_spelled d)
  disjunction_passes (Case part) rest = conjunction_passes part rest
  disjunction_passes (Or front last) rest = disjunction_passes front (word (codes "or") ∷ conjunction_spelled last rest) ∙ conjunction_passes last rest

  pub whole_passes : (w : Whole) → HasNoNumber (whole_spelled w)
  whole_passes (Plain part) rest = disjunction_passes part rest
  whole_passes (Implies a b) rest = disjunction_passes a (word (codes "implies") ∷ disjunction_spelled b rest) ∙ disjunction_passes b rest
  whole_passes (Iff a b) rest = disjunction_passes a (word (codes "iff") ∷ disjunction_spelled b rest) ∙ disjunction_passes b rest

names_pass : (name : List ℕ) (names : List (List ℕ)) (rest : List Lexeme) → numbers_end (names_spelled name names ++ rest) ≡ numbers_end rest
names_pass name [] rest = refl
names_pass name (next ∷ names) rest = names_pass next names rest

-- nor has a list of names
pub list_passes : (names : List (List ℕ)) (rest : List Lexeme) → numbers_end (name_list_spelled names ++ rest) ≡ numbers_end rest
list_passes [] rest = refl
list_passes (name ∷ names) rest = names_pass name names rest

pub sensed_passes : (sensed : Bool) → numbers_end (sensed_spelled sensed) ≡ true
sensed_passes true = refl
sensed_passes false = refl
