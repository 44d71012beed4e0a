-- What a formula's text means in a model, and what is wrong with it.
use Rattle.std.specs.Prelude.{◌≡◌, ℕ, ◌+◌, Bool, true, false, ◌||◌, ◌&&◌, if◌then◌else◌, nat_lt, max, map, is_some, not, List, [], ◌∷◌, ◌++◌, Option, Some, None}
use Rattle.std.specs.List.{list_any}
use Rattle.std.specs.Str.{bytes_eq}
use Rattle.cca_base.specs.declared.formula.Formula.{Formula, roll-Formula}
use Rattle.cca_base.specs.declared.formula.Formula.TheOpen.{Formula-F}
use Rattle.cca_base.specs.declared.formula.Subject.{Subject}
use Rattle.cca_base.specs.declared.limits.TheConstants.{MAX_DEPTH}
use Rattle.cca_base.specs.PlantModel.{PlantModel}
use Rattle.cca_base.specs.Sets.{with_number}
use Rattle.text_base.specs.Lexemes.{Lexeme}
use Rattle.formula_syntax.specs.declared.read_part.ReadPart.{ReadPart}
use Rattle.formula_syntax.specs.declared.read_part.ReadPart.TheVariants.{Sound, Faulty}
use Rattle.cca_base.specs.declared.codes.TheConstants.{NAME_UNKNOWN, NAME_REPEATED, LIMIT}
use Rattle.formula_syntax.specs.Grammar.{NameWord, Factor, Conjunction, Disjunction, Whole, True, False, Equal, Differs, In, Not, Parens, Single, And, Case, Or, Plain, Implies, Iff, spelling}
use Rattle.formula_syntax.specs.Lookups.{subject_of, value_of}

-- ---- the depth of a text

-- an atom with `!=` counts 2 and what has no parts counts 1; `not`, parentheses and the words between parts count one more than the deepest part
abbrev mutual
  pub factor_depth : Factor → ℕ
  factor_depth True = 1
  factor_depth False = 1
  factor_depth (Equal name value) = 1
  factor_depth (Differs name value) = 2
  factor_depth (In name first more) = 1
  factor_depth (Not part) = factor_depth part + 1
  factor_depth (Parens part) = whole_depth part + 1

  pub deepest_factor : Conjunction → ℕ
  deepest_factor (Single part) = factor_depth part
  deepest_factor (And front last) = max (deepest_factor front) (factor_depth last)

  pub conjunction_depth : Conjunction → ℕ
  conjunction_depth (Single part) = factor_depth part
  conjunction_depth (And front last) = max (deepest_factor front) (factor_depth last) + 1

  pub deepest_case : Disjunction → ℕ
  deepest_case (Case part) = conjunction_depth part
  deepest_case (Or front last) = max (deepest_case front) (conjunction_depth last)

  pub disjunction_depth : Disjunction → ℕ
  disjunction_depth (Case part) = conjunction_depth part
  disjunction_depth (Or front last) = max (deepest_case front) (conjunction_depth last) + 1

  pub whole_depth : Whole → ℕ
  whole_depth (Plain part) = disjunction_depth part
  whole_depth (Implies a b) = max (disjunction_depth a) (disjunction_depth b) + 1
  whole_depth (Iff a b) = max (disjunction_depth a) (disjunction_depth b) + 1

-- ---- names

-- a name, and the values with which it is compared
pub record Comparison : Type 0 where
  pub name : List ℕ
  pub values : List (List ℕ)

-- the words of some names
abbrev pub words : List NameWord → List (List ℕ)
words names = map (λ name. name.text) names

-- all comparisons of a text
abbrev mutual
  pub factor_comparisons : Factor → List Comparison
  factor_comparisons True = []
  factor_comparisons False = []
  factor_comparisons (Equal name value) = record { name = name.text; values = value.text ∷ [] } ∷ []
  factor_comparisons (Differs name value) = record { name = name.text; values = value.text ∷ [] } ∷ []
  factor_comparisons (In name first more) = record { name = name.text; values = words (first ∷ more) } ∷ []
  factor_comparisons (Not part) = factor_comparisons part
  factor_comparisons (Parens part) = whole_comparisons part

  pub conjunction_comparisons : Conjunction → List Comparison
  conjunction_comparisons (Single part) = factor_comparisons part
  conjunction_comparisons (And front last) = conjunction_comparisons front ++ factor_comparisons last

  pub disjunction_comparisons : Disjunction → List Comparison
  disjunction_comparisons (Case part) = conjunction_comparisons part
  disjunction_comparisons (Or front last) = disjunction_comparisons front ++ conjunction_comparisons last

  pub whole_comparisons : Whole → List Comparison
  whole_comparisons (Plain part) = disjunction_comparisons part
  whole_comparisons (Implies a b) = disjunction_comparisons a ++ disjunction_comparisons b
  whole_comparisons (Iff a b) = disjunction_comparisons a ++ disjunction_comparisons b

-- the subject is not there, or lacks one of the values
abbrev pub lacks_value : PlantModel → Option Subject → List (List ℕ) → Bool
lacks_value m None values = true
lacks_value m (Some subject) values = list_any (λ value. not (is_some (value_of m subject value))) values

-- the name or one of the values is not declared
abbrev pub is_unknown : PlantModel → Comparison → Bool
is_unknown m c = lacks_value m (subject_of m c.name) c.values

-- a word stands twice
abbrev pub has_twice : List (List ℕ) → Bool
has_twice [] = false
has_twice (x ∷ xs) = list_any (bytes_eq x) xs || has_twice xs

-- ---- the formula

-- the set with the number, if there is one
abbrev pub with_found : ℕ → Option ℕ → ℕ
with_found set None = set
with_found set (Some k) = with_number set k

-- the set with the numbers of the subject's values
abbrev pub with_numbers : PlantModel → Subject → ℕ → List (List ℕ) → ℕ
with_numbers m subject set [] = set
with_numbers m subject set (value ∷ values) = with_numbers m subject (with_found set (value_of m subject value)) values

-- the subject has one of the values
abbrev pub has_among : PlantModel → Option Subject → List (List ℕ) → Formula
has_among m None values = roll-Formula Formula-F.False
has_among m (Some subject) values = roll-Formula (Formula-F.Among subject (with_numbers m subject 0 values))

-- what the name stands for has one of the values
abbrev pub is_among : PlantModel → List ℕ → List (List ℕ) → Formula
is_among m name values = has_among m (subject_of m name) values

-- the formula that a text spells: two or more parts with one word between them are one `All` or one `Any`, and parentheses are no part
abbrev mutual
  pub factor_formula : PlantModel → Factor → Formula
  factor_formula m True = roll-Formula Formula-F.True
  factor_formula m False = roll-Formula Formula-F.False
  factor_formula m (Equal name value) = is_among m name.text (value.text ∷ [])
  factor_formula m (Differs name value) = roll-Formula (Formula-F.Not (is_among m name.text (value.text ∷ [])))
  factor_formula m (In name first more) = is_among m name.text (words (first ∷ more))
  factor_formula m (Not part) = roll-Formula (Formula-F.Not (factor_formula m part))
  factor_formula m (Parens part) = whole_formula m part

  pub conjuncts : PlantModel → Conjunction → List Formula
  conjuncts m (Single part) = factor_formula m part ∷ []
  conjuncts m (And front last) = conjuncts m front ++ factor_formula m last ∷ []

  pub conjunction_formula : PlantModel → Conjunction → Formula
  conjunction_formula m (Single part) = factor_formula m part
  conjunction_formula m (And front last) = roll-Formula (Formula-F.All (conjuncts m front ++ factor_formula m last ∷ []))

  pub disjuncts : PlantModel → Disjunction → List Formula
  disjuncts m (Case part) = conjunction_formula m part ∷ []
  disjuncts m (Or front last) = disjuncts m front ++ conjunction_formula m last ∷ []

  pub disjunction_formula : PlantModel → Disjunction → Formula
  disjunction_formula m (Case part) = conjunction_formula m part
  disjunction_formula m (Or front last) = roll-Formula (Formula-F.Any (disjuncts m front ++ conjunction_formula m last ∷ []))

  pub whole_formula : PlantModel → Whole → Formula
  whole_formula m (Plain part) = disjunction_formula m part
  whole_formula m (Implies a b) = roll-Formula (Formula-F.Implies (disjunction_formula m a) (disjunction_formula m b))
  whole_formula m (Iff a b) = roll-Formula (Formula-F.Iff (disjunction_formula m a) (disjunction_formula m b))

-- ---- what is read

-- some name of the text is not declared
abbrev pub names_unknown : PlantModel → Whole → Bool
names_unknown m text = list_any (is_unknown m) (whole_comparisons text)

-- some list of the text has a name twice
abbrev pub lists_twice : Whole → Bool
lists_twice text = list_any (λ c. has_twice c.values) (whole_comparisons text)

-- the text is too deep
abbrev pub is_deep : Whole → Bool
is_deep text = nat_lt MAX_DEPTH (whole_depth text)

-- the least code of what is wrong, or the formula
abbrev pub verdict : Bool → Bool → Bool → ReadPart → ReadPart
verdict unknown repeated deep sound = if unknown then Faulty NAME_UNKNOWN else (if repeated then Faulty NAME_REPEATED else (if deep then Faulty LIMIT else sound))

-- what is read of a formula's text: strictly, a list that has a name twice is wrong; else it is the set of its names
unfoldable pub reading_of : Bool → PlantModel → Whole → ReadPart
reading_of strict m text = verdict (names_unknown m text) (strict && lists_twice text) (is_deep text) (Sound (whole_formula m text) (whole_depth text))

-- where the lexemes are a formula's text, this is read of it; else nothing is
pub record IsReadingOf (strict : Bool) (m : PlantModel) (ls : List Lexeme) (read : Option ReadPart) : Type 0 where
  pub read_of : (text : Whole) → ls ≡ spelling text → read ≡ Some (reading_of strict m text)
  pub spelled : (r : ReadPart) → read ≡ Some r → (text : Whole) × (ls ≡ spelling text)
