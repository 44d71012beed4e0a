-- The text of a formula: what may stand where, and how it is spelled.
use Rattle.std.specs.Prelude.{◌≡◌, ℕ, false, List, [], ◌∷◌, codes}
use Rattle.cca_base.specs.Names.{is_reserved}
use Rattle.text_base.specs.Lexemes.{Lexeme, word, symbol}

-- a word that may stand in place of a name, however long it is
pub record NameWord : Type 0 where
  pub text : List ℕ
  pub free : is_reserved text ≡ false

-- a formula's text, by how loosely its outermost word binds
mutual
  -- a text without `and`, `or`, `implies` and `iff` outside parentheses
  pub data Factor : Type 0 where
    True : Factor
    False : Factor
    Equal : (name value : NameWord) → Factor
    Differs : (name value : NameWord) → Factor
    In : (name first : NameWord) → (more : List NameWord) → Factor
    Not : (part : Factor) → Factor
    Parens : (part : Whole) → Factor

  -- factors with `and` between them
  pub data Conjunction : Type 0 where
    Single : (part : Factor) → Conjunction
    And : (front : Conjunction) → (last : Factor) → Conjunction

  -- conjunctions with `or` between them
  pub data Disjunction : Type 0 where
    Case : (part : Conjunction) → Disjunction
    Or : (front : Disjunction) → (last : Conjunction) → Disjunction

  -- one disjunction, or two with `implies` or `iff` between them
  pub data Whole : Type 0 where
    Plain : (part : Disjunction) → Whole
    Implies : (a b : Disjunction) → Whole
    Iff : (a b : Disjunction) → Whole

-- the word in place of a name
abbrev pub name_word : NameWord → Lexeme
name_word name = word name.text

-- values with a comma before each, a closing brace, and then the rest
abbrev pub values_spelled : List NameWord → List Lexeme → List Lexeme
values_spelled [] rest = symbol (codes "}") ∷ rest
values_spelled (value ∷ values) rest = symbol (codes ",") ∷ name_word value ∷ values_spelled values rest

-- how each text is spelled, with the rest of the line behind it
abbrev mutual
  pub factor_spelled : Factor → List Lexeme → List Lexeme
  factor_spelled True rest = word (codes "true") ∷ rest
  factor_spelled False rest = word (codes "false") ∷ rest
  factor_spelled (Equal name value) rest = name_word name ∷ symbol (codes "=") ∷ name_word value ∷ rest
  factor_spelled (Differs name value) rest = name_word name ∷ symbol (codes "!=") ∷ name_word value ∷ rest
  factor_spelled (In name first more) rest = name_word name ∷ word (codes "in") ∷ symbol (codes "{") ∷ name_word first ∷ values_spelled more rest
  factor_spelled (Not part) rest = word (codes "not") ∷ factor_spelled part rest
  factor_spelled (Parens part) rest = symbol (codes "(") ∷ whole_spelled part (symbol (codes ")") ∷ rest)

  pub conjunction_spelled : Conjunction → List Lexeme → List Lexeme
  conjunction_spelled (Single part) rest = factor_spelled part rest
  conjunction_spelled (And front last) rest = conjunction_spelled front (word (codes "and") ∷ factor_spelled last rest)

  pub disjunction_spelled : Disjunction → List Lexeme → List Lexeme
  disjunction_spelled (Case part) rest = conjunction_spelled part rest
  disjunction_spelled (Or front last) rest = disjunction_spelled front (word (codes "or") ∷ conjunction_spelled last rest)

  pub whole_spelled : Whole → List Lexeme → List Lexeme
  whole_spelled (Plain part) rest = disjunction_spelled part rest
  whole_spelled (Implies a b) rest = disjunction_spelled a (word (codes "implies") ∷ disjunction_spelled b rest)
  whole_spelled (Iff a b) rest = disjunction_spelled a (word (codes "iff") ∷ disjunction_spelled b rest)

-- all of these lexemes are the formula's text
abbrev pub spelling : Whole → List Lexeme
spelling text = whole_spelled text []
