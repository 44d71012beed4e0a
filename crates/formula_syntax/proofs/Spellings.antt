-- The spelling of a text, and what stands behind it.
use Rattle.std.proofs.Common.{◌≡◌, List, [], ◌∷◌, ◌++◌, codes, refl, sym, ap, ◌∙◌}
use Rattle.text_base.specs.Lexemes.{Lexeme, word, symbol}
use Rattle.formula_syntax.specs.Grammar.{NameWord, name_word, Factor, Conjunction, Disjunction, Whole, True, False, Equal, Differs, In, Not, Parens, Single, And, Case, Or, Plain, Implies, Iff, values_spelled, factor_spelled, conjunction_spelled, disjunction_spelled, whole_spelled}

values_apart : (vs : List NameWord) (rest : List Lexeme) → values_spelled vs rest ≡ values_spelled vs [] ++ rest
values_apart [] rest = refl
values_apart (v ∷ vs) rest = ap (λ (x : List Lexeme). symbol (codes ",") ∷ name_word v ∷ x) (values_apart vs rest)

pub append_twice : (a b c : List Lexeme) (l : Lexeme) → (a ++ l ∷ b) ++ c ≡ a ++ l ∷ (b ++ c)
append_twice [] b c l = refl
append_twice (x ∷ a) b c l = ap (λ (y : List Lexeme). x ∷ y) (append_twice a b c l)

abbrev pub With : (List Lexeme → List Lexeme) → Type 0
With f = (rest : List Lexeme) → f rest ≡ f [] ++ rest

linked_apart : (f g : List Lexeme → List Lexeme) (l : Lexeme) → With f → With g → With (λ rest. f (l ∷ g rest))
linked_apart f g l p q rest =
    p (l ∷ g rest) ∙ ap (λ (x : List Lexeme). f [] ++ l ∷ x) (q rest) ∙ sym (append_twice (f []) (g []) rest l) ∙ ap (λ (x : List Lexeme). x ++ rest) (sym (p (l ∷ g [])))

-- a text is spelled alike before whatever stands behind it
mutual
  factor_apart : (t : Factor) → With (factor_spelled t)
  factor_apart True rest = refl
  factor_apart False rest = refl
  factor_apart (Equal name value) rest = refl
  factor_apart (Differs name value) rest = refl
  factor_apart (In name first more) rest = ap (λ (x : List Lexeme). name_word name ∷ word (codes "in") ∷ symbol (codes "{") ∷ name_word first ∷ x) (values_apart more rest)
  factor_apart (Not part) rest = ap (λ (x : List Lexeme). word (codes "not") ∷ x) (factor_apart part rest)
  factor_apart (Parens part) rest =
      let close : Lexeme = symbol (codes ")") in
      ap (λ (x : List Lexeme). symbol (codes "(") ∷ x)
      (whole_apart part (close ∷ rest) ∙ sym (append_twice (whole_spelled part []) [] rest close) ∙ ap (λ (x : List Lexeme). x ++ rest) (sym (whole_apart part (close ∷ []))))

  pub conjunction_apart : (c : Conjunction) → With (conjunction_spelled c)
  conjunction_apart (Single part) rest = factor_apart part rest
  conjunction_apart (And front last) rest = linked_apart (conjunction_spelled front) (factor_spelled last) (word (codes "and")) (conjunction_apart front) (factor_apart last) rest

  pub disjunction_apart : (d : Disjunction) → With (disjunction_spelled d)
  disjunction_apart (Case part) rest = conjunction_apart part rest
  disjunction_apart (Or front last) rest = linked_apart (disjunction_spelled front) (conjunction_spelled last) (word (codes "or")) (disjunction_apart front) (conjunction_apart last) rest

  pub whole_apart : (w : Whole) → With (whole_spelled w)
  whole_apart (Plain part) rest = disjunction_apart part rest
  whole_apart (Implies a b) rest = linked_apart (disjunction_spelled a) (disjunction_spelled b) (word (codes "implies")) (disjunction_apart a) (disjunction_apart b) rest
  whole_apart (Iff a b) rest = linked_apart (disjunction_spelled a) (disjunction_spelled b) (word (codes "iff")) (disjunction_apart a) (disjunction_apart b) rest
