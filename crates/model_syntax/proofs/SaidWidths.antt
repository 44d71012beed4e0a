-- How long what is said of a formula is, and what denies it.
use Rattle.std.proofs.Common.{◌≡◌, ℕ, ◌+◌, ◌<◌, ◌≤◌, Bool, true, false, List, [], ◌∷◌, ◌++◌, length, codes, refl, sym, subst, arith}
use Rattle.cca_base.specs.declared.formula.Formula.{Formula}
use Rattle.cca_base.specs.declared.formula.Formula.TheOpen.{Formula-F}
use Rattle.cca_base.specs.declared.formula.Formula.TheFolds.{fold-Formula, fold-roll-Formula, ind-Formula, map-Formula}
use Rattle.cca_base.specs.PlantModel.{PlantModel}
use Rattle.text_base.specs.Lexemes.{Lexeme, word, symbol}
use Rattle.formula_syntax.specs.Grammar.{NameWord, values_spelled}
use Rattle.text_base.specs.Lists.{names_spelled}
use Rattle.formula_syntax.specs.Lookups.{choices_of}
use Rattle.formula_syntax.specs.Meanings.{words}
use Rattle.model_syntax.specs.Printing.{Said, part_said, parts_said, plainly, names_in, name_of, among_said, said_step}
use Rattle.model_syntax.proofs.Widths.{blank, blank_few, blank_left, width, NoLonger, same_tokens}
use Rattle.model_syntax.proofs.SetWidths.{tally}

-- ---- what is denied

abbrev pub said : PlantModel → Formula → Said
said m f = fold-Formula Said (said_step m) f

-- what denies a formula is no longer than `not` before it
abbrev pub DeniesShortly : Said → Type 0
DeniesShortly s = NoLonger s.denied (word (codes "not") ∷ part_said 0 s)

plainly_denied : (precedence : ℕ) (tokens : List Lexeme) → DeniesShortly (plainly precedence tokens)
plainly_denied precedence tokens = same_tokens (plainly precedence tokens).denied (word (codes "not") ∷ part_said 0 (plainly precedence tokens)) refl

one_denied : (name value : List ℕ) → DeniesShortly (among_said name (value ∷ []))
one_denied name value l r = omega arith

among_denied : (name : List ℕ) (values : List (List ℕ)) → DeniesShortly (among_said name values)
among_denied name [] = plainly_denied 0 (among_said name []).tokens
among_denied name (value ∷ []) = one_denied name value
among_denied name (value ∷ next ∷ values) = plainly_denied 0 (among_said name (value ∷ next ∷ values)).tokens

step_denied : (m : PlantModel) (x : Formula-F Said) → DeniesShortly (said_step m x)
step_denied m Formula-F.True = plainly_denied 0 (word (codes "true") ∷ [])
step_denied m Formula-F.False = plainly_denied 0 (word (codes "false") ∷ [])
step_denied m (Formula-F.Among s set) = among_denied (name_of m s) (names_in 0 (choices_of m s) set)
step_denied m (Formula-F.Not part) = plainly_denied 0 part.denied
step_denied m (Formula-F.All parts) = plainly_denied 1 (parts_said 0 (word (codes "and")) parts)
step_denied m (Formula-F.Any parts) = plainly_denied 2 (parts_said 1 (word (codes "or")) parts)
step_denied m (Formula-F.Implies a b) = plainly_denied 3 (part_said 2 a ++ word (codes "implies") ∷ part_said 2 b)
step_denied m (Formula-F.Iff a b) = plainly_denied 3 (part_said 2 a ++ word (codes "iff") ∷ part_said 2 b)

pub formula_denied : (m : PlantModel) (f : Formula) → DeniesShortly (said m f)
formula_denied m = ind-Formula (λ f. DeniesShortly (said m f)) (λ x y is.
    subst DeniesShortly (sym (fold-roll-Formula Said (said_step m) x)) (step_denied m (map-Formula Formula Said (said m) x)))

-- ---- lists in braces

abbrev close : List Lexeme
close = symbol (codes "}") ∷ []

names_width : (name : List ℕ) (names : List (List ℕ)) (r : Bool) → width false (names_spelled name names ++ close) r ≡ tally (name ∷ names)
names_width name [] r = omega (arith, blank_left r)
names_width name (next ∷ names) r = omega (arith, names_width next names r)

pub values_width : (values : List NameWord) (r : Bool) → width true (values_spelled values []) r ≡ tally (words values) + 1
values_width [] r = omega (arith, blank_left r)
values_width (value ∷ values) r = omega (arith, values_width values r)

-- the printed form of a subject and some of its values, against a list in braces whose names are as long as these or longer
pub among_width : (name : List ℕ) (names : List (List ℕ)) (n : ℕ) (l r : Bool) → 0 < n → tally names ≤ n → width l (among_said name names).tokens r ≤ blank l true + length name + 4 + n
among_width name [] n l r some h = omega (arith, blank_left r)
among_width name (value ∷ []) n l r some h = omega (arith, blank_few true r)
among_width name (value ∷ next ∷ names) n l r some h = omega (arith, names_width value (next ∷ names) r)
