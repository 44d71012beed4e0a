-- Tokens that change nothing but what has to come next.
use Rattle.std.proofs.Common.{◌≡◌, Bool, true, false, codes, List, ℕ, Some, refl, ap, ◌∙◌}
use Rattle.std.specs.Option.{option_map}
use Rattle.std.proofs.lemmas.Bool.{not-true}
use Rattle.list_laws.proofs.Tests.{cond_either}
use Rattle.cca_base.specs.PlantModel.{PlantModel}
use Rattle.cca_base.specs.Names.{is_reserved}
use Rattle.text_base.specs.declared.token.Kind.{Kind}
use Rattle.text_base.specs.declared.token.Kind.TheVariants.{Word, Number, Symbol}
use Rattle.text_base.specs.Lexemes.{Lexeme, word, symbol, comma, is_lexeme, is_name_word}
use Rattle.formula_syntax.specs.declared.formula_parser.Expected.{Expected}
use Rattle.formula_syntax.specs.declared.formula_parser.Expected.TheVariants.{Operand, Operator, Named, Compared, Opened, Listed, Followed}
use Rattle.formula_syntax.specs.ReadParts.{named}
use Rattle.formula_syntax.specs.FormulaParser.{State, at, operand_step, place_behind, step, step_at}
use Rattle.formula_syntax.proofs.Complete.{begins_none}

module _ (strict : Bool) (m : PlantModel) (s : State) where
  name_moves : (k : Kind) (text : List ℕ) → is_name_word (k, text) ≡ true → operand_step m s (k, text) ≡ Some (at s (Named (named m text)))
  name_moves Word text h =
      let free : is_reserved text ≡ false = not-true (is_reserved text) h in
      let b = begins_none text free in
      rw (free, b.not_word, b.true_word, b.false_word) refl
  name_moves Number text h = absurd (cc)
  name_moves Symbol text h = absurd (cc)

  abbrev Moves : Expected → Lexeme → Expected → Type 0
  Moves place l p = step_at strict m s place l ≡ Some (at s p)

  moves : (place : Expected) (l : Lexeme) (p : Expected) → place_behind strict m place l ≡ Some p → Moves place l p
  moves Operand l p e =
      cond_either (is_name_word l) _ _ (Some p) e (λ h same. name_moves l.0 l.1 h ∙ ap (option_map (at s)) same) (λ _ none. absurd (cc))
  moves Operator l p e =
      cond_either (is_lexeme (word (codes "and")) l) _ _ (Some p) e (λ h same. rw h (ap (option_map (at s)) same)) (λ _ none. absurd (cc))
  moves (Named atom) l p e =
      cond_either (is_lexeme (symbol (codes "=")) l) _ _ (Some p) e (λ h same. rw h (ap (option_map (at s)) same))
      (λ a e. cond_either (is_lexeme (symbol (codes "!=")) l) _ _ (Some p) e (λ h same. rw (a, h) (ap (option_map (at s)) same))
      (λ b e. cond_either (is_lexeme (word (codes "in")) l) _ _ (Some p) e (λ h same. rw (a, b, h) (ap (option_map (at s)) same)) (λ _ none. absurd (cc))))
  moves (Compared atom differs) l p e = absurd (cc)
  moves (Opened atom) l p e =
      cond_either (is_lexeme (symbol (codes "{")) l) _ _ (Some p) e (λ h same. rw h (ap (option_map (at s)) same)) (λ _ none. absurd (cc))
  moves (Listed atom) l p e =
      cond_either (is_name_word l) _ _ (Some p) e (λ h same. rw h (ap (option_map (at s)) same)) (λ _ none. absurd (cc))
  moves (Followed atom) l p e =
      cond_either (is_lexeme comma l) _ _ (Some p) e (λ h same. rw h (ap (option_map (at s)) same)) (λ _ none. absurd (cc))

  -- a token behind which a place comes changes nothing else
  pub place_moves : (l : Lexeme) (p : Expected) → place_behind strict m s.place l ≡ Some p → step strict m s l ≡ Some (at s p)
  unfolding step
  place_moves l p e = moves s.place l p e
