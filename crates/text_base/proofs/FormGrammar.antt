-- What the grammars of lines share: a first word, and nothing behind the last.
use Rattle.std.proofs.Common.{◌≡◌, ℕ, cond, List, [], ◌∷◌, Option, Some, refl, sym, subst}
use Rattle.std.proofs.lemmas.Option.{same_Some}
use Rattle.list_laws.proofs.Tests.{cond_either}
use Rattle.text_base.specs.Lexemes.{Lexeme, word, is_lexeme}
use Rattle.text_base.specs.Lists.{ended}
use Rattle.text_base.proofs.LexemeLaws.{lexeme_is}

-- nothing follows what is read where nothing may follow
pub ended_read : {A : Type 0} (x y : A) (ls : List Lexeme) → ended x ls ≡ Some y → (ls ≡ []) × (x ≡ y)
ended_read x y [] e = (refl, same_Some x y e)
ended_read x y (l ∷ ls) e = absurd cc

-- items of any type, by how they are written
module _ {A : Type 0} (IsWritten : List Lexeme → A → Type 0) where
  pub same_item : (ls : List Lexeme) (x i : A) → x ≡ i → IsWritten ls x → IsWritten ls i
  same_item ls x i e w = subst (IsWritten ls) e w

  -- nothing stands behind the item's words
  pub only : (l : Lexeme) (x i : A) (ls : List Lexeme) → ended x ls ≡ Some i → IsWritten (l ∷ []) x → IsWritten (l ∷ ls) i
  only l x i ls e w =
      let d = ended_read x i ls e in
      same_item (l ∷ ls) x i d.1 (subst (λ (y : List Lexeme). IsWritten (l ∷ y) x) (sym d.0) w)

  -- a test of the first word
  pub keyword : (k : List ℕ) (l : Lexeme) (ls : List Lexeme) (i : A) (x y : Option A)
      → cond (is_lexeme (word k) l) x y ≡ Some i → (x ≡ Some i → IsWritten (word k ∷ ls) i) → (y ≡ Some i → IsWritten (l ∷ ls) i) → IsWritten (l ∷ ls) i
  keyword k l ls i x y e f g =
      let P : Lexeme → Type 0 = λ m. IsWritten (m ∷ ls) i in
      cond_either (is_lexeme (word k) l) x y (Some i) e (λ t h. subst P (sym (lexeme_is (word k) l t)) (f h)) (λ t h. g h)
