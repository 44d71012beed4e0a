-- A line leads to one outcome.
use Rattle.std.proofs.Common.{◌≡◌, ℕ, ◌^◌, ◌<◌, inl, inr, Bool, true, false, List, [], ◌∷◌, map, Option, Some, None, Result, Ok, Err, sym, ap, ◌∙◌, arith}
use Rattle.std.specs.Fmt.{decimal}
use Rattle.std.specs.Str.Parse.{digits_value}
use Rattle.std.proofs.lemmas.Fmt.{decimal_is_IsNumeral_wide}
use Rattle.cca_base.specs.PlantModel.{PlantModel}
use Rattle.text_base.specs.Tokens.{Tok, tokens_of}
use Rattle.text_base.specs.Lexemes.{Lexeme, lexeme}
use Rattle.formula_syntax.specs.Grammar.{Whole}
use Rattle.model_syntax.specs.Items.{Item, Header, Component, Variable, Rule, Move, Failure, Script, item_of}
use Rattle.model_syntax.specs.Lines.{Next, IsNextOfText, IsNextOfNumber, IsNextOfItem, IsNextOfForm, ModelSoFar, LineOutcome, outcome, LeadsByForm, LeadsByTokens, LeadOneWay, rule_next, move_next, failure_next}

-- a number has one spelling, and no other number has it
pub same_number : (n k : ℕ) → n < 2 ^ 128 → k < 2 ^ 128 → decimal n ≡ decimal k → n ≡ k
same_number n k small less e =
    sym (decimal_is_IsNumeral_wide n (omega arith)).1 ∙ ap (digits_value 10) e ∙ (decimal_is_IsNumeral_wide k (omega arith)).1

text_once : (ls : List Lexeme) (f : Whole → Next) (a b : Next) → IsNextOfText ls f a → IsNextOfText ls f b → a ≡ b
text_once ls f a b h k = elim h.or_none [
  | inl (text, e) ↦ h.of_text text e ∙ sym (k.of_text text e)
  | inr (none, e) ↦ elim k.or_none [
    | inl (text, g) ↦ absurd (none text g)
    | inr (other, g) ↦ e ∙ sym g
  ]
]

number_once : (digits : List ℕ) (f : ℕ → Next) (a b : Next) → IsNextOfNumber digits f a → IsNextOfNumber digits f b → a ≡ b
number_once digits f a b (inl (n, small, e, h)) (inl (k, less, g, i)) = h ∙ ap f (same_number n k small less (sym e ∙ g)) ∙ sym i
number_once digits f a b (inl (n, small, e, h)) (inr (none, i)) = absurd (none n small e)
number_once digits f a b (inr (none, h)) (inl (k, less, g, i)) = absurd (none k less g)
number_once digits f a b (inr (none, h)) (inr (other, i)) = h ∙ sym i

item_once : (m : PlantModel) (item : Item) (a b : Next) → IsNextOfItem m item a → IsNextOfItem m item b → a ≡ b
item_once m (Header second) a b h k = h ∙ sym k
item_once m (Component name modes start) a b h k = h ∙ sym k
item_once m (Variable name values sensed) a b h k = h ∙ sym k
item_once m (Rule formula) a b h k = text_once formula (rule_next m) a b h k
item_once m (Move repair ends command guard) a b h k = text_once guard (move_next m repair ends command) a b h k
item_once m (Failure ends cost) a b h k = number_once cost (failure_next m ends) a b h k
item_once m Script a b h k = h ∙ sym k

form_next_once : (m : PlantModel) (form : Option Item) (a b : Next) → IsNextOfForm m form a → IsNextOfForm m form b → a ≡ b
form_next_once m None a b h k = h ∙ sym k
form_next_once m (Some item) a b h k = item_once m item a b h k

form_once : (begun : Bool) (m : PlantModel) (form : Option Item) (a b : LineOutcome) → LeadsByForm begun m form a → LeadsByForm begun m form b → a ≡ b
form_once true m form a b (x, h, e) (y, k, g) = e ∙ ap outcome (form_next_once m form x y h k) ∙ sym g
form_once false m form a b h k = h ∙ sym k

tokens_once : (s : ModelSoFar) (ts : Result (List Tok) ℕ) (a b : LineOutcome) → LeadsByTokens s ts a → LeadsByTokens s ts b → a ≡ b
tokens_once s (Err at) a b h k = h ∙ sym k
tokens_once s (Ok []) a b h k = h ∙ sym k
tokens_once s (Ok (t ∷ ts)) a b h k = form_once s.begun s.model (item_of (map lexeme (t ∷ ts))) a b h k

pub lead_one_way : LeadOneWay
lead_one_way s line a b h k = tokens_once s (tokens_of line) a b h k
