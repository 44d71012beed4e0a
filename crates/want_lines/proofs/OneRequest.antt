-- A line asks for one thing, or has one code.
use Rattle.std.proofs.Common.{◌≡◌, ℕ, List, [], Option, Some, Result, refl, sym, ap, subst, ◌∙◌}
use Rattle.std.specs.Fmt.{decimal}
use Rattle.std.proofs.lemmas.Option.{same_Some}
use Rattle.list_laws.proofs.Elements.{same_tail}
use Rattle.cca_base.specs.declared.cube.Pair.{Pair}
use Rattle.cca_base.specs.PlantModel.{PlantModel}
use Rattle.formula_syntax.specs.Answers.{formula_or_code}
use Rattle.formula_syntax.specs.Grammar.{spelling}
use Rattle.model_syntax.proofs.OneWay.{same_number}
use Rattle.text_base.specs.Pairs.{NamedPair}
use Rattle.script_reader.proofs.ItemGrammar.{reads_only_pairs}
use Rattle.script_reader.proofs.OneSaid.{item_once, one_said}
use Rattle.script_reader.specs.Items.{only_pairs}
use Rattle.script_reader.specs.SaidLines.{SaidByItem}
use Rattle.want_lines.specs.Items.{Item, Weight, At, Want, IsSpelled, grammar, line_spelled}
use Rattle.want_lines.specs.Requests.{Applies, IsNamed, RequestsAreOne}
use Rattle.want_lines.specs.Words.{weight_at}
use Rattle.want_lines.specs.declared.request.Request.{Request}
use Rattle.want_lines.specs.declared.request.Request.TheVariants as request
use Rattle.want_lines.proofs.LineGrammar.{weight_spelled, reads_weight}
use Rattle.formula_syntax.proofs.FormulaTexts.{same_answer}
use Rattle.want_lines.proofs.RequestsOfWords.{apart, asks, at_word, want_word, wanted, weight_word}

pair_is : (p q : NamedPair) (a b : List ℕ) → ◌≡◌ {A = Option (NamedPair × List ℕ)} (Some (p, a)) (Some (q, b)) → (p ≡ q) × (a ≡ b)
pair_is p q a b e = let same = same_Some (p, a) (q, b) e in (ap (λ (x : NamedPair × List ℕ). x.0) same, ap (λ (x : NamedPair × List ℕ). x.1) same)

-- an item has a first word
some_words : (i : Item) → [] ≡ line_spelled i → ⊥
some_words (Weight p n) e = absurd cc
some_words (At ps) e = absurd cc
some_words (Want text) e = absurd cc

module _ (m : PlantModel) where
  -- what an item asks for, or its code
  abbrev AsksFor : Item → Result Request ℕ → Type 0
  AsksFor i said = SaidByItem grammar (IsNamed m) (Applies m) i said

  one_named : (i : Item) (r s : Request) → IsNamed m i r → IsNamed m i s → r ≡ s
  one_named (Weight p n) r s (a, h, is) (b, k, was) = is ∙ ap (λ (x : Pair). request.Weight x n) (same_Some a b (sym h ∙ k)) ∙ sym was
  one_named (At ps) r s (a, h, is) (b, k, was) = is ∙ ap (λ (x : List Pair). request.At x) (same_Some a b (sym h ∙ k)) ∙ sym was
  one_named (Want text) r s h k = h ∙ sym k

  asks_once : (i : Item) (a b : Result Request ℕ) → AsksFor i a → AsksFor i b → a ≡ b
  asks_once = item_once grammar (IsNamed m) (Applies m) one_named

  -- items that are spelled alike ask for one thing
  spelled_alike : (i j : Item) (a b : Result Request ℕ) → line_spelled i ≡ line_spelled j → IsSpelled i → IsSpelled j → AsksFor i a → AsksFor j b → a ≡ b
  spelled_alike (Weight p n) (Weight q k) a b e h h' x y =
      let tail = same_tail _ _ (weight_spelled p (decimal n)) (weight_spelled q (decimal k)) e in
      let both = pair_is p q (decimal n) (decimal k) (sym (reads_weight p (decimal n) h.0.0) ∙ ap weight_at tail ∙ reads_weight q (decimal k) h'.0.0) in
      let number = same_number n k h.1 h'.1 both.1 in
      asks_once (Weight q k) a b (subst (λ (z : NamedPair). AsksFor (Weight z k) a) both.0 (subst (λ (z : ℕ). AsksFor (Weight p z) a) number x)) y
  spelled_alike (At ps) (At qs) a b e h h' x y =
      let tail = same_tail _ _ _ _ e in
      let same = same_Some ps qs (sym (reads_only_pairs ps h.0 h.1) ∙ ap only_pairs tail ∙ reads_only_pairs qs h'.0 h'.1) in
      asks_once (At qs) a b (subst (λ (z : List NamedPair). AsksFor (At z) a) same x) y
  spelled_alike (Want s) (Want t) a b e h h' x y =
      let same = same_answer m s t (same_tail _ _ (spelling s) (spelling t) e) in
      asks_once (Want s) a (wanted (formula_or_code m s)) x (asks m s) ∙ ap wanted same ∙ asks_once (Want t) (wanted (formula_or_code m t)) b (asks m t) y
  spelled_alike (Weight p n) (At qs) a b e h h' x y = apart weight_word at_word _ _ refl refl e
  spelled_alike (Weight p n) (Want t) a b e h h' x y = apart weight_word want_word _ _ refl refl e
  spelled_alike (At ps) (Weight q k) a b e h h' x y = apart at_word weight_word _ _ refl refl e
  spelled_alike (At ps) (Want t) a b e h h' x y = apart at_word want_word _ _ refl refl e
  spelled_alike (Want s) (Weight q k) a b e h h' x y = apart want_word weight_word _ _ refl refl e
  spelled_alike (Want s) (At qs) a b e h h' x y = apart want_word at_word _ _ refl refl e

pub requests_are_one : RequestsAreOne
requests_are_one m line a b h k = one_said grammar (IsNamed m) (Applies m) line some_words (spelled_alike m) a b h k
