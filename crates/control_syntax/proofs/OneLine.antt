-- Behind what was read a line says one thing, or has one code.
use Rattle.std.proofs.Common.{◌≡◌, ℕ, List, [], ◌∷◌, Result, sym, ap, subst, ◌∙◌, true, false}
use Rattle.std.specs.Fmt.{decimal}
use Rattle.std.proofs.lemmas.Option.{same_Some}
use Rattle.list_laws.proofs.Elements.{same_tail}
use Rattle.cca_base.specs.declared.cube.Pair.{Pair}
use Rattle.cca_base.specs.declared.formula.Formula.{Formula}
use Rattle.cca_base.specs.PlantModel.{PlantModel}
use Rattle.formula_syntax.specs.Answers.{formula_or_code}
use Rattle.formula_syntax.specs.Grammar.{spelling}
use Rattle.model_syntax.proofs.OneWay.{same_number}
use Rattle.text_base.specs.Lexemes.{Lexeme, number}
use Rattle.text_base.specs.Pairs.{NamedPair}
use Rattle.script_reader.proofs.ItemGrammar.{reads_only_pairs}
use Rattle.script_reader.proofs.OneSaid.{item_once, one_said}
use Rattle.script_reader.specs.Items.{only_pairs}
use Rattle.script_reader.specs.SaidLines.{SaidByItem}
use Rattle.control_syntax.specs.Codes.{Applies, IsNamed, LinesAreOne}
use Rattle.control_syntax.specs.Items.{Item, Program, Reach, Await, Seq, Both, Choose, Otherwise, Repeat, Done, End, IsSpelled, behind, grammar}
use Rattle.control_syntax.specs.Reading.{Reading}
use Rattle.control_syntax.specs.declared.line.Line.{Line}
use Rattle.control_syntax.specs.declared.line.Line.TheVariants as line
use Rattle.control_syntax.proofs.CodesHere.{here, item_here}
use Rattle.control_syntax.proofs.LineWords.{made, rank, same_rank, formula_asks}
use Rattle.formula_syntax.proofs.FormulaTexts.{same_answer}

digits_are : (a b : List ℕ) → ◌≡◌ {A = List Lexeme} (number a ∷ []) (number b ∷ []) → a ≡ b
digits_are a b e = let first : ◌≡◌ {A = Lexeme} (number a) (number b) = cc in ap (λ (l : Lexeme). l.1) first

-- an item has a first word
some_words : (i : Item) → [] ≡ grammar.spelled i → ⊥
some_words i e = absurd cc

module _ (m : PlantModel) (r : Reading) where
  -- what an item says here, or its code
  abbrev Says : Item → Result Line ℕ → Type 0
  Says i said = SaidByItem grammar (IsNamed m) (Applies m r) i said

  one_named : (i : Item) (a b : Line) → IsNamed m i a → IsNamed m i b → a ≡ b
  one_named (Reach ps) a b (x, h, is) (y, k, was) = is ∙ ap (λ (z : List Pair). line.Reach z) (same_Some x y (sym h ∙ k)) ∙ sym was
  one_named Program a b h k = h ∙ sym k
  one_named (Await f) a b h k = h ∙ sym k
  one_named Seq a b h k = h ∙ sym k
  one_named Both a b h k = h ∙ sym k
  one_named (Choose f) a b h k = h ∙ sym k
  one_named Otherwise a b h k = h ∙ sym k
  one_named (Repeat n) a b h k = h ∙ sym k
  one_named Done a b h k = h ∙ sym k
  one_named End a b h k = h ∙ sym k

  says_once : (i : Item) (a b : Result Line ℕ) → Says i a → Says i b → a ≡ b
  says_once = item_once grammar (IsNamed m) (Applies m r) one_named

  -- items that are spelled alike say one thing
  spelled_alike : (i j : Item) (a b : Result Line ℕ) → grammar.spelled i ≡ grammar.spelled j → IsSpelled i → IsSpelled j → Says i a → Says j b → a ≡ b
  spelled_alike (Reach ps) (Reach qs) a b e h k x y =
      let same = same_Some ps qs (sym (reads_only_pairs ps h.0 h.1) ∙ ap only_pairs (same_tail _ _ (behind (Reach ps)) (behind (Reach qs)) e) ∙ reads_only_pairs qs k.0 k.1) in
      says_once (Reach qs) a b (subst (λ (z : List NamedPair). Says (Reach z) a) same x) y
  spelled_alike (Await s) (Await t) a b e h k x y =
      let said = λ (o : Result Formula ℕ). here m r (made m (λ f. line.Await f) o) in
      let same = same_answer m s t (same_tail _ _ (spelling s) (spelling t) e) in
      says_once (Await s) a (said (formula_or_code m s)) x (item_here m r (Await s) _ (formula_asks m false s)) ∙ ap said same
      ∙ says_once (Await t) (said (formula_or_code m t)) b (item_here m r (Await t) _ (formula_asks m false t)) y
  spelled_alike (Choose s) (Choose t) a b e h k x y =
      let said = λ (o : Result Formula ℕ). here m r (made m (λ f. line.Choose f) o) in
      let same = same_answer m s t (same_tail _ _ (spelling s) (spelling t) e) in
      says_once (Choose s) a (said (formula_or_code m s)) x (item_here m r (Choose s) _ (formula_asks m true s)) ∙ ap said same
      ∙ says_once (Choose t) (said (formula_or_code m t)) b (item_here m r (Choose t) _ (formula_asks m true t)) y
  spelled_alike (Repeat n) (Repeat l) a b e h k x y =
      let same = same_number n l h k (digits_are (decimal n) (decimal l) (same_tail _ _ (behind (Repeat n)) (behind (Repeat l)) e)) in
      says_once (Repeat l) a b (subst (λ (z : ℕ). Says (Repeat z) a) same x) y
  spelled_alike Program Program a b e h k x y = says_once Program a b x y
  spelled_alike Seq Seq a b e h k x y = says_once Seq a b x y
  spelled_alike Both Both a b e h k x y = says_once Both a b x y
  spelled_alike Otherwise Otherwise a b e h k x y = says_once Otherwise a b x y
  spelled_alike Done Done a b e h k x y = says_once Done a b x y
  spelled_alike End End a b e h k x y = says_once End a b x y
  spelled_alike i j a b e h k x y = let same : rank i ≡ rank j = same_rank i j (behind i) (behind j) e in absurd cc

pub lines_are_one : LinesAreOne
lines_are_one m r text a b h k = one_said grammar (IsNamed m) (Applies m r) text some_words (spelled_alike m r) a b h k
