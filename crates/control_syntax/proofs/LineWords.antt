-- What the words of a line say by themselves, form by form.
use Rattle.std.proofs.Common.{if◌then◌else◌, ◌≡◌, ◌↔◌, ◌≢◌, ◌<◌, ◌≤◌, ◌^◌, ℕ, Bool, true, false, List, [], ◌∷◌, codes, length, Some, None, Result, Ok, Err, inl, inr, refl, sym, ap, subst, ◌∙◌, arith}
use Rattle.std.specs.Fmt.{decimal}
use Rattle.std.proofs.lemmas.Option.{same_Some}
use Rattle.list_laws.proofs.Tests.{some_none, true_false}
use Rattle.list_laws.proofs.Elements.{same_head, same_tail}
use Rattle.cca_base.specs.declared.codes.TheConstants.{MALFORMED, NAME_UNKNOWN, LIMIT}
use Rattle.cca_base.specs.declared.cube.Pair.{Pair}
use Rattle.cca_base.specs.declared.events.Stop.{Stop}
use Rattle.cca_base.specs.declared.events.Stop.TheVariants as stops
use Rattle.cca_base.specs.declared.formula.Formula.{Formula}
use Rattle.cca_base.specs.PlantModel.{PlantModel}
use Rattle.cca_base.specs.Refusals.{Answers}
use Rattle.formula_syntax.specs.Answers.{IsFormulaOf, formula_or_code}
use Rattle.formula_syntax.specs.Grammar.{Whole, spelling}
use Rattle.formula_syntax.specs.Meanings.{names_unknown, is_deep, whole_formula}
use Rattle.model_syntax.proofs.ItemGrammar.{number_read}
use Rattle.text_base.specs.Lexemes.{Lexeme, word, number, is_lexeme}
use Rattle.text_base.specs.Lists.{ended}
use Rattle.text_base.specs.Pairs.{NamedPair}
use Rattle.text_base.proofs.ChainLaws.{bind_some}
use Rattle.text_base.proofs.FormGrammar.{ended_read}
use Rattle.text_base.proofs.LexemeLaws.{lexeme_is}
use Rattle.model_syntax.specs.Items.{number_at}
use Rattle.script_reader.proofs.EachPair.{goes_to, missing}
use Rattle.script_reader.proofs.ItemGrammar.{only_pairs_read, reads_only_pairs}
use Rattle.script_reader.specs.Items.{only_pairs}
use Rattle.script_reader.specs.Named.{mode_pair, each_pair}
use Rattle.script_reader.specs.SaidLines.{AreSpelling, IsLeast, SaidByItem}
use Rattle.control_syntax.specs.Codes.{AppliesToWords, IsGreat, IsNamed, IsSaidByWords, NamesUnknown}
use Rattle.control_syntax.specs.Items.{Item, Program, Reach, Await, Seq, Both, Choose, Otherwise, Repeat, Done, End, behind, first_word, grammar}
use Rattle.control_syntax.specs.Words.{IsAlone, only_digits}
use Rattle.control_syntax.specs.declared.limits.TheConstants.{MAX_ROUNDS}
use Rattle.control_syntax.specs.declared.line.Line.{Line}
use Rattle.control_syntax.specs.declared.line.Line.TheVariants as line

-- ---- first words

-- the number of a form
abbrev pub rank : Item → ℕ
rank Program = 0
rank (Reach pairs) = 1
rank (Await formula) = 2
rank Seq = 3
rank Both = 4
rank (Choose formula) = 5
rank Otherwise = 6
rank (Repeat rounds) = 7
rank Done = 8
rank End = 9

-- the number of the form that begins with the word
abbrev rank_of : Lexeme → ℕ
rank_of l =
    if is_lexeme (word (codes "program")) l then 0
    else (if is_lexeme (word (codes "reach")) l then 1
    else (if is_lexeme (word (codes "await")) l then 2
    else (if is_lexeme (word (codes "seq")) l then 3
    else (if is_lexeme (word (codes "both")) l then 4
    else (if is_lexeme (word (codes "choose")) l then 5
    else (if is_lexeme (word (codes "otherwise")) l then 6
    else (if is_lexeme (word (codes "repeat")) l then 7
    else (if is_lexeme (word (codes "done")) l then 8
    else 9))))))))

first_rank : (i : Item) → rank_of (first_word i) ≡ rank i
first_rank Program = refl
first_rank (Reach pairs) = refl
first_rank (Await formula) = refl
first_rank Seq = refl
first_rank Both = refl
first_rank (Choose formula) = refl
first_rank Otherwise = refl
first_rank (Repeat rounds) = refl
first_rank Done = refl
first_rank End = refl

-- items with one first word have one form
pub same_rank : (i j : Item) (ls rest : List Lexeme) → first_word i ∷ ls ≡ first_word j ∷ rest → rank i ≡ rank j
same_rank i j ls rest e = sym (first_rank i) ∙ ap rank_of (same_head (first_word i) (first_word j) ls rest e) ∙ first_rank j

-- the form of an item that begins with the word
rank_by : (k : ℕ) (l : Lexeme) (i : Item) (ls : List Lexeme) → l ∷ ls ≡ first_word i ∷ behind i → rank_of l ≡ k → k ≡ rank i
rank_by k l i ls e is = sym is ∙ ap rank_of (same_head l (first_word i) ls (behind i) e) ∙ first_rank i

-- ---- items whose word stands alone

-- the line of an item whose word stands alone
abbrev bare_line : Item → Line
bare_line Program = line.Program
bare_line Seq = line.Seq
bare_line Both = line.Both
bare_line Otherwise = line.Otherwise
bare_line Done = line.Done
bare_line i = line.End

-- an item whose word stands alone
abbrev IsBare : Item → Type 0
IsBare (Reach pairs) = ⊥
IsBare (Await formula) = ⊥
IsBare (Choose formula) = ⊥
IsBare (Repeat rounds) = ⊥
IsBare i = Unit {0}

bare_behind : (i : Item) → IsBare i → behind i ≡ []
bare_behind (Reach pairs) h = absurd h
bare_behind (Await formula) h = absurd h
bare_behind (Choose formula) h = absurd h
bare_behind (Repeat rounds) h = absurd h
bare_behind i h = refl

-- an item of a form whose words stand alone
bare_by_rank : (i j : Item) → IsBare i → rank i ≡ rank j → IsBare j
bare_by_rank (Reach pairs) j h e = absurd h
bare_by_rank (Await formula) j h e = absurd h
bare_by_rank (Choose formula) j h e = absurd h
bare_by_rank (Repeat rounds) j h e = absurd h
bare_by_rank i (Reach pairs) h e = absurd cc
bare_by_rank i (Await formula) h e = absurd cc
bare_by_rank i (Choose formula) h e = absurd cc
bare_by_rank i (Repeat rounds) h e = absurd cc
bare_by_rank i j h e = tt

nothing_behind : (ls : List Lexeme) → 0 < length ls → ls ≡ [] → ⊥
nothing_behind [] h e = omega (arith, h)
nothing_behind (l ∷ ls) h e = absurd cc

-- ---- codes

-- the two forms that have a formula: the item, the line and the word of a `choose`, and of an `await`
abbrev pub form_item : Bool → Whole → Item
form_item true text = Choose text
form_item false text = Await text

abbrev pub form_line : Bool → Formula → Line
form_line true f = line.Choose f
form_line false f = line.Await f

abbrev pub form_word : Bool → Lexeme
form_word true = word (codes "choose")
form_word false = word (codes "await")

module _ (m : PlantModel) where
  by_row : {P : Type 0} (i : Item) (code : ℕ) → AppliesToWords m i code → (code ≡ NAME_UNKNOWN → NamesUnknown m i → P) → (code ≡ LIMIT → IsGreat i → P) → P
  by_row i code (inl (e, h)) a b = a e h
  by_row i code (inr (e, h)) a b = b e h

  unknown_least : (i : Item) → NamesUnknown m i → IsLeast (AppliesToWords m i) NAME_UNKNOWN
  unknown_least i h = (inl (refl, h), λ less lt a. by_row i less a (λ c x. omega (arith, c, lt)) (λ c x. omega (arith, c, lt)))

  limit_least : (i : Item) → (NamesUnknown m i → ⊥) → IsGreat i → IsLeast (AppliesToWords m i) LIMIT
  limit_least i known h = (inr (refl, h), λ less lt a. by_row i less a (λ c x. known x) (λ c x. omega (arith, c, lt)))

  none_applies : (i : Item) → (NamesUnknown m i → ⊥) → (IsGreat i → ⊥) → (code : ℕ) → AppliesToWords m i code → ⊥
  none_applies i known within code a = by_row i code a (λ c x. known x) (λ c x. within x)

  -- an item that is spelled says so
  says : (i : Item) (ls : List Lexeme) (r : Result Line ℕ) → AreSpelling grammar ls i → SaidByItem grammar (IsNamed m) (AppliesToWords m) i r → IsSaidByWords m ls r
  says i ls (Ok l) s h = (i, s, h)
  says i ls (Err code) s h = inr (i, s, h)

  -- ---- words alone

  bare_says : (i : Item) → IsBare i → SaidByItem grammar (IsNamed m) (AppliesToWords m) i (Ok (bare_line i)) × grammar.IsSpelled i
  bare_says (Reach pairs) h = absurd h
  bare_says (Await formula) h = absurd h
  bare_says (Choose formula) h = absurd h
  bare_says (Repeat rounds) h = absurd h
  bare_says Program h = ((refl, none_applies Program (λ x. x) (λ x. x)), tt)
  bare_says Seq h = ((refl, none_applies Seq (λ x. x) (λ x. x)), tt)
  bare_says Both h = ((refl, none_applies Both (λ x. x) (λ x. x)), tt)
  bare_says Otherwise h = ((refl, none_applies Otherwise (λ x. x) (λ x. x)), tt)
  bare_says Done h = ((refl, none_applies Done (λ x. x) (λ x. x)), tt)
  bare_says End h = ((refl, none_applies End (λ x. x) (λ x. x)), tt)

  -- a word alone says its line, and one with words behind it nothing
  alone_says : (i : Item) (ls : List Lexeme) (r : Result Line ℕ) → IsBare i → IsAlone (bare_line i) ls r → IsSaidByWords m (first_word i ∷ ls) r
  alone_says i ls (Ok l) bare (e, is) =
      let s = bare_says i bare in
      let spelled : AreSpelling grammar (first_word i ∷ ls) i = (ap (λ (y : List Lexeme). first_word i ∷ y) (e ∙ sym (bare_behind i bare)), s.1) in
      (i, spelled, subst (λ (x : Line). SaidByItem grammar (IsNamed m) (AppliesToWords m) i (Ok x)) (sym is) s.0)
  alone_says i ls (Err code) bare (some, is) =
      inl (is, λ j s. nothing_behind ls some (same_tail _ _ ls (behind j) s.0 ∙ bare_behind j (bare_by_rank i j bare (same_rank i j ls (behind j) s.0))))

  -- the same of what a call answered
  alone_here : (i : Item) (ls : List Lexeme) (r : Result Line Stop) → IsBare i → Answers r (IsAlone (bare_line i) ls) → Answers r (IsSaidByWords m (first_word i ∷ ls))
  alone_here i ls (Ok l) bare h = alone_says i ls (Ok l) bare h
  alone_here i ls (Err stops.Memory) bare h = tt
  alone_here i ls (Err (stops.Refused refusal)) bare h = (alone_says i ls (Err refusal.code) bare h.0, h.1)

  pub alone_answers : (i : Item) (l : Lexeme) (ls : List Lexeme) (r : Result Line Stop) → IsBare i → is_lexeme (first_word i) l ≡ true → Answers r (IsAlone (bare_line i) ls) → Answers r (IsSaidByWords m (l ∷ ls))
  alone_answers i l ls r bare is h = subst (λ (w : Lexeme). Answers r (IsSaidByWords m (w ∷ ls))) (sym (lexeme_is (first_word i) l is)) (alone_here i ls r bare h)

  -- ---- pairs

  reach_only : (ls : List Lexeme) (i : Item) → AreSpelling grammar (word (codes "reach") ∷ ls) i → (ps : List NamedPair) × (only_pairs ls ≡ Some ps)
  reach_only ls (Reach ps) (e, h) = (ps, ap only_pairs (same_tail _ _ ls _ e) ∙ reads_only_pairs ps h.0 h.1)
  reach_only ls i (e, h) = let same : 1 ≡ rank i = rank_by 1 (word (codes "reach")) i ls e refl in absurd cc

  pub reach_unformed : (ls : List Lexeme) → None ≡ only_pairs ls → IsSaidByWords m (word (codes "reach") ∷ ls) (Err MALFORMED)
  reach_unformed ls e = inl (refl, λ i s. let w = reach_only ls i s in some_none w.0 (sym w.1 ∙ sym e))

  module _ (ls : List Lexeme) (ps : List NamedPair) (e : Some ps ≡ only_pairs ls) where
    reach_written : AreSpelling grammar (word (codes "reach") ∷ ls) (Reach ps)
    reach_written = let r = only_pairs_read ls ps (sym e) in (ap (λ (y : List Lexeme). word (codes "reach") ∷ y) r.0, (r.1, r.2))

    pub reach_unknown : None ≡ each_pair (mode_pair m) ps → IsSaidByWords m (word (codes "reach") ∷ ls) (Err NAME_UNKNOWN)
    reach_unknown h = inr (Reach ps, reach_written, unknown_least (Reach ps) (missing (mode_pair m) ps (sym h)))

    pub reach_says : (qs : List Pair) → Some qs ≡ each_pair (mode_pair m) ps → IsSaidByWords m (word (codes "reach") ∷ ls) (Ok (line.Reach qs))
    reach_says qs h =
        let known : NamesUnknown m (Reach ps) → ⊥ = λ x. let to = goes_to (mode_pair m) ps qs x.0 (sym h) x.1 in some_none to.0 (sym to.2 ∙ x.2) in
        (Reach ps, reach_written, ((qs, sym h, refl), none_applies (Reach ps) known (λ x. x)))

  -- ---- formulas

  -- what a formula, or its code, makes of a line
  abbrev pub made : (Formula → Line) → Result Formula ℕ → Result Line ℕ
  made form (Ok f) = Ok (form f)
  made form (Err code) = Err code

  form_written : (choice : Bool) (text : Whole) (ls : List Lexeme) → ls ≡ spelling text → AreSpelling grammar (form_word choice ∷ ls) (form_item choice text)
  form_written true text ls e = (ap (λ (y : List Lexeme). word (codes "choose") ∷ y) e, tt)
  form_written false text ls e = (ap (λ (y : List Lexeme). word (codes "await") ∷ y) e, tt)

  form_named : (choice : Bool) (text : Whole) → IsNamed m (form_item choice text) (form_line choice (whole_formula m text))
  form_named true text = refl
  form_named false text = refl

  form_unknown : (choice : Bool) (text : Whole) → NamesUnknown m (form_item choice text) ↔ (names_unknown m text ≡ true)
  form_unknown true text = (λ x. x, λ x. x)
  form_unknown false text = (λ x. x, λ x. x)

  form_deep : (choice : Bool) (text : Whole) → IsGreat (form_item choice text) ↔ (is_deep text ≡ true)
  form_deep true text = (λ x. x, λ x. x)
  form_deep false text = (λ x. x, λ x. x)

  form_only : (choice : Bool) (i : Item) (ls : List Lexeme) → AreSpelling grammar (form_word choice ∷ ls) i → (text : Whole) × (ls ≡ spelling text)
  form_only true (Choose text) ls (e, h) = (text, same_tail _ _ ls _ e)
  form_only true i ls (e, h) = let same : 5 ≡ rank i = rank_by 5 (word (codes "choose")) i ls e refl in absurd cc
  form_only false (Await text) ls (e, h) = (text, same_tail _ _ ls _ e)
  form_only false i ls (e, h) = let same : 2 ≡ rank i = rank_by 2 (word (codes "await")) i ls e refl in absurd cc

  module _ (choice : Bool) where
    abbrev AsksFor : Whole → Result Line ℕ → Type 0
    AsksFor text r = SaidByItem grammar (IsNamed m) (AppliesToWords m) (form_item choice text) r

    asks_by : (text : Whole) (u d : Bool) → names_unknown m text ≡ u → is_deep text ≡ d
        → AsksFor text (made (form_line choice) (if u then Err NAME_UNKNOWN else (if d then Err LIMIT else Ok (whole_formula m text))))
    asks_by text true d hu hd = unknown_least (form_item choice text) ((form_unknown choice text).1 hu)
    asks_by text false true hu hd = limit_least (form_item choice text) (λ x. true_false (sym ((form_unknown choice text).0 x) ∙ hu)) ((form_deep choice text).1 hd)
    asks_by text false false hu hd =
        (form_named choice text, none_applies (form_item choice text) (λ x. true_false (sym ((form_unknown choice text).0 x) ∙ hu)) (λ x. true_false (sym ((form_deep choice text).0 x) ∙ hd)))

    pub formula_asks : (text : Whole) → AsksFor text (made (form_line choice) (formula_or_code m text))
    formula_asks text = asks_by text (names_unknown m text) (is_deep text) refl refl

    -- a formula that was read is said, and its code is the line's
    formula_says : (ls : List Lexeme) (read : Result Formula ℕ) → IsFormulaOf m ls read → IsSaidByWords m (form_word choice ∷ ls) (made (form_line choice) read)
    formula_says ls read h = elim h.or_none [
      | inl (text, e) ↦
          subst (λ (r : Result Formula ℕ). IsSaidByWords m (form_word choice ∷ ls) (made (form_line choice) r)) (sym (h.of_text text e))
          (says (form_item choice text) (form_word choice ∷ ls) (made (form_line choice) (formula_or_code m text)) (form_written choice text ls e) (formula_asks text))
      | inr (none, e) ↦
          subst (λ (r : Result Formula ℕ). IsSaidByWords m (form_word choice ∷ ls) (made (form_line choice) r)) (sym e)
          (inl (refl, λ i s. let w = form_only choice i ls s in none w.0 w.1))
    ]

    -- the same of what a call answered
    formula_stop : (ls : List Lexeme) (stop : Stop) → Answers (Err stop) (IsFormulaOf m ls) → Answers (let r : Result Line Stop = Err stop in r) (IsSaidByWords m (form_word choice ∷ ls))
    formula_stop ls stops.Memory h = tt
    formula_stop ls (stops.Refused refusal) h = (formula_says ls (Err refusal.code) h.0, h.1)

    module _ (l : Lexeme) (ls : List Lexeme) (is : is_lexeme (form_word choice) l ≡ true) where
      pub formula_answers : (f : Formula) → IsFormulaOf m ls (Ok f) → IsSaidByWords m (l ∷ ls) (Ok (form_line choice f))
      formula_answers f h = subst (λ (w : Lexeme). IsSaidByWords m (w ∷ ls) (Ok (form_line choice f))) (sym (lexeme_is (form_word choice) l is)) (formula_says ls (Ok f) h)

      pub formula_stops : (stop : Stop) → Answers (Err stop) (IsFormulaOf m ls) → Answers (let r : Result Line Stop = Err stop in r) (IsSaidByWords m (l ∷ ls))
      formula_stops stop h =
          subst (λ (w : Lexeme). Answers (let r : Result Line Stop = Err stop in r) (IsSaidByWords m (w ∷ ls))) (sym (lexeme_is (form_word choice) l is)) (formula_stop ls stop h)

  -- ---- numbers

  repeat_only : (ls : List Lexeme) (i : Item) → AreSpelling grammar (word (codes "repeat") ∷ ls) i → (n : ℕ) × (n < 2 ^ 128) × (only_digits ls ≡ Some (decimal n))
  unfolding only_digits
  repeat_only ls (Repeat n) (e, h) = (n, h, ap only_digits (same_tail _ _ ls _ e))
  repeat_only ls i (e, h) = let same : 7 ≡ rank i = rank_by 7 (word (codes "repeat")) i ls e refl in absurd cc

  digits_read : (ls : List Lexeme) (digits : List ℕ) → only_digits ls ≡ Some digits → ls ≡ number digits ∷ []
  unfolding only_digits
  digits_read ls digits e =
      let a = bind_some (number_at ls) (λ d. ended d.0 d.1) digits e in
      let d = ended_read a.0.0 digits a.0.1 a.2 in
      number_read ls a.0 a.1 ∙ ap (λ (y : List Lexeme). number a.0.0 ∷ y) d.0 ∙ ap (λ (y : List ℕ). number y ∷ []) d.1

  pub repeat_unformed : (ls : List Lexeme) → None ≡ only_digits ls → IsSaidByWords m (word (codes "repeat") ∷ ls) (Err MALFORMED)
  repeat_unformed ls e = inl (refl, λ i s. let w = repeat_only ls i s in some_none (decimal w.0) (sym w.2 ∙ sym e))

  module _ (ls : List Lexeme) (digits : List ℕ) (e : Some digits ≡ only_digits ls) where
    pub repeat_no_number : ((n : ℕ) → n < 2 ^ 128 → digits ≢ decimal n) → IsSaidByWords m (word (codes "repeat") ∷ ls) (Err MALFORMED)
    repeat_no_number none = inl (refl, λ i s. let w = repeat_only ls i s in none w.0 w.1 (same_Some digits (decimal w.0) (e ∙ w.2)))

    module _ (n : ℕ) (small : n < 2 ^ 128) (is : digits ≡ decimal n) where
      repeat_written : AreSpelling grammar (word (codes "repeat") ∷ ls) (Repeat n)
      repeat_written = (ap (λ (y : List Lexeme). word (codes "repeat") ∷ y) (digits_read ls digits (sym e) ∙ ap (λ (y : List ℕ). number y ∷ []) is), small)

      pub repeat_low : n < 1 → IsSaidByWords m (word (codes "repeat") ∷ ls) (Err LIMIT)
      repeat_low low = inr (Repeat n, repeat_written, limit_least (Repeat n) (λ x. x) (inl low))

      pub repeat_high : MAX_ROUNDS < n → IsSaidByWords m (word (codes "repeat") ∷ ls) (Err LIMIT)
      repeat_high high = inr (Repeat n, repeat_written, limit_least (Repeat n) (λ x. x) (inr high))

      within : 1 ≤ n → n ≤ MAX_ROUNDS → IsGreat (Repeat n) → ⊥
      within low high (inl less) = omega (arith, low, less)
      within low high (inr more) = omega (arith, high, more)

      pub repeat_says : 1 ≤ n → n ≤ MAX_ROUNDS → IsSaidByWords m (word (codes "repeat") ∷ ls) (Ok (line.Repeat n))
      repeat_says low high = (Repeat n, repeat_written, (refl, none_applies (Repeat n) (λ x. x) (within low high)))
