-- What the words of a line ask for, form by form.
use Rattle.std.proofs.Common.{if◌then◌else◌, ◌≡◌, ◌≢◌, ◌<◌, ◌≤◌, ◌^◌, ℕ, Bool, true, false, List, ◌∷◌, codes, Option, Some, None, Result, Ok, Err, inl, inr, refl, sym, ap, subst, ◌∙◌}
use Rattle.std.specs.Fmt.{decimal}
use Rattle.std.proofs.lemmas.Option.{same_Some}
use Rattle.list_laws.proofs.Elements.{same_head, same_tail}
use Rattle.list_laws.proofs.Tests.{true_false}
use Rattle.cca_base.specs.declared.codes.TheConstants.{MALFORMED, NAME_UNKNOWN, LIMIT, REPEATED_PAIR}
use Rattle.cca_base.specs.declared.cube.Pair.{Pair}
use Rattle.cca_base.specs.declared.events.Stop.{Stop}
use Rattle.cca_base.specs.declared.events.Stop.TheVariants as stops
use Rattle.cca_base.specs.declared.formula.Formula.{Formula}
use Rattle.cca_base.specs.declared.limits.TheConstants.{MAX_WEIGHT}
use Rattle.cca_base.specs.PlantModel.{PlantModel}
use Rattle.cca_base.specs.Refusals.{Answers}
use Rattle.formula_syntax.specs.Answers.{IsFormulaOf, formula_or_code}
use Rattle.formula_syntax.specs.Grammar.{Whole}
use Rattle.formula_syntax.specs.Meanings.{names_unknown, is_deep, whole_formula}
use Rattle.text_base.specs.Lexemes.{Lexeme, word, is_lexeme}
use Rattle.text_base.specs.Pairs.{NamedPair}
use Rattle.script_reader.specs.EventCodes.{has_item_twice}
use Rattle.script_reader.specs.Named.{mode_pair, each_pair}
use Rattle.script_reader.proofs.ItemGrammar.{only_pairs_read, reads_only_pairs}
use Rattle.script_reader.specs.Items.{only_pairs}
use Rattle.script_reader.specs.SaidLines.{AreSpelling}
use Rattle.want_lines.specs.Items.{Item, Weight, At, Want, grammar, line_spelled}
use Rattle.want_lines.specs.Requests.{IsLeastCode, IsRequestOfWords, IsTaken}
use Rattle.want_lines.specs.Words.{weight_at}
use Rattle.want_lines.specs.declared.request.Request.{Request}
use Rattle.want_lines.specs.declared.request.Request.TheVariants as request
use Rattle.want_lines.proofs.LineGrammar.{weight_spelled, reads_weight, weight_read}
use Rattle.want_lines.proofs.TableOfCodes.{unknown_least, limit_least, none_applies, at_unknown, at_twice, at_taken, weight_unknown, weight_great, weight_taken}

-- lexemes with two first words
pub apart : {P : Type 0} (a b : Lexeme) (ls rest : List Lexeme) → is_lexeme a a ≡ true → is_lexeme a b ≡ false → a ∷ ls ≡ b ∷ rest → P
apart a b ls rest same differ e = true_false (sym same ∙ ap (is_lexeme a) (same_head a b ls rest e) ∙ differ)

abbrev pub weight_word : Lexeme
weight_word = word (codes "weight")

abbrev pub at_word : Lexeme
at_word = word (codes "at")

abbrev pub want_word : Lexeme
want_word = word (codes "want")

-- ---- weights

-- an item behind the word weight is a weight, and its words are read so
weight_only : (ls : List Lexeme) (i : Item) → AreSpelling grammar (weight_word ∷ ls) i → (p : NamedPair) × (n : ℕ) × (n < 2 ^ 128) × (weight_at ls ≡ Some (p, decimal n))
weight_only ls (Weight p n) (e, h) =
    let same = same_tail weight_word weight_word ls (weight_spelled p (decimal n)) e in
    (p, n, h.1, ap weight_at same ∙ reads_weight p (decimal n) h.0.0)
weight_only ls (At ps) (e, h) = apart weight_word at_word ls _ refl refl e
weight_only ls (Want f) (e, h) = apart weight_word want_word ls _ refl refl e

module _ (m : PlantModel) (ls : List Lexeme) where
  pub weight_unformed : None ≡ weight_at ls → IsRequestOfWords m (weight_word ∷ ls) (Err MALFORMED)
  weight_unformed e = inl (refl, λ i s. let w = weight_only ls i s in let both : None ≡ Some (w.0, decimal w.1) = e ∙ w.3 in absurd cc)

  digits_are : (p q : NamedPair) (a b : List ℕ) → ◌≡◌ {A = Option (NamedPair × List ℕ)} (Some (p, a)) (Some (q, b)) → a ≡ b
  digits_are p q a b e = ap (λ (x : NamedPair × List ℕ). x.1) (same_Some (p, a) (q, b) e)

  pub weight_no_number : (p : NamedPair) (digits : List ℕ) → Some (p, digits) ≡ weight_at ls → ((n : ℕ) → n < 2 ^ 128 → digits ≢ decimal n) → IsRequestOfWords m (weight_word ∷ ls) (Err MALFORMED)
  weight_no_number p digits e none = inl (refl, λ i s. let w = weight_only ls i s in none w.1 w.2 (digits_are p w.0 digits (decimal w.1) (e ∙ w.3)))

  module _ (p : NamedPair) (digits : List ℕ) (n : ℕ) (e : Some (p, digits) ≡ weight_at ls) (small : n < 2 ^ 128) (is : digits ≡ decimal n) where
    weight_written : AreSpelling grammar (weight_word ∷ ls) (Weight p n)
    weight_written =
        let w = weight_read ls (p, digits) (sym e) in
        (ap (λ (y : List Lexeme). weight_word ∷ y) (w.0 ∙ ap (weight_spelled p) is), ((w.1, tt), small))

    pub says_unknown : None ≡ mode_pair m p → IsRequestOfWords m (weight_word ∷ ls) (Err NAME_UNKNOWN)
    says_unknown h = inr (Weight p n, weight_written, weight_unknown m p n h)

    pub says_great : (q : Pair) → Some q ≡ mode_pair m p → MAX_WEIGHT < n → IsRequestOfWords m (weight_word ∷ ls) (Err LIMIT)
    says_great q h more = inr (Weight p n, weight_written, weight_great m p n q h more)

    pub says_weight : (q : Pair) → Some q ≡ mode_pair m p → n ≤ MAX_WEIGHT → IsRequestOfWords m (weight_word ∷ ls) (Ok (request.Weight q n))
    says_weight q h few = (Weight p n, weight_written, weight_taken m p n q h few)

-- ---- pairs

at_only : (ls : List Lexeme) (i : Item) → AreSpelling grammar (at_word ∷ ls) i → (ps : List NamedPair) × (only_pairs ls ≡ Some ps)
at_only ls (Weight p n) (e, h) = apart at_word weight_word ls _ refl refl e
at_only ls (At ps) (e, h) =
    let same = same_tail at_word at_word ls _ e in
    (ps, ap only_pairs same ∙ reads_only_pairs ps h.0 h.1)
at_only ls (Want f) (e, h) = apart at_word want_word ls _ refl refl e

module _ (m : PlantModel) (ls : List Lexeme) where
  pub at_unformed : None ≡ only_pairs ls → IsRequestOfWords m (at_word ∷ ls) (Err MALFORMED)
  at_unformed e = inl (refl, λ i s. let w = at_only ls i s in let both : None ≡ Some w.0 = e ∙ w.1 in absurd cc)

  module _ (ps : List NamedPair) (e : Some ps ≡ only_pairs ls) where
    at_written : AreSpelling grammar (at_word ∷ ls) (At ps)
    at_written = let r = only_pairs_read ls ps (sym e) in (ap (λ (y : List Lexeme). at_word ∷ y) r.0, (r.1, r.2))

    pub says_at_unknown : None ≡ each_pair (mode_pair m) ps → IsRequestOfWords m (at_word ∷ ls) (Err NAME_UNKNOWN)
    says_at_unknown h = inr (At ps, at_written, at_unknown m ps h)

    pub says_twice : (qs : List Pair) → Some qs ≡ each_pair (mode_pair m) ps → has_item_twice qs ≡ true → IsRequestOfWords m (at_word ∷ ls) (Err REPEATED_PAIR)
    says_twice qs h t = inr (At ps, at_written, at_twice m ps qs h t)

    pub says_at : (qs : List Pair) → Some qs ≡ each_pair (mode_pair m) ps → has_item_twice qs ≡ false → IsRequestOfWords m (at_word ∷ ls) (Ok (request.At qs))
    says_at qs h t = (At ps, at_written, at_taken m ps qs h t)

-- ---- formulas

-- what a formula, or its code, makes of a line
abbrev pub wanted : Result Formula ℕ → Result Request ℕ
wanted (Ok f) = Ok (request.Want f)
wanted (Err code) = Err code

module _ (m : PlantModel) where
  -- a text asks for its formula, or has its code
  abbrev AsksFor : Whole → Result Request ℕ → Type 0
  AsksFor text (Ok r) = IsTaken m (Want text) r
  AsksFor text (Err code) = IsLeastCode m (Want text) code

  asks_by : (text : Whole) (unknown deep : Bool) → names_unknown m text ≡ unknown → is_deep text ≡ deep
      → AsksFor text (wanted (if unknown then Err NAME_UNKNOWN else (if deep then Err LIMIT else Ok (whole_formula m text))))
  asks_by text true deep u d = unknown_least m (Want text) u
  asks_by text false true u d = limit_least m (Want text) (λ h. true_false (sym h ∙ u)) d
  asks_by text false false u d = (refl, none_applies m (Want text) (λ h. true_false (sym h ∙ u)) (λ h. true_false (sym h ∙ d)) (λ x. x))

  pub asks : (text : Whole) → AsksFor text (wanted (formula_or_code m text))
  asks text = asks_by text (names_unknown m text) (is_deep text) refl refl

  of_text : (ls : List Lexeme) (text : Whole) (r : Result Request ℕ) → AreSpelling grammar (want_word ∷ ls) (Want text) → AsksFor text r → IsRequestOfWords m (want_word ∷ ls) r
  of_text ls text (Ok r) s h = (Want text, s, h)
  of_text ls text (Err code) s h = inr (Want text, s, h)

  want_only : (ls : List Lexeme) (i : Item) → AreSpelling grammar (want_word ∷ ls) i → (text : Whole) × (want_word ∷ ls ≡ line_spelled (Want text))
  want_only ls (Weight p n) (e, h) = apart want_word weight_word ls _ refl refl e
  want_only ls (At ps) (e, h) = apart want_word at_word ls _ refl refl e
  want_only ls (Want text) (e, h) = (text, e)

  -- a formula that was read is asked for, and its code is the line's
  pub says_wanted : (ls : List Lexeme) (read : Result Formula ℕ) → IsFormulaOf m ls read → IsRequestOfWords m (want_word ∷ ls) (wanted read)
  says_wanted ls read h = elim h.or_none [
    | inl (text, e) ↦
        let spelled : AreSpelling grammar (want_word ∷ ls) (Want text) = (ap (λ (y : List Lexeme). want_word ∷ y) e, tt) in
        subst (λ (r : Result Formula ℕ). IsRequestOfWords m (want_word ∷ ls) (wanted r)) (sym (h.of_text text e)) (of_text ls text (wanted (formula_or_code m text)) spelled (asks text))
    | inr (none, e) ↦
        subst (λ (r : Result Formula ℕ). IsRequestOfWords m (want_word ∷ ls) (wanted r)) (sym e)
        (inl (refl, λ i s. let w = want_only ls i s in none w.0 (same_tail want_word want_word ls _ w.1)))
  ]

  -- the same of what a call answered
  pub wanted_stop : (ls : List Lexeme) (stop : Stop) → Answers (Err stop) (IsFormulaOf m ls) → Answers (let r : Result Request Stop = Err stop in r) (IsRequestOfWords m (want_word ∷ ls))
  wanted_stop ls stops.Memory h = tt
  wanted_stop ls (stops.Refused refusal) h = (says_wanted ls (Err refusal.code) h.0, h.1)
