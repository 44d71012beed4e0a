-- A printed formula is the text of that formula.
use Rattle.std.proofs.Common.{◌≡◌, ℕ, Bool, true, false, ◌||◌, codes, List, [], ◌∷◌, ◌++◌, length, map, refl, sym, ap, subst, ◌∙◌, arith}
use Rattle.std.specs.Prelude.{nat_le}
use Rattle.std.specs.List.{list_all, list_any}
use Rattle.std.proofs.lemmas.Bool.{and_parts, or_from}
use Rattle.cca_base.specs.declared.formula.Formula.{Formula, roll-Formula}
use Rattle.cca_base.specs.declared.formula.Formula.TheOpen.{Formula-F}
use Rattle.cca_base.specs.declared.formula.Formula.TheFolds.{fold-roll-Formula, ind-Formula, map-Formula}
use Rattle.cca_base.specs.declared.formula.Subject.{Subject}
use Rattle.cca_base.specs.PlantModel.{PlantModel}
use Rattle.cca_base.specs.Names.{is_name}
use Rattle.cca_base.specs.Formula.{fits, fits_step, is_choice_of, subject_value, Printed, printed_step}
use Rattle.cca_base.specs.Model.{mode_counts, value_counts}
use Rattle.text_base.specs.Lexemes.{Lexeme, word, symbol, comma}
use Rattle.formula_syntax.specs.Grammar.{NameWord, True, False, Equal, Differs, In, Implies, Iff, values_spelled}
use Rattle.text_base.specs.Lists.{names_spelled}
use Rattle.formula_syntax.specs.Lookups.{choices_of}
use Rattle.formula_syntax.specs.Meanings.{Comparison, words, lacks_value, is_unknown, has_twice, has_among, is_among}
use Rattle.model_syntax.specs.Printing.{Said, said, said_step, among_said, name_of, names_in}
use Rattle.model_syntax.proofs.PrintedParts.{printed, kinds_append, name_parts, word_kind, names_kinds, IsAtom, WholeText, whole_at, IsPrintedAs, by_not}
use Rattle.model_syntax.proofs.PrintedRows.{Part, firsts, conjunction_of, disjunction_of, sides}

-- ---- sets

abbrev named : (name : List ℕ) → is_name name ≡ true → NameWord
named name h = record { text = name; free = (name_parts name h).1 }

abbrev all_named : (names : List (List ℕ)) → list_all is_name names ≡ true → List NameWord
all_named [] h = []
all_named (name ∷ names) h = let p = and_parts (is_name name) (list_all is_name names) h in record { text = name; free = (name_parts name p.0).1 } ∷ all_named names p.1

values_same : (v : List ℕ) (names : List (List ℕ)) (h : list_all is_name names ≡ true) (rest : List Lexeme) → word v ∷ values_spelled (all_named names h) rest ≡ (names_spelled v names ++ symbol (codes "}") ∷ []) ++ rest
values_same v [] h rest = refl
values_same v (n ∷ ns) h rest = ap (λ ls. word v ∷ comma ∷ ls) (values_same n ns (and_parts (is_name n) (list_all is_name ns) h).1 rest)

words_same : (names : List (List ℕ)) (h : list_all is_name names ≡ true) → words (all_named names h) ≡ names
words_same [] h = refl
words_same (n ∷ ns) h = ap (λ xs. n ∷ xs) (words_same ns (and_parts (is_name n) (list_all is_name ns) h).1)

module _ (m : PlantModel) where
  module _ (s : Subject) (set : ℕ) where
    abbrev name : List ℕ
    name = name_of m s

    abbrev atom : Formula
    atom = roll-Formula (Formula-F.Among s set)

    module _ (names : List (List ℕ)) (h : IsAtom m s set names) where
      means_set : is_among m name names ≡ atom
      means_set = ap (λ o. has_among m o names) h.subject ∙ ap (λ n. roll-Formula (Formula-F.Among s n)) h.gives

      is_known : list_any (is_unknown m) (record { name = name; values = names } ∷ []) ≡ false
      is_known = or_from _ false (ap (λ o. lacks_value m o names) h.subject ∙ h.known) refl

      is_once : list_any (λ c. has_twice c.values) (let c : Comparison = record { name = name; values = names } in c ∷ []) ≡ false
      is_once = or_from _ false h.once refl

    among_text : (names : List (List ℕ)) → IsAtom m s set names → IsPrintedAs m (among_said name names) (record { precedence = 0; depth = 1 }) atom
    among_text [] h = let e = h.gives in let k = h.some in absurd (omega (arith, e, k))
    among_text (v ∷ []) h =
        let n = named name h.name in
        let w = and_parts (is_name v) true h.named in
        let value = named v w.0 in
        record {
          precedence = refl;
          text = (
            Equal n value,
            record {
              same = λ rest. refl;
              formula = means_set (v ∷ []) h;
              depth = refl;
              known = is_known (v ∷ []) h;
              once = is_once (v ∷ []) h;
              kinds = word_kind name (word v ∷ []) h.name (word_kind v [] w.0 refl);
            },
          );
          denial = (
            Differs n value,
            record {
              same = λ rest. refl;
              formula = ap (λ g. roll-Formula (Formula-F.Not g)) (means_set (v ∷ []) h);
              depth = refl;
              known = is_known (v ∷ []) h;
              once = is_once (v ∷ []) h;
              kinds = word_kind name (word v ∷ []) h.name (word_kind v [] w.0 refl);
            },
          );
        }
    among_text (v ∷ next ∷ names) h =
        let w = and_parts (is_name v) (list_all is_name (next ∷ names)) h.named in
        let n = named name h.name in
        let more = all_named (next ∷ names) w.1 in
        let listed : v ∷ words more ≡ v ∷ next ∷ names = ap (λ xs. v ∷ xs) (words_same (next ∷ names) w.1) in
        by_not m 0 _ atom 1 (
          In n (named v w.0) more,
          record {
            same = λ rest. ap (λ ls. word name ∷ word (codes "in") ∷ symbol (codes "{") ∷ ls) (values_same v (next ∷ names) w.1 rest);
            formula = ap (is_among m name) listed ∙ means_set (v ∷ next ∷ names) h;
            depth = refl;
            known = ap (λ xs. list_any (is_unknown m) (record { name = name; values = xs } ∷ [])) listed ∙ is_known (v ∷ next ∷ names) h;
            once = ap (λ xs. has_twice xs || false) listed ∙ is_once (v ∷ next ∷ names) h;
            kinds = word_kind name (names_spelled v (next ∷ names) ++ symbol (codes "}") ∷ []) h.name (kinds_append (names_spelled v (next ∷ names)) (symbol (codes "}") ∷ []) (names_kinds v (next ∷ names) h.named) refl);
          },
        )

  -- ---- all formulas

  abbrev layer : Formula-F Formula → Bool
  layer x = fits_step (mode_counts m) (value_counts m) (map-Formula Formula Bool (fits (mode_counts m) (value_counts m)) x)

  -- a formula from one layer of it
  abbrev LayerPrinted : Formula-F Formula → Type 0
  LayerPrinted x = layer x ≡ true → IsPrintedAs m (said_step m (map-Formula Formula Said (said m) x)) (printed_step (map-Formula Formula Printed printed x)) (roll-Formula x)

  abbrev Claim : Formula → Type 0
  Claim f = fits (mode_counts m) (value_counts m) f ≡ true → IsPrintedAs m (said m f) (printed f) f

  abbrev PartIf : Type 0
  PartIf = (f : Formula) × Claim f

  abbrev formulas : List PartIf → List Formula
  formulas es = map (λ (e : PartIf). e.0) es

  abbrev AllFit : List Formula → Type 0
  AllFit fs = list_all (λ b. b) (map (fits (mode_counts m) (value_counts m)) fs) ≡ true

  ready : (es : List PartIf) → AllFit (formulas es) → (ps : List (Part m)) × (firsts m ps ≡ formulas es)
  ready [] h = ([], refl)
  ready (e ∷ es) h =
      let each = and_parts (fits (mode_counts m) (value_counts m) e.0) _ h in
      let x = ready es each.1 in
      ((e.0, e.1 each.0) ∷ x.0, ap (λ fs. e.0 ∷ fs) x.1)

  abbrev IsMany : List Formula → Type 0
  IsMany fs = nat_le 2 (length (map (fits (mode_counts m) (value_counts m)) fs)) ≡ true

  abbrev AllPrinted : List Formula → Type 0
  AllPrinted fs = IsPrintedAs m (said_step m (Formula-F.All (map (said m) fs))) (printed_step (Formula-F.All (map printed fs))) (roll-Formula (Formula-F.All fs))

  abbrev AnyPrinted : List Formula → Type 0
  AnyPrinted fs = IsPrintedAs m (said_step m (Formula-F.Any (map (said m) fs))) (printed_step (Formula-F.Any (map printed fs))) (roll-Formula (Formula-F.Any fs))

  all_printed : (ps : List (Part m)) → IsMany (firsts m ps) → AllPrinted (firsts m ps)
  all_printed [] h = absurd cc
  all_printed (a ∷ []) h = absurd cc
  all_printed (a ∷ b ∷ ps) h = by_not m 1 _ _ _ (conjunction_of m a b ps)

  any_printed : (ps : List (Part m)) → IsMany (firsts m ps) → AnyPrinted (firsts m ps)
  any_printed [] h = absurd cc
  any_printed (a ∷ []) h = absurd cc
  any_printed (a ∷ b ∷ ps) h = by_not m 2 _ _ _ (disjunction_of m a b ps)

  module _ (atoms : (s : Subject) (set : ℕ) → is_choice_of (subject_value s (mode_counts m) (value_counts m)) set ≡ true → IsAtom m s set (names_in 0 (choices_of m s) set)) where
    printed_layer : (y : Formula-F PartIf) → LayerPrinted (map-Formula PartIf Formula (λ e. e.0) y)
    printed_layer Formula-F.True h = by_not m 0 _ _ 1 (True, record { same = λ rest. refl; formula = refl; depth = refl; known = refl; once = refl; kinds = refl })
    printed_layer Formula-F.False h = by_not m 0 _ _ 1 (False, record { same = λ rest. refl; formula = refl; depth = refl; known = refl; once = refl; kinds = refl })
    printed_layer (Formula-F.Among s set) h = among_text s set (names_in 0 (choices_of m s) set) (atoms s set h)
    printed_layer (Formula-F.Not a) h = by_not m 0 _ _ _ (a.1 h).denial
    printed_layer (Formula-F.All es) h =
        let each = and_parts (nat_le 2 (length (map (fits (mode_counts m) (value_counts m)) (formulas es)))) _ h in
        let x = ready es each.1 in
        subst AllPrinted x.1 (all_printed x.0 (subst IsMany (sym x.1) each.0))
    printed_layer (Formula-F.Any es) h =
        let each = and_parts (nat_le 2 (length (map (fits (mode_counts m) (value_counts m)) (formulas es)))) _ h in
        let x = ready es each.1 in
        subst AnyPrinted x.1 (any_printed x.0 (subst IsMany (sym x.1) each.0))
    printed_layer (Formula-F.Implies a b) h =
        let each = and_parts (fits (mode_counts m) (value_counts m) a.0) _ h in
        by_not m 3 _ _ _ (sides m (a.0, a.1 each.0) (b.0, b.1 each.1) (word (codes "implies")) refl Implies (λ f g. roll-Formula (Formula-F.Implies f g)) (λ x y rest. refl) (λ x y. refl) (λ x y. refl) (λ x y. refl))
    printed_layer (Formula-F.Iff a b) h =
        let each = and_parts (fits (mode_counts m) (value_counts m) a.0) _ h in
        by_not m 3 _ _ _ (sides m (a.0, a.1 each.0) (b.0, b.1 each.1) (word (codes "iff")) refl Iff (λ f g. roll-Formula (Formula-F.Iff f g)) (λ x y rest. refl) (λ x y. refl) (λ x y. refl) (λ x y. refl))

    formula_printed : (f : Formula) → Claim f
    formula_printed = ind-Formula Claim (λ x y is h.
        let k = subst LayerPrinted is (printed_layer y) (sym (fold-roll-Formula Bool (fits_step (mode_counts m) (value_counts m)) x) ∙ h) in
        subst (λ s. IsPrintedAs m s (printed (roll-Formula x)) (roll-Formula x)) (sym (fold-roll-Formula Said (said_step m) x))
        (subst (λ p. IsPrintedAs m (said_step m (map-Formula Formula Said (said m) x)) p (roll-Formula x)) (sym (fold-roll-Formula Printed printed_step x)) k))

    -- a formula of the model has a text that is spelled as it is printed and is read as it
    pub printed_text : (f : Formula) → fits (mode_counts m) (value_counts m) f ≡ true → WholeText m (said m f).tokens f (printed f).depth
    printed_text f h = let p = formula_printed f h in whole_at m (said m f).precedence (said m f).tokens f (printed f).depth p.text
