-- Printed parts with a word between them are the text of the formula that the word makes of them.
use Rattle.std.proofs.Common.{◌≡◌, ℕ, ◌+◌, Bool, true, false, codes, List, [], ◌∷◌, ◌++◌, map, refl, sym, ap, subst, ◌∙◌, arith, append_assoc, max}
use Rattle.std.specs.List.{list_any}
use Rattle.std.proofs.lemmas.Bool.{and_from, or_from}
use Rattle.std.proofs.lemmas.List.{append-nil}
use Rattle.std.proofs.lemmas.List.Folds.{list_any-append}
use Rattle.cca_base.specs.declared.formula.Formula.{Formula, roll-Formula}
use Rattle.cca_base.specs.declared.formula.Formula.TheOpen.{Formula-F}
use Rattle.cca_base.specs.PlantModel.{PlantModel}
use Rattle.cca_base.specs.Formula.{part_depth, deepest}
use Rattle.text_base.specs.Tokens.{is_of_kind}
use Rattle.text_base.specs.Lexemes.{Lexeme, word}
use Rattle.formula_syntax.specs.Grammar.{Factor, Conjunction, Disjunction, Whole, Single, And, Case, Or, factor_spelled, conjunction_spelled, disjunction_spelled, whole_spelled}
use Rattle.formula_syntax.specs.Meanings.{Comparison, is_unknown, has_twice, factor_depth, deepest_factor, conjunction_depth, deepest_case, disjunction_depth, whole_depth, factor_comparisons, conjunction_comparisons, disjunction_comparisons, whole_comparisons, factor_formula, conjuncts, conjunction_formula, disjuncts, disjunction_formula, whole_formula}
use Rattle.model_syntax.specs.Printing.{said, part_said, parts_said}
use Rattle.model_syntax.specs.RoundTrip.{AreOfTheirKinds}
use Rattle.model_syntax.proofs.PrintedTokens.{led, parts_said-led}
use Rattle.model_syntax.proofs.PrintedParts.{printed, kinds_append, IsText, ConjunctionText, DisjunctionText, WholeText, IsPrintedAs, tight, in_case, in_side}

module _ (m : PlantModel) where
  abbrev pub Part : Type 0
  Part = (f : Formula) × IsPrintedAs m (said m f) (printed f) f

  abbrev pub firsts : List Part → List Formula
  firsts es = map (λ (e : Part). e.0) es

  -- a row of parts is spelled by these lexemes, means these formulas, and its deepest part is so deep
  record IsRow (spelled : List Lexeme → List Lexeme) (means : List Formula) (deep : ℕ) (comparisons : List Comparison) (tokens : List Lexeme) (fs : List Formula) (d : ℕ) : Type 0 where
    same : (rest : List Lexeme) → spelled rest ≡ tokens ++ rest
    parts : means ≡ fs
    depth : deep ≡ d
    known : list_any (is_unknown m) comparisons ≡ false
    once : list_any (λ c. has_twice c.values) comparisons ≡ false
    kinds : AreOfTheirKinds tokens

  module _ (P R : Type 0) (single : P → R) (add : R → P → R)
      (p_spelled : P → List Lexeme → List Lexeme) (p_formula : P → Formula) (p_depth : P → ℕ) (p_comparisons : P → List Comparison)
      (r_spelled : R → List Lexeme → List Lexeme) (r_parts : R → List Formula) (r_depth : R → ℕ) (r_comparisons : R → List Comparison)
      (allowed : ℕ) (between : Lexeme) (kind : is_of_kind between.0 between.1 ≡ true)
      (one_spelled : (p : P) (rest : List Lexeme) → r_spelled (single p) rest ≡ p_spelled p rest)
      (one_parts : (p : P) → r_parts (single p) ≡ p_formula p ∷ [])
      (one_depth : (p : P) → r_depth (single p) ≡ p_depth p)
      (one_comparisons : (p : P) → r_comparisons (single p) ≡ p_comparisons p)
      (add_spelled : (r : R) (p : P) (rest : List Lexeme) → r_spelled (add r p) rest ≡ r_spelled r (between ∷ p_spelled p rest))
      (add_parts : (r : R) (p : P) → r_parts (add r p) ≡ r_parts r ++ p_formula p ∷ [])
      (add_depth : (r : R) (p : P) → r_depth (add r p) ≡ max (r_depth r) (p_depth p))
      (add_comparisons : (r : R) (p : P) → r_comparisons (add r p) ≡ r_comparisons r ++ p_comparisons p)
      (text : (e : Part) → (t : P) × IsText m (p_spelled t) (p_formula t) (p_depth t) (p_comparisons t) (part_said allowed (said m e.0)) e.0 (part_depth allowed (printed e.0))) where
    abbrev Row : R → List Lexeme → List Formula → ℕ → Type 0
    Row r = IsRow (r_spelled r) (r_parts r) (r_depth r) (r_comparisons r)

    row_is : (r : R) (ts us : List Lexeme) (fs gs : List Formula) (d e : ℕ) → ts ≡ us → fs ≡ gs → d ≡ e → Row r ts fs d → Row r us gs e
    row_is r ts us fs gs d e p q w h = record {
      same = λ rest. h.same rest ∙ ap (λ ls. ls ++ rest) p;
      parts = h.parts ∙ q;
      depth = h.depth ∙ w;
      known = h.known;
      once = h.once;
      kinds = subst AreOfTheirKinds p h.kinds;
    }

    one : (e : Part) → Row (single (text e).0) (part_said allowed (said m e.0)) (e.0 ∷ []) (part_depth allowed (printed e.0))
    one e =
        let t = text e in
        record {
          same = λ rest. one_spelled t.0 rest ∙ t.1.same rest;
          parts = one_parts t.0 ∙ ap (λ f. f ∷ []) t.1.formula;
          depth = one_depth t.0 ∙ t.1.depth;
          known = ap (list_any (is_unknown m)) (one_comparisons t.0) ∙ t.1.known;
          once = ap (list_any (λ c. has_twice c.values)) (one_comparisons t.0) ∙ t.1.once;
          kinds = t.1.kinds;
        }

    none_more : (p : Comparison → Bool) (r : R) (t : P) → list_any p (r_comparisons r) ≡ false → list_any p (p_comparisons t) ≡ false → list_any p (r_comparisons (add r t)) ≡ false
    none_more p r t h k = ap (list_any p) (add_comparisons r t) ∙ list_any-append p (r_comparisons r) (p_comparisons t) ∙ or_from _ _ h k

    more : (r : R) (ts : List Lexeme) (fs : List Formula) (d : ℕ) → Row r ts fs d → (e : Part)
        → Row (add r (text e).0) (ts ++ between ∷ part_said allowed (said m e.0)) (fs ++ e.0 ∷ []) (max d (part_depth allowed (printed e.0)))
    more r ts fs d h e =
        let t = text e in
        let us = part_said allowed (said m e.0) in
        record {
          same = λ rest. add_spelled r t.0 rest ∙ h.same (between ∷ p_spelled t.0 rest) ∙ ap (λ ls. ts ++ between ∷ ls) (t.1.same rest) ∙ sym (append_assoc ts (between ∷ us) rest);
          parts = add_parts r t.0 ∙ ap (λ gs. gs ++ p_formula t.0 ∷ []) h.parts ∙ ap (λ f. fs ++ f ∷ []) t.1.formula;
          depth = add_depth r t.0 ∙ ap (λ n. max n (p_depth t.0)) h.depth ∙ ap (max d) t.1.depth;
          known = none_more (is_unknown m) r t.0 h.known t.1.known;
          once = none_more (λ c. has_twice c.values) r t.0 h.once t.1.once;
          kinds = kinds_append ts (between ∷ us) h.kinds (and_from (is_of_kind between.0 between.1) _ kind t.1.kinds);
        }

    rows : (es : List Part) (r : R) (p : P) (ts : List Lexeme) (fs : List Formula) (d : ℕ) → Row (add r p) ts fs d
        → (q : R) × (t : P) × Row (add q t) (ts ++ led allowed between (map (said m) (firsts es))) (fs ++ firsts es) (max d (deepest allowed (map printed (firsts es))))
    rows [] r p ts fs d h = (r, p, row_is (add r p) ts (ts ++ []) fs (fs ++ []) d (max d 0) (sym (append-nil ts)) (sym (append-nil fs)) (omega arith) h)
    rows (e ∷ es) r p ts fs d h =
        let us = part_said allowed (said m e.0) in
        let n = part_depth allowed (printed e.0) in
        let n' = deepest allowed (map printed (firsts es)) in
        let further = led allowed between (map (said m) (firsts es)) in
        let x = rows es (add r p) (text e).0 (ts ++ between ∷ us) (fs ++ e.0 ∷ []) (max d n) (more (add r p) ts fs d h e) in (
          x.0,
          x.1,
          row_is (add x.0 x.1) ((ts ++ between ∷ us) ++ further) (ts ++ (between ∷ us ++ further)) ((fs ++ e.0 ∷ []) ++ firsts es) (fs ++ e.0 ∷ firsts es) (max (max d n) n') (max d (max n n'))
              (append_assoc ts (between ∷ us) further) (append_assoc fs (e.0 ∷ []) (firsts es)) (omega arith) x.2,
        )

    all : (a b : Part) (es : List Part) → (q : R) × (t : P)
        × Row (add q t) (parts_said allowed between (map (said m) (firsts (a ∷ b ∷ es)))) (firsts (a ∷ b ∷ es)) (deepest allowed (map printed (firsts (a ∷ b ∷ es))))
    all a b es =
        let ta = part_said allowed (said m a.0) in
        let tb = part_said allowed (said m b.0) in
        let da = part_depth allowed (printed a.0) in
        let db = part_depth allowed (printed b.0) in
        let n = deepest allowed (map printed (firsts es)) in
        let further = led allowed between (map (said m) (firsts es)) in
        let x = rows es (single (text a).0) (text b).0 (ta ++ between ∷ tb) (a.0 ∷ b.0 ∷ []) (max da db) (more (single (text a).0) ta (a.0 ∷ []) da (one a) b) in (
          x.0,
          x.1,
          row_is (add x.0 x.1) ((ta ++ between ∷ tb) ++ further) (parts_said allowed between (map (said m) (firsts (a ∷ b ∷ es)))) (a.0 ∷ b.0 ∷ firsts es) (a.0 ∷ b.0 ∷ firsts es) (max (max da db) n) (max da (max db n))
              (append_assoc ta (between ∷ tb) further ∙ parts_said-led allowed between (said m a.0) (map (said m) (firsts (b ∷ es)))) refl (omega arith) x.2,
        )

  -- what the word between them makes of a row of parts
  row_text : (means : List Formula → Formula) (spelled : List Lexeme → List Lexeme) (parts : List Formula) (deep : ℕ) (cs : List Comparison) (tokens : List Lexeme) (fs : List Formula) (d : ℕ)
      → IsRow spelled parts deep cs tokens fs d → IsText m spelled (means parts) (deep + 1) cs tokens (means fs) (1 + d)
  row_text means spelled parts deep cs tokens fs d row = record {
    same = row.same;
    formula = ap means row.parts;
    depth = let e = row.depth in omega (arith, e);
    known = row.known;
    once = row.once;
    kinds = row.kinds;
  }

  -- ---- parts joined by `and` and by `or`

  pub conjunction_of : (a b : Part) (es : List Part)
      → ConjunctionText m (parts_said 0 (word (codes "and")) (map (said m) (firsts (a ∷ b ∷ es)))) (roll-Formula (Formula-F.All (firsts (a ∷ b ∷ es)))) (1 + deepest 0 (map printed (firsts (a ∷ b ∷ es))))
  conjunction_of a b es =
      let x = all Factor Conjunction Single And factor_spelled (factor_formula m) factor_depth factor_comparisons conjunction_spelled (conjuncts m) deepest_factor conjunction_comparisons 0 (word (codes "and")) refl
      (λ p rest. refl) (λ p. refl) (λ p. refl) (λ p. refl) (λ r p rest. refl) (λ r p. refl) (λ r p. refl) (λ r p. refl) (λ e. tight m (said m e.0) (printed e.0) e.0 e.1) a b es
      in (And x.0 x.1, row_text (λ fs. roll-Formula (Formula-F.All fs)) _ _ _ _ _ _ _ x.2)

  pub disjunction_of : (a b : Part) (es : List Part)
      → DisjunctionText m (parts_said 1 (word (codes "or")) (map (said m) (firsts (a ∷ b ∷ es)))) (roll-Formula (Formula-F.Any (firsts (a ∷ b ∷ es)))) (1 + deepest 1 (map printed (firsts (a ∷ b ∷ es))))
  disjunction_of a b es =
      let x = all Conjunction Disjunction Case Or conjunction_spelled (conjunction_formula m) conjunction_depth conjunction_comparisons disjunction_spelled (disjuncts m) deepest_case disjunction_comparisons 1 (word (codes "or")) refl
      (λ p rest. refl) (λ p. refl) (λ p. refl) (λ p. refl) (λ r p rest. refl) (λ r p. refl) (λ r p. refl) (λ r p. refl) (λ e. in_case m (said m e.0) (printed e.0) e.0 e.1) a b es
      in (Or x.0 x.1, row_text (λ fs. roll-Formula (Formula-F.Any fs)) _ _ _ _ _ _ _ x.2)

  -- two sides with a word between them
  module _ (a b : Part) (between : Lexeme) (kind : is_of_kind between.0 between.1 ≡ true) (join : Disjunction → Disjunction → Whole) (means : Formula → Formula → Formula)
      (join_spelled : (x y : Disjunction) (rest : List Lexeme) → whole_spelled (join x y) rest ≡ disjunction_spelled x (between ∷ disjunction_spelled y rest))
      (join_formula : (x y : Disjunction) → whole_formula m (join x y) ≡ means (disjunction_formula m x) (disjunction_formula m y))
      (join_depth : (x y : Disjunction) → whole_depth (join x y) ≡ max (disjunction_depth x) (disjunction_depth y) + 1)
      (join_comparisons : (x y : Disjunction) → whole_comparisons (join x y) ≡ disjunction_comparisons x ++ disjunction_comparisons y) where
    abbrev side : (e : Part) → DisjunctionText m (part_said 2 (said m e.0)) e.0 (part_depth 2 (printed e.0))
    side e = in_side m (said m e.0) (printed e.0) e.0 e.1

    none_joined : (p : Comparison → Bool) (x y : Disjunction) → list_any p (disjunction_comparisons x) ≡ false → list_any p (disjunction_comparisons y) ≡ false → list_any p (whole_comparisons (join x y)) ≡ false
    none_joined p x y h k = ap (list_any p) (join_comparisons x y) ∙ list_any-append p (disjunction_comparisons x) (disjunction_comparisons y) ∙ or_from _ _ h k

    pub sides : WholeText m (part_said 2 (said m a.0) ++ between ∷ part_said 2 (said m b.0)) (means a.0 b.0) (1 + max (part_depth 2 (printed a.0)) (part_depth 2 (printed b.0)))
    sides =
        let x = side a in
        let y = side b in
        let ta = part_said 2 (said m a.0) in
        let tb = part_said 2 (said m b.0) in (
          join x.0 y.0,
          record {
            same = λ rest. join_spelled x.0 y.0 rest ∙ x.1.same (between ∷ disjunction_spelled y.0 rest) ∙ ap (λ ls. ta ++ between ∷ ls) (y.1.same rest) ∙ sym (append_assoc ta (between ∷ tb) rest);
            formula = join_formula x.0 y.0 ∙ ap (λ f. means f (disjunction_formula m y.0)) x.1.formula ∙ ap (means a.0) y.1.formula;
            depth = let e = x.1.depth in let f = y.1.depth in let g = join_depth x.0 y.0 in omega (arith, e, f, g);
            known = none_joined (is_unknown m) x.0 y.0 x.1.known y.1.known;
            once = none_joined (λ c. has_twice c.values) x.0 y.0 x.1.once y.1.once;
            kinds = kinds_append ta (between ∷ tb) x.1.kinds (and_from (is_of_kind between.0 between.1) _ kind y.1.kinds);
          },
        )
