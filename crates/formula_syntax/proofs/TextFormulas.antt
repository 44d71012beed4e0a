-- A text whose names are declared spells a formula of the model, whose printed text is no deeper.
use Rattle.std.proofs.Common.{◌≡◌, ℕ, ◌+◌, ◌<◌, ◌^◌, Bool, true, false, not, ◌&&◌, ◌||◌, List, [], ◌∷◌, ◌++◌, length, map, Option, Some, None, inl, inr, refl, sym, ap, ◌∙◌, arith}
use Rattle.std.specs.Prelude.{nat_le, nat_lt, is_some}
use Rattle.std.specs.List.{list_all, list_any}
use Rattle.std.proofs.Math.Pow.{pow-lt, pow_pos}
use Rattle.std.proofs.lemmas.Bool.{and_from, or_parts, not-false, lt-ltb, le-leb, cases_lt, eq-eqb}
use Rattle.std.proofs.lemmas.Nat.{or_lt}
use Rattle.std.proofs.lemmas.List.{map_push, length_push, length-map}
use Rattle.std.proofs.lemmas.List.Folds.{list_any-append, list_all-append}
use Rattle.cca_base.specs.declared.formula.Formula.{Formula, roll-Formula}
use Rattle.cca_base.specs.declared.formula.Formula.TheOpen.{Formula-F}
use Rattle.cca_base.specs.declared.formula.Formula.TheFolds.{fold-roll-Formula}
use Rattle.cca_base.specs.declared.formula.Subject.{Subject}
use Rattle.cca_base.specs.declared.formula.Subject.TheVariants as subjects
use Rattle.cca_base.specs.PlantModel.{PlantModel}
use Rattle.cca_base.specs.Sets.{has, with_number}
use Rattle.cca_base.specs.Formula.{fits, fits_step, is_choice_of, subject_value}
use Rattle.cca_base.specs.Model.{mode_counts, value_counts}
use Rattle.cca_base.proofs.SetLaws.{has-with_number, has-empty}
use Rattle.formula_syntax.specs.Grammar.{Factor, Conjunction, Disjunction, Whole, True, False, Equal, Differs, In, Not, Parens, Single, And, Case, Or, Plain, Implies, Iff}
use Rattle.formula_syntax.specs.Lookups.{subject_of, value_of}
use Rattle.formula_syntax.specs.Meanings.{Comparison, words, lacks_value, is_unknown, with_found, with_numbers, has_among, is_among, factor_comparisons, conjunction_comparisons, disjunction_comparisons, whole_comparisons, factor_formula, conjuncts, conjunction_formula, disjuncts, disjunction_formula, whole_formula}
use Rattle.formula_syntax.proofs.ModesByName.{mode_of_component, value_of_variable}

module _ (m : PlantModel) where
  abbrev modes : List ℕ
  modes = mode_counts m

  abbrev values : List ℕ
  values = value_counts m

  -- ---- values of a subject

  value_within : (s : Subject) (k : ℕ) (text : List ℕ) → value_of m s text ≡ Some k → k < subject_value s modes values
  value_within (subjects.Component c) k text h = mode_of_component m c k text h
  value_within (subjects.Variable v) k text h = value_of_variable m v k text h

  -- ---- sets of values

  not_empty : (set k : ℕ) → 0 < with_number set k
  not_empty set k = elim (cases_lt 0 (with_number set k)) [
    | inl h ↦ h
    | inr h ↦
        let zero_set : with_number set k ≡ 0 = omega arith in
        let f = sym (has-with_number set k k ∙ ap (λ (b : Bool). b || has set k) (eq-eqb k k refl)) ∙ ap (λ (n : ℕ). has n k) zero_set ∙ has-empty k in
        absurd cc
  ]

  stays_within : (n set k : ℕ) → set < 2 ^ n → k < n → with_number set k < 2 ^ n
  stays_within n set k h below = or_lt n set (2 ^ k) h (pow-lt below)

  numbers_within : (s : Subject) (n : ℕ) → ((k : ℕ) (text : List ℕ) → value_of m s text ≡ Some k → k < n) → (vs : List (List ℕ)) (set : ℕ)
      → list_any (λ value. not (is_some (value_of m s value))) vs ≡ false → set < 2 ^ n → with_numbers m s set vs < 2 ^ n
  numbers_within s n within [] set known h = h
  numbers_within s n within (v ∷ vs) set known h =
      let p = or_parts (not (is_some (value_of m s v))) (list_any (λ value. not (is_some (value_of m s value))) vs) known in
      elim (value_of m s v) as (λ o. value_of m s v ≡ o → is_some o ≡ true → with_numbers m s (with_found set o) vs < 2 ^ n) [
        | None ↦ (λ e f. absurd cc)
        | Some k ↦ (λ e f. numbers_within s n within vs (with_number set k) p.1 (stays_within n set k h (within k v e)))
      ] refl (not-false (is_some (value_of m s v)) p.0)

  numbers_some : (s : Subject) (vs : List (List ℕ)) (set : ℕ) → list_any (λ value. not (is_some (value_of m s value))) vs ≡ false → 0 < set → 0 < with_numbers m s set vs
  numbers_some s [] set known h = h
  numbers_some s (v ∷ vs) set known h =
      let p = or_parts (not (is_some (value_of m s v))) (list_any (λ value. not (is_some (value_of m s value))) vs) known in
      elim (value_of m s v) as (λ o. is_some o ≡ true → 0 < with_numbers m s (with_found set o) vs) [
        | None ↦ (λ f. absurd cc)
        | Some k ↦ (λ f. numbers_some s vs (with_number set k) p.1 (not_empty set k))
      ] (not-false (is_some (value_of m s v)) p.0)

  is_choice : (s : Subject) (v : List ℕ) (vs : List (List ℕ)) → list_any (λ value. not (is_some (value_of m s value))) (v ∷ vs) ≡ false
      → is_choice_of (subject_value s modes values) (with_numbers m s 0 (v ∷ vs)) ≡ true
  is_choice s v vs known =
      let n : ℕ = subject_value s modes values in
      let p = or_parts (not (is_some (value_of m s v))) (list_any (λ value. not (is_some (value_of m s value))) vs) known in
      let some : 0 < with_numbers m s 0 (v ∷ vs) =
      elim (value_of m s v) as (λ o. is_some o ≡ true → 0 < with_numbers m s (with_found 0 o) vs) [
        | None ↦ (λ f. absurd cc)
        | Some k ↦ (λ f. numbers_some s vs (with_number 0 k) p.1 (not_empty 0 k))
      ] (not-false (is_some (value_of m s v)) p.0)
      in
      let one : 0 < 2 ^ n = pow_pos n in
      let within = numbers_within s n (value_within s) (v ∷ vs) 0 known one in
      and_from (nat_lt 0 (with_numbers m s 0 (v ∷ vs))) _ (lt-ltb 0 _ some) (lt-ltb (with_numbers m s 0 (v ∷ vs)) (2 ^ n) within)

  -- ---- formulas that fit

  abbrev FormulaFits : Formula → Type 0
  FormulaFits f = fits modes values f ≡ true

  among_fits : (o : Option Subject) (v : List ℕ) (vs : List (List ℕ)) → lacks_value m o (v ∷ vs) ≡ false → FormulaFits (has_among m o (v ∷ vs))
  among_fits None v vs h = absurd cc
  among_fits (Some s) v vs h = fold-roll-Formula Bool (fits_step modes values) (Formula-F.Among s (with_numbers m s 0 (v ∷ vs))) ∙ is_choice s v vs h

  not_fits : (f : Formula) → FormulaFits f → FormulaFits (roll-Formula (Formula-F.Not f))
  not_fits f h = fold-roll-Formula Bool (fits_step modes values) (Formula-F.Not f) ∙ h

  abbrev AllFit : List Formula → Type 0
  AllFit fs = list_all (λ b. b) (map (fits modes values) fs) ≡ true

  all_fit_push : (fs : List Formula) (f : Formula) → AllFit fs → FormulaFits f → AllFit (fs ++ f ∷ [])
  all_fit_push fs f h g =
      ap (list_all (λ b. b)) (map_push (fits modes values) fs f)
      ∙ list_all-append (λ b. b) (map (fits modes values) fs) (fits modes values f ∷ [])
      ∙ and_from (list_all (λ b. b) (map (fits modes values) fs)) (fits modes values f && true) h (and_from (fits modes values f) true g refl)

  two : (fs : List Formula) (f : Formula) → 0 < length fs → nat_le 2 (length (map (fits modes values) (fs ++ f ∷ []))) ≡ true
  two fs f h =
      let n : length (map (fits modes values) (fs ++ f ∷ [])) ≡ length fs + 1 = length-map (fs ++ f ∷ []) (fits modes values) ∙ length_push fs f in
      rw n (le-leb 2 (length fs + 1) (omega arith))

  all_fits : (fs : List Formula) (f : Formula) → 0 < length fs → AllFit fs → FormulaFits f → FormulaFits (roll-Formula (Formula-F.All (fs ++ f ∷ [])))
  all_fits fs f some h g = fold-roll-Formula Bool (fits_step modes values) (Formula-F.All (fs ++ f ∷ [])) ∙ and_from (nat_le 2 (length (map (fits modes values) (fs ++ f ∷ [])))) _ (two fs f some) (all_fit_push fs f h g)

  any_fits : (fs : List Formula) (f : Formula) → 0 < length fs → AllFit fs → FormulaFits f → FormulaFits (roll-Formula (Formula-F.Any (fs ++ f ∷ [])))
  any_fits fs f some h g = fold-roll-Formula Bool (fits_step modes values) (Formula-F.Any (fs ++ f ∷ [])) ∙ and_from (nat_le 2 (length (map (fits modes values) (fs ++ f ∷ [])))) _ (two fs f some) (all_fit_push fs f h g)

  implies_fits : (f g : Formula) → FormulaFits f → FormulaFits g → FormulaFits (roll-Formula (Formula-F.Implies f g))
  implies_fits f g a b = fold-roll-Formula Bool (fits_step modes values) (Formula-F.Implies f g) ∙ and_from (fits modes values f) (fits modes values g) a b

  iff_fits : (f g : Formula) → FormulaFits f → FormulaFits g → FormulaFits (roll-Formula (Formula-F.Iff f g))
  iff_fits f g a b = fold-roll-Formula Bool (fits_step modes values) (Formula-F.Iff f g) ∙ and_from (fits modes values f) (fits modes values g) a b

  pub some_conjuncts : (c : Conjunction) → 0 < length (conjuncts m c)
  some_conjuncts (Single part) = omega arith
  some_conjuncts (And front last) = omega (arith, length_push (conjuncts m front) (factor_formula m last))

  pub some_disjuncts : (d : Disjunction) → 0 < length (disjuncts m d)
  some_disjuncts (Case part) = omega arith
  some_disjuncts (Or front last) = omega (arith, length_push (disjuncts m front) (conjunction_formula m last))

  -- all names are declared
  abbrev pub Known : List Comparison → Type 0
  Known cs = list_any (is_unknown m) cs ≡ false

  pub known_both : (cs ds : List Comparison) → Known (cs ++ ds) → Known cs × Known ds
  known_both cs ds h = or_parts (list_any (is_unknown m) cs) (list_any (is_unknown m) ds) (sym (list_any-append (is_unknown m) cs ds) ∙ h)

  pub known_one : (name : List ℕ) (vs : List (List ℕ)) → Known (record { name = name; values = vs } ∷ []) → lacks_value m (subject_of m name) vs ≡ false
  known_one name vs h = (or_parts (lacks_value m (subject_of m name) vs) false h).0

  mutual
    factor_fits : (t : Factor) → Known (factor_comparisons t) → FormulaFits (factor_formula m t)
    factor_fits True h = fold-roll-Formula Bool (fits_step modes values) Formula-F.True
    factor_fits False h = fold-roll-Formula Bool (fits_step modes values) Formula-F.False
    factor_fits (Equal name value) h = among_fits (subject_of m name.text) value.text [] (known_one name.text (value.text ∷ []) h)
    factor_fits (Differs name value) h =
        not_fits (is_among m name.text (value.text ∷ [])) (among_fits (subject_of m name.text) value.text [] (known_one name.text (value.text ∷ []) h))
    factor_fits (In name first more) h = among_fits (subject_of m name.text) first.text (words more) (known_one name.text (words (first ∷ more)) h)
    factor_fits (Not part) h = not_fits (factor_formula m part) (factor_fits part h)
    factor_fits (Parens part) h = whole_fits part h

    conjuncts_fit : (c : Conjunction) → Known (conjunction_comparisons c) → AllFit (conjuncts m c)
    conjuncts_fit (Single part) h = and_from (fits modes values (factor_formula m part)) true (factor_fits part h) refl
    conjuncts_fit (And front last) h =
        let p = known_both (conjunction_comparisons front) (factor_comparisons last) h in
        all_fit_push (conjuncts m front) (factor_formula m last) (conjuncts_fit front p.0) (factor_fits last p.1)

    conjunction_fits : (c : Conjunction) → Known (conjunction_comparisons c) → FormulaFits (conjunction_formula m c)
    conjunction_fits (Single part) h = factor_fits part h
    conjunction_fits (And front last) h =
        let p = known_both (conjunction_comparisons front) (factor_comparisons last) h in
        all_fits (conjuncts m front) (factor_formula m last) (some_conjuncts front) (conjuncts_fit front p.0) (factor_fits last p.1)

    disjuncts_fit : (d : Disjunction) → Known (disjunction_comparisons d) → AllFit (disjuncts m d)
    disjuncts_fit (Case part) h = and_from (fits modes values (conjunction_formula m part)) true (conjunction_fits part h) refl
    disjuncts_fit (Or front last) h =
        let p = known_both (disjunction_comparisons front) (conjunction_comparisons last) h in
        all_fit_push (disjuncts m front) (conjunction_formula m last) (disjuncts_fit front p.0) (conjunction_fits last p.1)

    disjunction_fits : (d : Disjunction) → Known (disjunction_comparisons d) → FormulaFits (disjunction_formula m d)
    disjunction_fits (Case part) h = conjunction_fits part h
    disjunction_fits (Or front last) h =
        let p = known_both (disjunction_comparisons front) (conjunction_comparisons last) h in
        any_fits (disjuncts m front) (conjunction_formula m last) (some_disjuncts front) (disjuncts_fit front p.0) (conjunction_fits last p.1)

    pub whole_fits : (t : Whole) → Known (whole_comparisons t) → FormulaFits (whole_formula m t)
    whole_fits (Plain part) h = disjunction_fits part h
    whole_fits (Implies a b) h =
        let p = known_both (disjunction_comparisons a) (disjunction_comparisons b) h in
        implies_fits (disjunction_formula m a) (disjunction_formula m b) (disjunction_fits a p.0) (disjunction_fits b p.1)
    whole_fits (Iff a b) h =
        let p = known_both (disjunction_comparisons a) (disjunction_comparisons b) h in
        iff_fits (disjunction_formula m a) (disjunction_formula m b) (disjunction_fits a p.0) (disjunction_fits b p.1)
