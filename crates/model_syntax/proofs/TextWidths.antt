-- A printed formula is no longer than the text from which it was read.
use Rattle.std.proofs.Common.{◌≡◌, ℕ, ◌<◌, true, false, not, List, [], ◌∷◌, ◌++◌, length, map, codes, Option, Some, None, refl, sym, ap, ◌∙◌, arith}
use Rattle.std.specs.Prelude.{is_some}
use Rattle.std.proofs.lemmas.List.{map_push, length-map}
use Rattle.std.proofs.lemmas.Bool.{or_parts, not-false}
use Rattle.cca_base.specs.declared.formula.Formula.{Formula, roll-Formula}
use Rattle.cca_base.specs.declared.formula.Formula.TheOpen.{Formula-F}
use Rattle.cca_base.specs.declared.formula.Formula.TheFolds.{fold-roll-Formula, map-Formula}
use Rattle.cca_base.specs.declared.formula.Subject.{Subject}
use Rattle.cca_base.specs.PlantModel.{PlantModel}
use Rattle.text_base.specs.Lexemes.{Lexeme, word, symbol}
use Rattle.formula_syntax.specs.Grammar.{NameWord, Factor, Conjunction, Disjunction, Whole, True, False, Equal, Differs, In, Not, Parens, Single, And, Case, Or, Plain, Implies, Iff, factor_spelled, conjunction_spelled, disjunction_spelled, whole_spelled}
use Rattle.formula_syntax.specs.Lookups.{subject_of, value_of, choices_of}
use Rattle.formula_syntax.specs.Meanings.{words, lacks_value, with_numbers, has_among, is_among, factor_comparisons, conjunction_comparisons, disjunction_comparisons, whole_comparisons, factor_formula, conjuncts, conjunction_formula, disjuncts, disjunction_formula, whole_formula}
use Rattle.model_syntax.specs.Printing.{Said, part_said, parts_said, names_in, name_of, among_said, said_step, formula_said}
use Rattle.model_syntax.proofs.Widths.{NoLonger, same_tokens, through, behind, both_sides, part_enclosed, part_bare, part_raised}
use Rattle.model_syntax.proofs.SetWidths.{tally, set_tally, one_text}
use Rattle.model_syntax.proofs.SaidWidths.{said, formula_denied, values_width, among_width}
use Rattle.model_syntax.proofs.SubjectNames.{subject_name}
use Rattle.formula_syntax.proofs.Spellings.{append_twice, conjunction_apart, disjunction_apart, whole_apart}
use Rattle.formula_syntax.proofs.TextFormulas.{Known, known_both, known_one, some_conjuncts, some_disjuncts}

-- ---- atoms

module _ (m : PlantModel) where
  -- the printed form of an atom
  abbrev atom_said : Subject → List (List ℕ) → Said
  atom_said s texts = among_said (name_of m s) (names_in 0 (choices_of m s) (with_numbers m s 0 texts))

  among_is : (s : Subject) (texts : List (List ℕ)) → said m (has_among m (Some s) texts) ≡ atom_said s texts
  among_is s texts = fold-roll-Formula Said (said_step m) (Formula-F.Among s (with_numbers m s 0 texts))

  -- one value is printed by its name
  equal_from : (name text : List ℕ) (o : Option Subject) → subject_of m name ≡ o → lacks_value m o (text ∷ []) ≡ false → said m (has_among m o (text ∷ [])) ≡ among_said name (text ∷ [])
  equal_from name text None e h = absurd cc
  equal_from name text (Some s) e h =
      let found = not-false (is_some (value_of m s text)) (or_parts (not (is_some (value_of m s text))) false h).0 in
      among_is s (text ∷ []) ∙ ap (λ (x : List ℕ). among_said x (names_in 0 (choices_of m s) (with_numbers m s 0 (text ∷ [])))) (subject_name m name s e)
      ∙ ap (among_said name) (value_named (value_of m s text) refl found)
    where
      value_named : (o : Option ℕ) → value_of m s text ≡ o → is_some o ≡ true → names_in 0 (choices_of m s) (with_numbers m s 0 (text ∷ [])) ≡ text ∷ []
      value_named None e h = absurd cc
      value_named (Some k) e h = one_text m s text k e

  equal_said : (name value : NameWord) → Known m (record { name = name.text; values = value.text ∷ [] } ∷ []) → said m (is_among m name.text (value.text ∷ [])) ≡ among_said name.text (value.text ∷ [])
  equal_said name value h = equal_from name.text value.text (subject_of m name.text) refl (known_one m name.text (value.text ∷ []) h)

  in_from : (name first : NameWord) (more : List NameWord) (o : Option Subject) → subject_of m name.text ≡ o → lacks_value m o (words (first ∷ more)) ≡ false
      → NoLonger (part_said 0 (said m (has_among m o (words (first ∷ more))))) (factor_spelled (In name first more) [])
  in_from name first more None e h = absurd cc
  in_from name first more (Some s) e h =
      let tokens = (among_said name.text names).tokens in
      let is : said m (has_among m (Some s) (words (first ∷ more))) ≡ among_said name.text names = among_is s (words (first ∷ more)) ∙ ap (λ (x : List ℕ). among_said x names) (subject_name m name.text s e) in
      let printed = part_said 0 (said m (has_among m (Some s) (words (first ∷ more)))) in
      through printed tokens (factor_spelled (In name first more) []) (same_tokens printed tokens (ap (part_said 0) is ∙ among_tight name.text names)) at_most
    where
      names : List (List ℕ)
      names = names_in 0 (choices_of m s) (with_numbers m s 0 (words (first ∷ more)))

      among_tight : (name : List ℕ) (names : List (List ℕ)) → part_said 0 (among_said name names) ≡ (among_said name names).tokens
      among_tight name [] = refl
      among_tight name (value ∷ []) = refl
      among_tight name (value ∷ next ∷ values) = refl

      at_most : NoLonger (among_said name.text names).tokens (factor_spelled (In name first more) [])
      at_most l r = omega (arith, values_width more r, among_width name.text names (tally (words (first ∷ more))) l r (omega arith) (set_tally m s (words (first ∷ more))))

  -- ---- parts with a word between them

  parts_push : (allowed : ℕ) (by : Lexeme) (parts : List Said) (last : Said) → 0 < length parts → parts_said allowed by (parts ++ last ∷ []) ≡ parts_said allowed by parts ++ by ∷ part_said allowed last
  parts_push allowed by [] last h = absurd (omega arith)
  parts_push allowed by (part ∷ []) last h = refl
  parts_push allowed by (part ∷ next ∷ parts) last h =
      ap (λ (x : List Lexeme). part_said allowed part ++ by ∷ x) (parts_push allowed by (next ∷ parts) last (omega arith))
      ∙ sym (append_twice (part_said allowed part) (parts_said allowed by (next ∷ parts)) (by ∷ part_said allowed last) by)

  -- the parts' printed forms
  abbrev joint : ℕ → Lexeme → List Formula → List Lexeme
  joint allowed by fs = parts_said allowed by (map (said m) fs)

  joint_push : (allowed : ℕ) (by : Lexeme) (fs : List Formula) (f : Formula) (a b : List Lexeme)
      → 0 < length fs → NoLonger (joint allowed by fs) a → NoLonger (part_said allowed (said m f)) b → NoLonger (joint allowed by (fs ++ f ∷ [])) (a ++ by ∷ b)
  joint_push allowed by fs f a b some h g =
      let e : joint allowed by (fs ++ f ∷ []) ≡ joint allowed by fs ++ by ∷ part_said allowed (said m f) =
      ap (parts_said allowed by) (map_push (said m) fs f) ∙ parts_push allowed by (map (said m) fs) (said m f) (omega (arith, some, length-map fs (said m)))
      in
      rw e (both_sides by (joint allowed by fs) a (part_said allowed (said m f)) b h g)

  -- ---- texts

  abbrev FactorFits : Factor → Type 0
  FactorFits t = NoLonger (part_said 0 (said m (factor_formula m t))) (factor_spelled t [])

  abbrev ConjunctionFits : Conjunction → Type 0
  ConjunctionFits c = NoLonger (part_said 1 (said m (conjunction_formula m c))) (conjunction_spelled c [])

  abbrev DisjunctionFits : Disjunction → Type 0
  DisjunctionFits d = NoLonger (part_said 2 (said m (disjunction_formula m d))) (disjunction_spelled d [])

  abbrev WholeFits : Whole → Type 0
  WholeFits w = NoLonger (formula_said m (whole_formula m w)) (whole_spelled w [])

  not_fits : (part : Factor) → FactorFits part → FactorFits (Not part)
  not_fits part h =
      let s = said m (factor_formula m part) in
      rw (fold-roll-Formula Said (said_step m) (Formula-F.Not (factor_formula m part)))
      (through s.denied (word (codes "not") ∷ part_said 0 s) (word (codes "not") ∷ factor_spelled part []) (formula_denied m (factor_formula m part)) (behind (word (codes "not")) (part_said 0 s) (factor_spelled part []) h))

  parens_fit : (part : Whole) → WholeFits part → FactorFits (Parens part)
  parens_fit part h = rw (whole_apart part (symbol (codes ")") ∷ [])) (part_enclosed 0 (said m (whole_formula m part)) (whole_spelled part []) h)

  and_fits : (front : Conjunction) (last : Factor) → NoLonger (joint 0 (word (codes "and")) (conjuncts m front)) (conjunction_spelled front []) → FactorFits last
      → NoLonger (joint 0 (word (codes "and")) (conjuncts m front ++ factor_formula m last ∷ [])) (conjunction_spelled (And front last) [])
  and_fits front last h g =
      rw (conjunction_apart front (word (codes "and") ∷ factor_spelled last []))
      (joint_push 0 (word (codes "and")) (conjuncts m front) (factor_formula m last) (conjunction_spelled front []) (factor_spelled last []) (some_conjuncts m front) h g)

  or_fits : (front : Disjunction) (last : Conjunction) → NoLonger (joint 1 (word (codes "or")) (disjuncts m front)) (disjunction_spelled front []) → ConjunctionFits last
      → NoLonger (joint 1 (word (codes "or")) (disjuncts m front ++ conjunction_formula m last ∷ [])) (disjunction_spelled (Or front last) [])
  or_fits front last h g =
      rw (disjunction_apart front (word (codes "or") ∷ conjunction_spelled last []))
      (joint_push 1 (word (codes "or")) (disjuncts m front) (conjunction_formula m last) (disjunction_spelled front []) (conjunction_spelled last []) (some_disjuncts m front) h g)

  link_fits : (a b : Disjunction) (by : Lexeme) → DisjunctionFits a → DisjunctionFits b
      → NoLonger (part_said 2 (said m (disjunction_formula m a)) ++ by ∷ part_said 2 (said m (disjunction_formula m b))) (disjunction_spelled a (by ∷ disjunction_spelled b []))
  link_fits a b by h g =
      rw (disjunction_apart a (by ∷ disjunction_spelled b []))
      (both_sides by (part_said 2 (said m (disjunction_formula m a))) (disjunction_spelled a []) (part_said 2 (said m (disjunction_formula m b))) (disjunction_spelled b []) h g)

  -- what is printed of a layer
  rolled : (x : Formula-F Formula) (b : List Lexeme) → NoLonger (said_step m (map-Formula Formula Said (said m) x)).tokens b → NoLonger (formula_said m (roll-Formula x)) b
  rolled x b h =
      let layer : List Lexeme = (said_step m (map-Formula Formula Said (said m) x)).tokens in
      let e : formula_said m (roll-Formula x) ≡ layer = ap (λ (s : Said). s.tokens) (fold-roll-Formula Said (said_step m) x) in
      through (formula_said m (roll-Formula x)) layer b (same_tokens (formula_said m (roll-Formula x)) layer e) h

  mutual
    factor_fits : (t : Factor) → Known m (factor_comparisons t) → FactorFits t
    factor_fits True h = rw (fold-roll-Formula Said (said_step m) Formula-F.True) (same_tokens (word (codes "true") ∷ []) (word (codes "true") ∷ []) refl)
    factor_fits False h = rw (fold-roll-Formula Said (said_step m) Formula-F.False) (same_tokens (word (codes "false") ∷ []) (word (codes "false") ∷ []) refl)
    factor_fits (Equal name value) h = let s = factor_spelled (Equal name value) [] in rw (equal_said name value h) (same_tokens s s refl)
    factor_fits (Differs name value) h =
        let s = factor_spelled (Differs name value) [] in
        rw (fold-roll-Formula Said (said_step m) (Formula-F.Not (is_among m name.text (value.text ∷ [])))) (rw (equal_said name value h) (same_tokens s s refl))
    factor_fits (In name first more) h = in_from name first more (subject_of m name.text) refl (known_one m name.text (words (first ∷ more)) h)
    factor_fits (Not part) h = not_fits part (factor_fits part h)
    factor_fits (Parens part) h = parens_fit part (whole_fits part h)

    conjuncts_fit : (c : Conjunction) → Known m (conjunction_comparisons c) → NoLonger (joint 0 (word (codes "and")) (conjuncts m c)) (conjunction_spelled c [])
    conjuncts_fit (Single part) h = factor_fits part h
    conjuncts_fit (And front last) h =
        let p = known_both m (conjunction_comparisons front) (factor_comparisons last) h in
        and_fits front last (conjuncts_fit front p.0) (factor_fits last p.1)

    conjunction_fits : (c : Conjunction) → Known m (conjunction_comparisons c) → ConjunctionFits c
    conjunction_fits (Single part) h =
        let s = said m (factor_formula m part) in
        through (part_said 1 s) (part_said 0 s) (factor_spelled part []) (part_raised 0 1 s (omega arith)) (factor_fits part h)
    conjunction_fits (And front last) h =
        let p = known_both m (conjunction_comparisons front) (factor_comparisons last) h in
        rw (fold-roll-Formula Said (said_step m) (Formula-F.All (conjuncts m front ++ factor_formula m last ∷ []))) (and_fits front last (conjuncts_fit front p.0) (factor_fits last p.1))

    disjuncts_fit : (d : Disjunction) → Known m (disjunction_comparisons d) → NoLonger (joint 1 (word (codes "or")) (disjuncts m d)) (disjunction_spelled d [])
    disjuncts_fit (Case part) h = conjunction_fits part h
    disjuncts_fit (Or front last) h =
        let p = known_both m (disjunction_comparisons front) (conjunction_comparisons last) h in
        or_fits front last (disjuncts_fit front p.0) (conjunction_fits last p.1)

    disjunction_fits : (d : Disjunction) → Known m (disjunction_comparisons d) → DisjunctionFits d
    disjunction_fits (Case part) h =
        let s = said m (conjunction_formula m part) in
        through (part_said 2 s) (part_said 1 s) (conjunction_spelled part []) (part_raised 1 2 s (omega arith)) (conjunction_fits part h)
    disjunction_fits (Or front last) h =
        let p = known_both m (disjunction_comparisons front) (conjunction_comparisons last) h in
        rw (fold-roll-Formula Said (said_step m) (Formula-F.Any (disjuncts m front ++ conjunction_formula m last ∷ []))) (or_fits front last (disjuncts_fit front p.0) (conjunction_fits last p.1))

    pub whole_fits : (w : Whole) → Known m (whole_comparisons w) → WholeFits w
    whole_fits (Plain part) h =
        let s = said m (disjunction_formula m part) in
        through s.tokens (part_said 2 s) (disjunction_spelled part []) (part_bare 2 s) (disjunction_fits part h)
    whole_fits (Implies a b) h =
        let p = known_both m (disjunction_comparisons a) (disjunction_comparisons b) h in
        rolled (Formula-F.Implies (disjunction_formula m a) (disjunction_formula m b)) (whole_spelled (Implies a b) []) (link_fits a b (word (codes "implies")) (disjunction_fits a p.0) (disjunction_fits b p.1))
    whole_fits (Iff a b) h =
        let p = known_both m (disjunction_comparisons a) (disjunction_comparisons b) h in
        rolled (Formula-F.Iff (disjunction_formula m a) (disjunction_formula m b)) (whole_spelled (Iff a b) []) (link_fits a b (word (codes "iff")) (disjunction_fits a p.0) (disjunction_fits b p.1))
