-- The printed text of a formula is no deeper than a text that spells it.
use Rattle.std.proofs.Common.{◌≡◌, ℕ, ◌+◌, ◌≤◌, true, false, cond, List, [], ◌∷◌, ◌++◌, map, Option, Some, None, inl, inr, ap, ◌∙◌, arith}
use Rattle.std.specs.Prelude.{nat_le, max}
use Rattle.std.proofs.lemmas.Bool.{le-leb, leb-true, cases_Bool}
use Rattle.std.proofs.lemmas.List.{map_push}
use Rattle.cca_base.specs.declared.formula.Formula.{Formula, roll-Formula}
use Rattle.cca_base.specs.declared.formula.Formula.TheOpen.{Formula-F}
use Rattle.cca_base.specs.declared.formula.Formula.TheFolds.{fold-Formula, fold-roll-Formula}
use Rattle.cca_base.specs.declared.formula.Subject.{Subject}
use Rattle.cca_base.specs.PlantModel.{PlantModel}
use Rattle.cca_base.specs.Formula.{Printed, part_depth, deepest, printed_step, depth}
use Rattle.formula_syntax.specs.Grammar.{Factor, Conjunction, Disjunction, Whole, True, False, Equal, Differs, In, Not, Parens, Single, And, Case, Or, Plain, Implies, Iff}
use Rattle.formula_syntax.specs.Lookups.{subject_of}
use Rattle.formula_syntax.specs.Meanings.{words, has_among, is_among, factor_depth, deepest_factor, conjunction_depth, deepest_case, disjunction_depth, whole_depth, factor_formula, conjuncts, conjunction_formula, disjuncts, disjunction_formula, whole_formula}

-- a formula's printed text
abbrev printed : Formula → Printed
printed = fold-Formula Printed printed_step

-- the depth of a part, in parentheses where it binds too loosely
abbrev part : ℕ → Formula → ℕ
part allowed f = part_depth allowed (printed f)

part_is : (allowed : ℕ) (f : Formula) (p : Printed) → printed f ≡ p → part allowed f ≡ part_depth allowed p
part_is allowed f p e = ap (part_depth allowed) e

depth_at_most : (allowed : ℕ) (p : Printed) → p.depth ≤ part_depth allowed p
depth_at_most allowed p = elim (nat_le p.precedence allowed) as (λ b. p.depth ≤ (cond b p.depth (p.depth + 1))) [ true ↦ omega arith | false ↦ omega arith ]

one_more_at_most : (allowed : ℕ) (p : Printed) → part_depth allowed p ≤ p.depth + 1
one_more_at_most allowed p = elim (nat_le p.precedence allowed) as (λ b. cond b p.depth (p.depth + 1) ≤ p.depth + 1) [ true ↦ omega arith | false ↦ omega arith ]

-- what may bind more loosely needs no more parentheses
looser : (a b : ℕ) (p : Printed) → a ≤ b → part_depth b p ≤ part_depth a p
looser a b p h = elim (cases_Bool (nat_le p.precedence a)) [
  | inl e ↦
      let f : nat_le p.precedence b ≡ true = le-leb p.precedence b (let l = leb-true p.precedence a e in omega (arith, l)) in
      rw (e, f) (omega arith)
  | inr e ↦ rw e (one_more_at_most b p)
]

-- the depth of a negation, of lists of parts and of two parts
not_depth : (f : Formula) → part 0 (roll-Formula (Formula-F.Not f)) ≡ 1 + part 0 f
not_depth f = part_is 0 (roll-Formula (Formula-F.Not f)) _ (fold-roll-Formula Printed printed_step (Formula-F.Not f))

all_depth : (fs : List Formula) → part 1 (roll-Formula (Formula-F.All fs)) ≡ 1 + deepest 0 (map printed fs)
all_depth fs = part_is 1 (roll-Formula (Formula-F.All fs)) _ (fold-roll-Formula Printed printed_step (Formula-F.All fs))

any_depth : (fs : List Formula) → part 2 (roll-Formula (Formula-F.Any fs)) ≡ 1 + deepest 1 (map printed fs)
any_depth fs = part_is 2 (roll-Formula (Formula-F.Any fs)) _ (fold-roll-Formula Printed printed_step (Formula-F.Any fs))

implies_depth : (f g : Formula) → (printed (roll-Formula (Formula-F.Implies f g))).depth ≡ 1 + max (part 2 f) (part 2 g)
implies_depth f g = ap (λ (p : Printed). p.depth) (fold-roll-Formula Printed printed_step (Formula-F.Implies f g))

iff_depth : (f g : Formula) → (printed (roll-Formula (Formula-F.Iff f g))).depth ≡ 1 + max (part 2 f) (part 2 g)
iff_depth f g = ap (λ (p : Printed). p.depth) (fold-roll-Formula Printed printed_step (Formula-F.Iff f g))

true_depth : part 0 (roll-Formula Formula-F.True) ≡ 1
true_depth = part_is 0 (roll-Formula Formula-F.True) _ (fold-roll-Formula Printed printed_step Formula-F.True)

false_depth : part 0 (roll-Formula Formula-F.False) ≡ 1
false_depth = part_is 0 (roll-Formula Formula-F.False) _ (fold-roll-Formula Printed printed_step Formula-F.False)

deepest_push : (allowed : ℕ) (ps : List Printed) (p : Printed) → deepest allowed (ps ++ p ∷ []) ≡ max (deepest allowed ps) (part_depth allowed p)
deepest_push allowed [] p = omega arith
deepest_push allowed (q ∷ ps) p = let ih = deepest_push allowed ps p in omega (arith, ih)

deepest_with : (allowed : ℕ) (fs : List Formula) (f : Formula) → deepest allowed (map printed (fs ++ f ∷ [])) ≡ max (deepest allowed (map printed fs)) (part allowed f)
deepest_with allowed fs f = ap (deepest allowed) (map_push printed fs f) ∙ deepest_push allowed (map printed fs) (printed f)

-- one part more
one_more : (allowed : ℕ) (fs : List Formula) (f : Formula) (a b : ℕ) → deepest allowed (map printed fs) ≤ a → part allowed f ≤ b → deepest allowed (map printed (fs ++ f ∷ [])) ≤ max a b
one_more allowed fs f a b front last = let e = deepest_with allowed fs f in omega (arith, e, front, last)

module _ (m : PlantModel) where
  among_depth : (o : Option Subject) (vs : List (List ℕ)) → part 0 (has_among m o vs) ≡ 1
  among_depth None vs = false_depth
  among_depth (Some s) vs = part_is 0 (has_among m (Some s) vs) _ (fold-roll-Formula Printed printed_step (Formula-F.Among s _))

  mutual
    factor_printed : (t : Factor) → part 0 (factor_formula m t) ≤ factor_depth t
    factor_printed True = let e = true_depth in omega (arith, e)
    factor_printed False = let e = false_depth in omega (arith, e)
    factor_printed (Equal name value) = let e = among_depth (subject_of m name.text) (value.text ∷ []) in omega (arith, e)
    factor_printed (Differs name value) =
        let e = among_depth (subject_of m name.text) (value.text ∷ []) in
        let n = not_depth (is_among m name.text (value.text ∷ [])) in
        omega (arith, e, n)
    factor_printed (In name first more) = let e = among_depth (subject_of m name.text) (words (first ∷ more)) in omega (arith, e)
    factor_printed (Not p) = let n = not_depth (factor_formula m p) in let ih = factor_printed p in omega (arith, n, ih)
    factor_printed (Parens p) = let ih = whole_printed p in let o = one_more_at_most 0 (printed (whole_formula m p)) in omega (arith, ih, o)

    conjuncts_printed : (c : Conjunction) → deepest 0 (map printed (conjuncts m c)) ≤ deepest_factor c
    conjuncts_printed (Single p) = let ih = factor_printed p in omega (arith, ih)
    conjuncts_printed (And front last) = one_more 0 (conjuncts m front) (factor_formula m last) _ _ (conjuncts_printed front) (factor_printed last)

    conjunction_printed : (c : Conjunction) → part 1 (conjunction_formula m c) ≤ conjunction_depth c
    conjunction_printed (Single p) = let ih = factor_printed p in let l = looser 0 1 (printed (factor_formula m p)) (omega arith) in omega (arith, ih, l)
    conjunction_printed (And front last) =
        let d = all_depth (conjuncts m (And front last)) in
        let most = one_more 0 (conjuncts m front) (factor_formula m last) _ _ (conjuncts_printed front) (factor_printed last) in
        omega (arith, d, most)

    disjuncts_printed : (d : Disjunction) → deepest 1 (map printed (disjuncts m d)) ≤ deepest_case d
    disjuncts_printed (Case p) = let ih = conjunction_printed p in omega (arith, ih)
    disjuncts_printed (Or front last) = one_more 1 (disjuncts m front) (conjunction_formula m last) _ _ (disjuncts_printed front) (conjunction_printed last)

    disjunction_printed : (d : Disjunction) → part 2 (disjunction_formula m d) ≤ disjunction_depth d
    disjunction_printed (Case p) = let ih = conjunction_printed p in let l = looser 1 2 (printed (conjunction_formula m p)) (omega arith) in omega (arith, ih, l)
    disjunction_printed (Or front last) =
        let d = any_depth (disjuncts m (Or front last)) in
        let most = one_more 1 (disjuncts m front) (conjunction_formula m last) _ _ (disjuncts_printed front) (conjunction_printed last) in
        omega (arith, d, most)

    pub whole_printed : (t : Whole) → depth (whole_formula m t) ≤ whole_depth t
    whole_printed (Plain p) = let ih = disjunction_printed p in let d = depth_at_most 2 (printed (disjunction_formula m p)) in omega (arith, ih, d)
    whole_printed (Implies a b) =
        let d = implies_depth (disjunction_formula m a) (disjunction_formula m b) in
        let x = disjunction_printed a in
        let y = disjunction_printed b in
        omega (arith, d, x, y)
    whole_printed (Iff a b) =
        let d = iff_depth (disjunction_formula m a) (disjunction_formula m b) in
        let x = disjunction_printed a in
        let y = disjunction_printed b in
        omega (arith, d, x, y)
