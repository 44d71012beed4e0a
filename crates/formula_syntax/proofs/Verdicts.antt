-- What is read part by part is the least code of what is wrong, or the formula.
use Rattle.std.proofs.Common.{◌≡◌, ℕ, ◌+◌, ◌<◌, ◌≤◌, Bool, true, false, cond, ◌||◌, ◌&&◌, List, [], ◌∷◌, ◌++◌, inl, inr, refl, sym, ap, ◌∙◌, arith}
use Rattle.std.specs.Prelude.{nat_lt, max}
use Rattle.std.specs.List.{list_any}
use Rattle.std.proofs.Math.Bool.{or-false}
use Rattle.std.proofs.lemmas.Bool.{lt-ltb, cases_lt, le-ltb}
use Rattle.std.proofs.lemmas.List.Folds.{list_any-append}
use Rattle.cca_base.specs.declared.formula.Formula.{Formula, roll-Formula}
use Rattle.cca_base.specs.declared.formula.Formula.TheOpen.{Formula-F}
use Rattle.cca_base.specs.declared.limits.TheConstants.{MAX_DEPTH}
use Rattle.cca_base.specs.PlantModel.{PlantModel}
use Rattle.formula_syntax.specs.declared.read_part.ReadPart.{ReadPart}
use Rattle.formula_syntax.specs.declared.read_part.ReadPart.TheVariants.{Sound, Faulty}
use Rattle.formula_syntax.specs.declared.read_parts.ReadParts.{ReadParts}
use Rattle.formula_syntax.specs.declared.read_parts.ReadParts.TheVariants as parts
use Rattle.formula_syntax.specs.declared.formula_parser.Connective.{Connective}
use Rattle.formula_syntax.specs.declared.formula_parser.Connective.TheVariants as link
use Rattle.formula_syntax.specs.Grammar.{NameWord, Factor, Conjunction, Disjunction, Whole, True, False, Equal, Differs, In, Not, Parens, Single, And, Case, Or, Plain, Implies, Iff}
use Rattle.formula_syntax.specs.declared.formula_parser.Junction.{Junction}
use Rattle.formula_syntax.specs.declared.formula_parser.Junction.TheVariants as junction
use Rattle.formula_syntax.specs.ReadParts.{deeper, negated, enclosed, link_of, linked, one, more, joined, all_of, any_of, among, named}
use Rattle.formula_syntax.specs.Meanings.{Comparison, words, is_unknown, has_twice, is_among, verdict, reading_of, factor_depth, deepest_factor, conjunction_depth, deepest_case, disjunction_depth, whole_depth, factor_comparisons, conjunction_comparisons, disjunction_comparisons, whole_comparisons, factor_formula, conjuncts, conjunction_formula, disjuncts, disjunction_formula, whole_formula}
use Rattle.formula_syntax.proofs.TextReadings.{with_values, factor_read, conjunction_read, disjunction_read, whole_read}
use Rattle.formula_syntax.proofs.Comparisons.{comparison_is_read}

-- ---- depths

abbrev deep : ℕ → Bool
deep d = nat_lt MAX_DEPTH d

deep_true : (d : ℕ) → MAX_DEPTH < d → deep d ≡ true
deep_true d h = lt-ltb MAX_DEPTH d h

deep_false : (d : ℕ) → d ≤ MAX_DEPTH → deep d ≡ false
deep_false d h = le-ltb MAX_DEPTH d h

deep_max : (d e : ℕ) → (deep d || deep e) ≡ deep (max d e)
deep_max d e = elim (cases_lt MAX_DEPTH d) [
  | inl a ↦ ap (λ (b : Bool). b || deep e) (deep_true d a) ∙ sym (deep_true (max d e) (omega arith))
  | inr a ↦ ap (λ (b : Bool). b || deep e) (deep_false d a) ∙ elim (cases_lt MAX_DEPTH e) [
    | inl b ↦ deep_true e b ∙ sym (deep_true (max d e) (omega arith))
    | inr b ↦ deep_false e b ∙ sym (deep_false (max d e) (omega arith))
  ]
]

deeper_verdict : (u r : Bool) (f : Formula) (d : ℕ) → verdict u r (deep d) (deeper f d) ≡ verdict u r (deep (d + 1)) (Sound f (d + 1))
deeper_verdict true r f d = refl
deeper_verdict false true f d = refl
deeper_verdict false false f d = elim (cases_lt MAX_DEPTH d) [
  | inl a ↦ rw (deep_true d a, deep_true (d + 1) (omega arith)) refl
  | inr a ↦ elim (cases_lt d MAX_DEPTH) [
    | inl b ↦ rw (deep_false d a, lt-ltb d MAX_DEPTH b, deep_false (d + 1) (omega arith)) refl
    | inr b ↦ rw (deep_false d a, le-ltb d MAX_DEPTH b, deep_true (d + 1) (omega arith)) refl
  ]
]

-- ---- one layer

negated_verdict : (u r p : Bool) (f : Formula) (d : ℕ) → negated (verdict u r p (Sound f d)) ≡ verdict u r p (deeper (roll-Formula (Formula-F.Not f)) d)
negated_verdict true r p f d = refl
negated_verdict false true p f d = refl
negated_verdict false false true f d = refl
negated_verdict false false false f d = refl

enclosed_verdict : (u r p : Bool) (f : Formula) (d : ℕ) → enclosed (verdict u r p (Sound f d)) ≡ verdict u r p (deeper f d)
enclosed_verdict true r p f d = refl
enclosed_verdict false true p f d = refl
enclosed_verdict false false true f d = refl
enclosed_verdict false false false f d = refl

linked_verdict : (l : Connective) (f g : Formula) (d e : ℕ) (u r p v s q : Bool) → linked l (verdict u r p (Sound f d)) (verdict v s q (Sound g e)) ≡ verdict (u || v) (r || s) (p || q) (deeper (link_of l f g) (max d e))
linked_verdict l f g d e true r p true s q = refl
linked_verdict l f g d e true r p false true q = refl
linked_verdict l f g d e true r p false false true = refl
linked_verdict l f g d e true r p false false false = refl
linked_verdict l f g d e false true p true s q = refl
linked_verdict l f g d e false true p false true q = refl
linked_verdict l f g d e false true p false false true = refl
linked_verdict l f g d e false true p false false false = refl
linked_verdict l f g d e false false true true s q = refl
linked_verdict l f g d e false false true false true q = refl
linked_verdict l f g d e false false true false false true = refl
linked_verdict l f g d e false false true false false false = refl
linked_verdict l f g d e false false false true s q = refl
linked_verdict l f g d e false false false false true q = refl
linked_verdict l f g d e false false false false false true = refl
linked_verdict l f g d e false false false false false false = refl

-- the same of parts
abbrev of_parts : Bool → Bool → Bool → ReadParts → ReadParts
of_parts u r p sound = cond u (parts.Faulty 2) (cond r (parts.Faulty 3) (cond p (parts.Faulty 4) sound))

one_verdict : (u r p : Bool) (f : Formula) (d : ℕ) → one (verdict u r p (Sound f d)) ≡ of_parts u r p (parts.One f d)
one_verdict true r p f d = refl
one_verdict false true p f d = refl
one_verdict false false true f d = refl
one_verdict false false false f d = refl

more_verdict : (front : ReadParts) (g : Formula) (e : ℕ) → ((c : ℕ) → more front (Faulty c) ≡ parts.Faulty c) → (u r p v s q : Bool)
    → more (of_parts u r p front) (verdict v s q (Sound g e)) ≡ of_parts (u || v) (r || s) (p || q) (more front (Sound g e))
more_verdict front g e h true r p true s q = refl
more_verdict front g e h true r p false true q = refl
more_verdict front g e h true r p false false true = refl
more_verdict front g e h true r p false false false = refl
more_verdict front g e h false true p true s q = refl
more_verdict front g e h false true p false true q = refl
more_verdict front g e h false true p false false true = refl
more_verdict front g e h false true p false false false = refl
more_verdict front g e h false false true true s q = refl
more_verdict front g e h false false true false true q = refl
more_verdict front g e h false false true false false true = refl
more_verdict front g e h false false true false false false = refl
more_verdict front g e h false false false true s q = h 2
more_verdict front g e h false false false false true q = h 3
more_verdict front g e h false false false false false true = h 4
more_verdict front g e h false false false false false false = refl

joined_verdict : (j : Junction) (u r p : Bool) (front : ReadParts) → joined j (of_parts u r p front) ≡ verdict u r p (joined j front)
joined_verdict j true r p front = refl
joined_verdict j false true p front = refl
joined_verdict j false false true front = refl
joined_verdict j false false false front = refl

twice_only : (strict : Bool) (cs : List Comparison) → list_any (λ c. strict && has_twice c.values) cs ≡ (strict && list_any (λ c. has_twice c.values) cs)
twice_only true cs = refl
twice_only false [] = refl
twice_only false (c ∷ cs) = twice_only false cs

module _ (strict : Bool) (m : PlantModel) where
  abbrev unknown : List Comparison → Bool
  unknown cs = list_any (is_unknown m) cs

  abbrev twice : List Comparison → Bool
  twice cs = list_any (λ c. strict && has_twice c.values) cs

  -- what is wrong with comparisons, or this
  abbrev judged : List Comparison → ℕ → ReadPart → ReadPart
  judged cs d sound = verdict (unknown cs) (twice cs) (deep d) sound

  abbrev judged_parts : List Comparison → ℕ → ReadParts → ReadParts
  judged_parts cs d sound = of_parts (unknown cs) (twice cs) (deep d) sound

  judged_more : (cs ds : List Comparison) (d e : ℕ) (front : ReadParts) (g : Formula) → ((c : ℕ) → more front (Faulty c) ≡ parts.Faulty c)
      → more (judged_parts cs d front) (judged ds e (Sound g e)) ≡ judged_parts (cs ++ ds) (max d e) (more front (Sound g e))
  judged_more cs ds d e front g h =
      more_verdict front g e h (unknown cs) (twice cs) (deep d) (unknown ds) (twice ds) (deep e)
      ∙ ap (λ (b : Bool). of_parts b (twice cs || twice ds) (deep d || deep e) (more front (Sound g e))) (sym (list_any-append (is_unknown m) cs ds))
      ∙ ap (λ (b : Bool). of_parts (unknown (cs ++ ds)) b (deep d || deep e) (more front (Sound g e))) (sym (list_any-append (λ c. strict && has_twice c.values) cs ds))
      ∙ ap (λ (b : Bool). of_parts (unknown (cs ++ ds)) (twice (cs ++ ds)) b (more front (Sound g e))) (deep_max d e)

  judged_linked : (l : Connective) (cs ds : List Comparison) (d e : ℕ) (f g : Formula)
      → linked l (judged cs d (Sound f d)) (judged ds e (Sound g e)) ≡ judged (cs ++ ds) (max d e + 1) (Sound (link_of l f g) (max d e + 1))
  judged_linked l cs ds d e f g =
      linked_verdict l f g d e (unknown cs) (twice cs) (deep d) (unknown ds) (twice ds) (deep e)
      ∙ ap (λ (b : Bool). verdict b (twice cs || twice ds) (deep d || deep e) (deeper (link_of l f g) (max d e))) (sym (list_any-append (is_unknown m) cs ds))
      ∙ ap (λ (b : Bool). verdict (unknown (cs ++ ds)) b (deep d || deep e) (deeper (link_of l f g) (max d e))) (sym (list_any-append (λ c. strict && has_twice c.values) cs ds))
      ∙ ap (λ (b : Bool). verdict (unknown (cs ++ ds)) (twice (cs ++ ds)) b (deeper (link_of l f g) (max d e))) (deep_max d e)
      ∙ deeper_verdict (unknown (cs ++ ds)) (twice (cs ++ ds)) (link_of l f g) (max d e)

  -- one comparison
  compared_verdict : (name : NameWord) (values : List NameWord) → let c : Comparison = record { name = name.text; values = words values } in
      among (with_values strict m (named m name.text) values) ≡ judged (c ∷ []) 1 (Sound (is_among m name.text (words values)) 1)
  compared_verdict name values =
      let c : Comparison = record { name = name.text; values = words values } in
      let f = is_among m name.text (words values) in
      comparison_is_read strict m name values
      ∙ ap (λ (b : Bool). verdict b (strict && has_twice (words values)) false (Sound f 1)) (sym (or-false (is_unknown m c)))
      ∙ ap (λ (b : Bool). verdict (unknown (c ∷ [])) b false (Sound f 1)) (sym (or-false (strict && has_twice (words values))))

  judged_not : (cs : List Comparison) (d : ℕ) (f : Formula) → negated (judged cs d (Sound f d)) ≡ judged cs (d + 1) (Sound (roll-Formula (Formula-F.Not f)) (d + 1))
  judged_not cs d f = negated_verdict (unknown cs) (twice cs) (deep d) f d ∙ deeper_verdict (unknown cs) (twice cs) (roll-Formula (Formula-F.Not f)) d

  judged_enclosed : (cs : List Comparison) (d : ℕ) (f : Formula) → enclosed (judged cs d (Sound f d)) ≡ judged cs (d + 1) (Sound f (d + 1))
  judged_enclosed cs d f = enclosed_verdict (unknown cs) (twice cs) (deep d) f d ∙ deeper_verdict (unknown cs) (twice cs) f d

  -- the parts of a conjunction, and of a disjunction
  abbrev conjunction_parts : Conjunction → ReadParts
  conjunction_parts (Single part) = parts.One (factor_formula m part) (factor_depth part)
  conjunction_parts (And front last) = parts.Many (conjuncts m front ++ factor_formula m last ∷ []) (max (deepest_factor front) (factor_depth last))

  abbrev disjunction_parts : Disjunction → ReadParts
  disjunction_parts (Case part) = parts.One (conjunction_formula m part) (conjunction_depth part)
  disjunction_parts (Or front last) = parts.Many (disjuncts m front ++ conjunction_formula m last ∷ []) (max (deepest_case front) (conjunction_depth last))

  fault_last : (c : Conjunction) (code : ℕ) → more (conjunction_parts c) (Faulty code) ≡ parts.Faulty code
  fault_last (Single part) code = refl
  fault_last (And front last) code = refl

  fault_last_case : (d : Disjunction) (code : ℕ) → more (disjunction_parts d) (Faulty code) ≡ parts.Faulty code
  fault_last_case (Case part) code = refl
  fault_last_case (Or front last) code = refl

  one_more : (front : Conjunction) (last : Factor) → more (conjunction_parts front) (Sound (factor_formula m last) (factor_depth last)) ≡ conjunction_parts (And front last)
  one_more (Single part) last = refl
  one_more (And front middle) last = refl

  one_more_case : (front : Disjunction) (last : Conjunction) → more (disjunction_parts front) (Sound (conjunction_formula m last) (conjunction_depth last)) ≡ disjunction_parts (Or front last)
  one_more_case (Case part) last = refl
  one_more_case (Or front middle) last = refl

  abbrev judged_factor : Factor → ReadPart
  judged_factor t = judged (factor_comparisons t) (factor_depth t) (Sound (factor_formula m t) (factor_depth t))

  abbrev judged_conjunction : Conjunction → ReadParts
  judged_conjunction c = judged_parts (conjunction_comparisons c) (deepest_factor c) (conjunction_parts c)

  abbrev judged_case : Conjunction → ReadPart
  judged_case c = judged (conjunction_comparisons c) (conjunction_depth c) (Sound (conjunction_formula m c) (conjunction_depth c))

  abbrev judged_disjunction : Disjunction → ReadParts
  judged_disjunction d = judged_parts (disjunction_comparisons d) (deepest_case d) (disjunction_parts d)

  abbrev judged_side : Disjunction → ReadPart
  judged_side d = judged (disjunction_comparisons d) (disjunction_depth d) (Sound (disjunction_formula m d) (disjunction_depth d))

  abbrev judged_whole : Whole → ReadPart
  judged_whole t = judged (whole_comparisons t) (whole_depth t) (Sound (whole_formula m t) (whole_depth t))

  case_ends : (c : Conjunction) → all_of (judged_conjunction c) ≡ judged_case c
  case_ends (Single part) = joined_verdict junction.And (unknown (factor_comparisons part)) (twice (factor_comparisons part)) (deep (factor_depth part)) (conjunction_parts (Single part))
  case_ends (And front last) =
      let cs = conjunction_comparisons (And front last) in
      let d = deepest_factor (And front last) in
      joined_verdict junction.And (unknown cs) (twice cs) (deep d) (conjunction_parts (And front last)) ∙ deeper_verdict (unknown cs) (twice cs) (conjunction_formula m (And front last)) d

  side_ends : (d : Disjunction) → any_of (judged_disjunction d) ≡ judged_side d
  side_ends (Case part) = joined_verdict junction.Or (unknown (conjunction_comparisons part)) (twice (conjunction_comparisons part)) (deep (conjunction_depth part)) (disjunction_parts (Case part))
  side_ends (Or front last) =
      let cs = disjunction_comparisons (Or front last) in
      let d = deepest_case (Or front last) in
      joined_verdict junction.Or (unknown cs) (twice cs) (deep d) (disjunction_parts (Or front last)) ∙ deeper_verdict (unknown cs) (twice cs) (disjunction_formula m (Or front last)) d

  -- the first conjunction of a disjunction
  first_case : (c : Conjunction) → one (judged_case c) ≡ judged_disjunction (Case c)
  first_case c = one_verdict (unknown (conjunction_comparisons c)) (twice (conjunction_comparisons c)) (deep (conjunction_depth c)) (conjunction_formula m c) (conjunction_depth c)

  mutual
    factor_verdict : (t : Factor) → factor_read strict m t ≡ judged_factor t
    factor_verdict True = refl
    factor_verdict False = refl
    factor_verdict (Equal name value) = compared_verdict name (value ∷ [])
    factor_verdict (Differs name value) =
        ap negated (compared_verdict name (value ∷ []))
        ∙ judged_not (factor_comparisons (Equal name value)) 1 (is_among m name.text (value.text ∷ []))
    factor_verdict (In name first values) = compared_verdict name (first ∷ values)
    factor_verdict (Not part) = ap negated (factor_verdict part) ∙ judged_not (factor_comparisons part) (factor_depth part) (factor_formula m part)
    factor_verdict (Parens part) = ap enclosed (whole_verdict part) ∙ judged_enclosed (whole_comparisons part) (whole_depth part) (whole_formula m part)

    conjunction_verdict : (c : Conjunction) → conjunction_read strict m c ≡ judged_conjunction c
    conjunction_verdict (Single part) =
        ap one (factor_verdict part) ∙ one_verdict (unknown (factor_comparisons part)) (twice (factor_comparisons part)) (deep (factor_depth part)) (factor_formula m part) (factor_depth part)
    conjunction_verdict (And front last) =
        ap (λ (x : ReadParts). more x (factor_read strict m last)) (conjunction_verdict front)
        ∙ ap (more (judged_conjunction front)) (factor_verdict last)
        ∙ judged_more (conjunction_comparisons front) (factor_comparisons last) (deepest_factor front) (factor_depth last) (conjunction_parts front) (factor_formula m last) (fault_last front)
        ∙ ap (judged_parts (conjunction_comparisons (And front last)) (deepest_factor (And front last))) (one_more front last)

    disjunction_verdict : (d : Disjunction) → disjunction_read strict m d ≡ judged_disjunction d
    disjunction_verdict (Case part) = ap (λ (x : ReadParts). one (all_of x)) (conjunction_verdict part) ∙ ap one (case_ends part) ∙ first_case part
    disjunction_verdict (Or front last) =
        ap (λ (x : ReadParts). more x (all_of (conjunction_read strict m last))) (disjunction_verdict front)
        ∙ ap (λ (x : ReadParts). more (judged_disjunction front) (all_of x)) (conjunction_verdict last)
        ∙ ap (more (judged_disjunction front)) (case_ends last)
        ∙ judged_more (disjunction_comparisons front) (conjunction_comparisons last) (deepest_case front) (conjunction_depth last) (disjunction_parts front) (conjunction_formula m last) (fault_last_case front)
        ∙ ap (judged_parts (disjunction_comparisons (Or front last)) (deepest_case (Or front last))) (one_more_case front last)

    whole_verdict : (t : Whole) → whole_read strict m t ≡ judged_whole t
    whole_verdict (Plain part) = ap any_of (disjunction_verdict part) ∙ side_ends part
    whole_verdict (Implies a b) =
        ap (λ (x : ReadParts). linked link.Implies (any_of x) (any_of (disjunction_read strict m b))) (disjunction_verdict a)
        ∙ ap (λ (x : ReadParts). linked link.Implies (any_of (judged_disjunction a)) (any_of x)) (disjunction_verdict b)
        ∙ ap (λ (x : ReadPart). linked link.Implies x (any_of (judged_disjunction b))) (side_ends a)
        ∙ ap (linked link.Implies (judged_side a)) (side_ends b)
        ∙ judged_linked link.Implies (disjunction_comparisons a) (disjunction_comparisons b) (disjunction_depth a) (disjunction_depth b) (disjunction_formula m a) (disjunction_formula m b)
    whole_verdict (Iff a b) =
        ap (λ (x : ReadParts). linked link.Iff (any_of x) (any_of (disjunction_read strict m b))) (disjunction_verdict a)
        ∙ ap (λ (x : ReadParts). linked link.Iff (any_of (judged_disjunction a)) (any_of x)) (disjunction_verdict b)
        ∙ ap (λ (x : ReadPart). linked link.Iff x (any_of (judged_disjunction b))) (side_ends a)
        ∙ ap (linked link.Iff (judged_side a)) (side_ends b)
        ∙ judged_linked link.Iff (disjunction_comparisons a) (disjunction_comparisons b) (disjunction_depth a) (disjunction_depth b) (disjunction_formula m a) (disjunction_formula m b)

  pub text_verdict : (t : Whole) → whole_read strict m t ≡ reading_of strict m t
  unfolding reading_of
  text_verdict t = whole_verdict t ∙ ap (λ (b : Bool). verdict (unknown (whole_comparisons t)) b (deep (whole_depth t)) (Sound (whole_formula m t) (whole_depth t))) (twice_only strict (whole_comparisons t))
