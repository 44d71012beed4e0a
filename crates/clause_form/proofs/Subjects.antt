-- The values of subjects, components first, and the connectives by clauses.
use Rattle.std.proofs.Common.{◌≡◌, ℕ, ◌+◌, ◌<◌, ◌&&◌, ◌||◌, ltb, Bool, true, false, not, List, ◌++◌, length, slice_index, if◌then◌else◌, sym, ap, ◌∙◌, refl, arith}
use Rattle.std.proofs.lemmas.Bool.{ltb-true, lt-ltb}
use Rattle.std.proofs.lemmas.List.{get_or_append_left, get_or-append-add}
use Rattle.list_laws.proofs.Tests.{and_with}
use Rattle.cca_base.specs.Formula.{truth, truth_step, subject_value, subject_within}
use Rattle.cca_base.specs.Sets.{has}
use Rattle.cca_base.specs.declared.formula.Formula.{Formula}
use Rattle.cca_base.specs.declared.formula.Formula as formula
use Rattle.cca_base.specs.declared.formula.Formula.TheOpen.{Formula-F}
use Rattle.cca_base.specs.declared.formula.Formula.TheVariants.{Implies, Iff}
use Rattle.cca_base.specs.declared.formula.Formula.TheFolds.{fold-roll-Formula}
use Rattle.cca_base.specs.declared.formula.Subject.{Subject}
use Rattle.cca_base.specs.declared.formula.Subject.TheVariants.{Component, Variable}
use Rattle.clause_form.specs.declared.clause.Clause.{Clause}
use Rattle.clause_form.specs.Clauses.{AreValues, all_met}
use Rattle.clause_form.specs.Formulas.{subject_number, agrees, combine, Means}

pub at_subject : (components variables : ℕ) (s : Subject) (modes values : List ℕ) → subject_within components variables s ≡ true → length modes ≡ components → slice_index (modes ++ values) (subject_number components s) ≡ subject_value s modes values
at_subject components variables (Component k) modes values h e = let lt = ltb-true k components h in let lt' : k < length modes = omega arith in get_or_append_left modes values 0 k lt'
at_subject components variables (Variable v) modes values h e = ap (λ (n : ℕ). slice_index (modes ++ values) (n + v)) (sym e) ∙ get_or-append-add modes values v 0

-- the set's part below the size, or its complement there
pub used_true : (wanted : Bool) (set used common full size m : ℕ) → wanted ≡ true → used ≡ common → has common m ≡ (has set m && has full m) → has full m ≡ (ltb m size) → m < size → has used m ≡ agrees wanted (has set m)
used_true wanted set used common full size m h e k f small =
    rw h (ap (λ (s : ℕ). has s m) e ∙ (k ∙ sym (and_with (has set m) (has full m) (f ∙ lt-ltb m size small))))

pub used_false : (wanted : Bool) (set used others m : ℕ) → wanted ≡ false → used ≡ others → has others m ≡ not (has set m) → has used m ≡ agrees wanted (has set m)
used_false wanted set used others m h e k = rw h (ap (λ (s : ℕ). has s m) e ∙ k)

-- an implication is one of two, and its opposite both
implies_truth : (wanted x y : Bool) → combine (not wanted) (agrees (not wanted) x) (agrees wanted y) ≡ agrees wanted (not x || y)
implies_truth true x y = refl
implies_truth false true true = refl
implies_truth false true false = refl
implies_truth false false true = refl
implies_truth false false false = refl

iff_truth : (wanted x y : Bool) → combine true (combine false (agrees false x) (agrees wanted y)) (combine false (agrees true x) (agrees (not wanted) y)) ≡ agrees wanted (if x then y else not y)
iff_truth true true true = refl
iff_truth true true false = refl
iff_truth true false true = refl
iff_truth true false false = refl
iff_truth false true true = refl
iff_truth false true false = refl
iff_truth false false true = refl
iff_truth false false false = refl

abbrev pub Says : List ℕ → (List ℕ → Bool) → List Clause → Type 0
Says sizes p r = (xs : List ℕ) → AreValues sizes xs → all_met xs r ≡ p xs

module _ (components : ℕ) (sizes : List ℕ) (f a b : Formula) (wanted : Bool) where
  pub means_implies : (first second r : List Clause) → ((modes values : List ℕ) → truth modes values f ≡ (not (truth modes values a) || truth modes values b)) → Means components sizes a (not wanted) first → Means components sizes b wanted second
      → Says sizes (λ xs. combine (not wanted) (all_met xs first) (all_met xs second)) r → Means components sizes f wanted r
  means_implies first second r is ma mb says modes values e h =
      says (modes ++ values) h
      ∙ (ap (λ x. combine (not wanted) x (all_met (modes ++ values) second)) (ma modes values e h)
      ∙ (ap (λ y. combine (not wanted) (agrees (not wanted) (truth modes values a)) y) (mb modes values e h)
      ∙ (implies_truth wanted (truth modes values a) (truth modes values b)
      ∙ ap (agrees wanted) (sym (is modes values)))))

  pub means_iff : (without same one with other two r : List Clause) → ((modes values : List ℕ) → truth modes values f ≡ (if truth modes values a then truth modes values b else not (truth modes values b)))
      → Means components sizes a false without → Means components sizes b wanted same → Says sizes (λ xs. combine false (all_met xs without) (all_met xs same)) one
      → Means components sizes a true with → Means components sizes b (not wanted) other → Says sizes (λ xs. combine false (all_met xs with) (all_met xs other)) two
      → Says sizes (λ xs. combine true (all_met xs one) (all_met xs two)) r → Means components sizes f wanted r
  means_iff without same one with other two r is m1 m2 j1 m3 m4 j2 says modes values e h =
      let xs = modes ++ values in
      let left : all_met xs one ≡ combine false (agrees false (truth modes values a)) (agrees wanted (truth modes values b)) =
      j1 xs h ∙ (ap (λ x. combine false x (all_met xs same)) (m1 modes values e h) ∙ ap (λ y. combine false (agrees false (truth modes values a)) y) (m2 modes values e h)) in
      let right : all_met xs two ≡ combine false (agrees true (truth modes values a)) (agrees (not wanted) (truth modes values b)) =
      j2 xs h ∙ (ap (λ x. combine false x (all_met xs other)) (m3 modes values e h) ∙ ap (λ y. combine false (agrees true (truth modes values a)) y) (m4 modes values e h)) in
      says xs h
      ∙ (ap (λ x. combine true x (all_met xs two)) left
      ∙ (ap (λ y. combine true (combine false (agrees false (truth modes values a)) (agrees wanted (truth modes values b))) y) right
      ∙ (iff_truth wanted (truth modes values a) (truth modes values b)
      ∙ ap (agrees wanted) (sym (is modes values)))))

pub truth_implies : (modes values : List ℕ) (f a b : Formula) → f ≡ Implies a b → truth modes values f ≡ (not (truth modes values a) || truth modes values b)
unfolding formula.roll-Formula denote.Hole.Carrier.roll
truth_implies modes values f a b is = ap (truth modes values) is ∙ fold-roll-Formula Bool (truth_step modes values) (Formula-F.Implies a b)

pub truth_iff : (modes values : List ℕ) (f a b : Formula) → f ≡ Iff a b → truth modes values f ≡ (if truth modes values a then truth modes values b else not (truth modes values b))
unfolding formula.roll-Formula denote.Hole.Carrier.roll
truth_iff modes values f a b is = ap (truth modes values) is ∙ fold-roll-Formula Bool (truth_step modes values) (Formula-F.Iff a b)
