-- The small formulas.
use Rattle.std.proofs.Common.{◌≡◌, ℕ, Bool, refl, ap, ◌∙◌, List, [], ◌∷◌, not}
use Rattle.std.specs.Prelude.{if◌then◌else◌, slice_index}
use Rattle.std.specs.List.{list_all, list_any}
use Rattle.cca_base.specs.Formula.{Printed, printed_step, fits_step, truth_step, truth}
use Rattle.cca_base.specs.Sets.{has}
use Rattle.cca_base.specs.declared.formula.Formula.{Formula, roll-Formula}
use Rattle.cca_base.specs.declared.formula.Formula.TheOpen.{Formula-F}
use Rattle.cca_base.specs.declared.formula.Formula.TheFolds.{fold-Formula, fold-roll-Formula}
use Rattle.cca_base.specs.declared.formula.Subject.TheVariants.{Component}
use Rattle.cca_laws.specs.FormulaExamples.{mode_in, negated, both, either, DepthIsSeven, ChoicesOfTwo, OnePartDoesNotFit, NoneAmongDoesNotFit}

abbrev pub print : Formula → Printed
print = fold-Formula Printed printed_step

pub mode_printed : (c set : ℕ) → print (mode_in c set) ≡ record { precedence = 0; depth = 1 }
mode_printed c set = fold-roll-Formula Printed printed_step (Formula-F.Among (Component c) set)

negated_printed : (f : Formula) (x : Printed) → print f ≡ x → print (negated f) ≡ printed_step (Formula-F.Not x)
negated_printed f x e = fold-roll-Formula Printed printed_step (Formula-F.Not f) ∙ ap (λ (y : Printed). printed_step (Formula-F.Not y)) e

module _ (f g : Formula) (a b : Printed) (first : print f ≡ a) (second : print g ≡ b) where
  both_printed : print (both f g) ≡ printed_step (Formula-F.All (a ∷ b ∷ []))
  both_printed =
      fold-roll-Formula Printed printed_step (Formula-F.All (f ∷ g ∷ [])) ∙ ap (λ (x : Printed). printed_step (Formula-F.All (x ∷ print g ∷ []))) first
      ∙ ap (λ (x : Printed). printed_step (Formula-F.All (a ∷ x ∷ []))) second

  either_printed : print (either f g) ≡ printed_step (Formula-F.Any (a ∷ b ∷ []))
  either_printed =
      fold-roll-Formula Printed printed_step (Formula-F.Any (f ∷ g ∷ [])) ∙ ap (λ (x : Printed). printed_step (Formula-F.Any (x ∷ print g ∷ []))) first
      ∙ ap (λ (x : Printed). printed_step (Formula-F.Any (a ∷ x ∷ []))) second

pub depth_is_seven : DepthIsSeven
depth_is_seven =
    ap (λ (x : Printed). x.depth)
    (negated_printed _ _ (both_printed _ _ _ _ (mode_printed 0 1) (either_printed _ _ _ _ (mode_printed 1 1) (negated_printed _ _ (mode_printed 1 2)))))

pub choices_of_two : ChoicesOfTwo
choices_of_two = (refl, refl, refl)

pub one_part_does_not_fit : OnePartDoesNotFit
one_part_does_not_fit = (simp (fold-roll-Formula Bool (fits_step (2 ∷ []) [])), simp (fold-roll-Formula Bool (fits_step (2 ∷ []) [])))

pub none_among_does_not_fit : NoneAmongDoesNotFit
none_among_does_not_fit = fold-roll-Formula Bool (fits_step (2 ∷ []) []) (Formula-F.Among (Component 0) 0)

pub truth_mode : (s w : List ℕ) (c set : ℕ) → truth s w (mode_in c set) ≡ has set (slice_index s c)
truth_mode s w c set = fold-roll-Formula Bool (truth_step s w) (Formula-F.Among (Component c) set)

module _ (s w : List ℕ) (f g : Formula) (a b : Bool) (first : truth s w f ≡ a) (second : truth s w g ≡ b) where
  pub truth_iff : truth s w (roll-Formula (Formula-F.Iff f g)) ≡ (if a then b else not b)
  truth_iff =
      fold-roll-Formula Bool (truth_step s w) (Formula-F.Iff f g) ∙ ap (λ x. if x then truth s w g else not (truth s w g)) first ∙ ap (λ x. if a then x else not x) second

  pub truth_both : truth s w (both f g) ≡ list_all (λ x. x) (a ∷ b ∷ [])
  truth_both =
      fold-roll-Formula Bool (truth_step s w) (Formula-F.All (f ∷ g ∷ [])) ∙ ap (λ x. list_all (λ y. y) (x ∷ truth s w g ∷ [])) first
      ∙ ap (λ x. list_all (λ y. y) (a ∷ x ∷ [])) second

  pub truth_either : truth s w (either f g) ≡ list_any (λ x. x) (a ∷ b ∷ [])
  truth_either =
      fold-roll-Formula Bool (truth_step s w) (Formula-F.Any (f ∷ g ∷ [])) ∙ ap (λ x. list_any (λ y. y) (x ∷ truth s w g ∷ [])) first
      ∙ ap (λ x. list_any (λ y. y) (a ∷ x ∷ [])) second
