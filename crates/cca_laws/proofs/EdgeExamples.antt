-- The edges.
use Rattle.std.proofs.Common.{inl, ◌<◌, ◌≤◌, ℕ, Bool, [], ◌∷◌, refl, ap, arith}
use Rattle.std.specs.Prelude.{codes}
use Rattle.std.proofs.lemmas.List.Elements.{All-nil}
use Rattle.cca_base.specs.declared.formula.Formula.TheOpen.{Formula-F}
use Rattle.cca_base.specs.declared.formula.Formula.TheFolds.{fold-roll-Formula}
use Rattle.cca_base.specs.declared.model.Move.{Move}
use Rattle.cca_base.specs.declared.limits.TheConstants.{MAX_CHOICES}
use Rattle.cca_base.specs.PlantModel.{PlantModel}
use Rattle.cca_base.specs.Formula.{Printed, printed_step, fits_step}
use Rattle.cca_base.specs.Model.{WellFormed, IsFormula, IsFailure, mode_counts, value_counts}
use Rattle.cca_laws.proofs.SmallModels.{choices_fit, small_fits, mending_fits}
use Rattle.list_laws.proofs.Few.{one_at, two_at}
use Rattle.cca_laws.specs.Examples.{always_true, lamp, on_move, off_move}
use Rattle.cca_laws.specs.EdgeExamples.{failing_lamp, WhichAreNames, ForeignFailure, CostsAtTheEdge, OutOfFirstUse, WhichAreChoices, two_letters, MostAreChoices, OneMoreIsTooMany}

pub which_are_names : WhichAreNames
which_are_names = (refl, refl, refl, refl)

failure_of : (component cost : ℕ) → WellFormed (failing_lamp component cost) → IsFailure (failing_lamp component cost) (record { component = component; source = 0; target = 1; cost = cost })
failure_of component cost h = h.failures 0 (record { component = 0; source = 0; target = 0; cost = 0 }) (omega arith)

pub foreign_failure : ForeignFailure
foreign_failure h = let f : IsFailure (failing_lamp 99 1) (record { component = 99; source = 0; target = 1; cost = 1 }) = failure_of 99 1 h in omega (arith, f.source)

pub always_fits : (m : PlantModel) → IsFormula m always_true
always_fits m = record {
  fits = fold-roll-Formula Bool (fits_step (mode_counts m) (value_counts m)) Formula-F.True;
  shallow = let e = ap (λ (x : Printed). x.depth) (fold-roll-Formula Printed printed_step Formula-F.True) in omega (arith, e);
}

fails : (cost : ℕ) → 0 < cost → cost ≤ 1000000 → WellFormed (failing_lamp 0 cost)
fails cost above below = small_fits (failing_lamp 0 cost) refl (inl refl) (All-nil (IsFormula (failing_lamp 0 cost)))
    (two_at (λ (move : Move). IsFormula (failing_lamp 0 cost) move.guard) on_move off_move (always_fits (failing_lamp 0 cost)) (always_fits (failing_lamp 0 cost)))
    (one_at (IsFailure (failing_lamp 0 cost)) (record { component = 0; source = 0; target = 1; cost = cost }) (record { source = omega arith; target = omega arith; costs = above; cheap = below }))
    (mending_fits 1 lamp.moves refl)

pub costs_at_the_edge : CostsAtTheEdge
costs_at_the_edge = (
  λ h. let f : IsFailure (failing_lamp 0 0) (record { component = 0; source = 0; target = 1; cost = 0 }) = failure_of 0 0 h in omega (arith, f.costs),
  fails 1 (omega arith) (omega arith),
  fails 1000000 (omega arith) (omega arith),
  λ h. let f : IsFailure (failing_lamp 0 1000001) (record { component = 0; source = 0; target = 1; cost = 1000001 }) = failure_of 0 1000001 h in omega (arith, f.cheap),
)

pub out_of_first_use : OutOfFirstUse
out_of_first_use h = let found = h.first_use 0 0 off_move refl (omega arith) in omega (arith, found.2)

pub which_are_choices : WhichAreChoices
which_are_choices = (
  λ h. omega (arith, h.some),
  choices_fit (codes "a" ∷ []) refl,
  λ h. h.names.different 0 1 [] (omega arith) (omega arith) refl,
)

pub most_are_choices : MostAreChoices
most_are_choices = choices_fit (two_letters MAX_CHOICES) refl

pub one_more_is_too_many : OneMoreIsTooMany
one_more_is_too_many choices e h = omega (arith, h.few)
