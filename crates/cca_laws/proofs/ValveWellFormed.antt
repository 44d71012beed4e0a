-- The valve is well formed.
use Rattle.std.proofs.Common.{inl, ◌≡◌, ℕ, Bool, true, false, [], ◌∷◌, refl, ap, ◌∙◌, arith}
use Rattle.cca_base.specs.declared.formula.Formula.TheOpen.{Formula-F}
use Rattle.cca_base.specs.declared.formula.Formula.TheFolds.{fold-roll-Formula}
use Rattle.cca_base.specs.declared.formula.Subject.TheVariants.{Component, Variable}
use Rattle.cca_base.specs.declared.model.Move.{Move}
use Rattle.cca_base.specs.Formula.{Printed, printed_step, fits_step, depth}
use Rattle.cca_base.specs.Model.{WellFormed, IsFormula}
use Rattle.list_laws.proofs.Few.{one_at, five_at}
use Rattle.cca_laws.proofs.SmallModels.{small_fits, failures_fit, mending_fits, own_used}
use Rattle.cca_laws.proofs.EdgeExamples.{always_fits}
use Rattle.cca_laws.proofs.FormulaExamples.{print, mode_printed}
use Rattle.cca_laws.specs.FormulaExamples.{mode_in}
use Rattle.cca_laws.specs.ValveExamples.{flow_in, flow_rule, driver_on, on_move, off_move, open_move, valve_model, ValveIsWellFormed}

abbrev pub close_move : Move
close_move = record { component = 1; source = 1; target = 0; command = 3; repair = false; guard = driver_on }

abbrev pub reset_move : Move
reset_move = record { component = 1; source = 2; target = 0; command = 4; repair = true; guard = driver_on }

-- the formulas
flow_printed : (set : ℕ) → print (flow_in set) ≡ record { precedence = 0; depth = 1 }
flow_printed set = fold-roll-Formula Printed printed_step (Formula-F.Among (Variable 0) set)

rule_depth : depth flow_rule ≡ 2
rule_depth =
    ap (λ (x : Printed). x.depth)
    (fold-roll-Formula Printed printed_step (Formula-F.Iff (flow_in 2) (mode_in 1 2))
    ∙ ap (λ (x : Printed). printed_step (Formula-F.Iff x (print (mode_in 1 2)))) (flow_printed 2)
    ∙ ap (λ (x : Printed). printed_step (Formula-F.Iff (record { precedence = 0; depth = 1 }) x)) (mode_printed 1 2))

rule_fits : IsFormula valve_model flow_rule
rule_fits = record { fits = simp (fold-roll-Formula Bool (fits_step (2 ∷ 3 ∷ []) (2 ∷ []))); shallow = omega (arith, rule_depth) }

driver_fits : IsFormula valve_model driver_on
driver_fits = record {
  fits = fold-roll-Formula Bool (fits_step (2 ∷ 3 ∷ []) (2 ∷ [])) (Formula-F.Among (Component 0) 2);
  shallow = let e : depth driver_on ≡ 1 = ap (λ (x : Printed). x.depth) (mode_printed 0 2) in omega (arith, e);
}

well_formed : WellFormed valve_model
well_formed = small_fits valve_model refl (inl refl) (one_at (IsFormula valve_model) flow_rule rule_fits)
    (five_at (λ (move : Move). IsFormula valve_model move.guard) on_move off_move open_move close_move reset_move
    (always_fits valve_model) (always_fits valve_model) driver_fits driver_fits driver_fits)
    (failures_fit valve_model refl) (mending_fits 1 valve_model.moves refl)

pub valve_is_well_formed : ValveIsWellFormed
valve_is_well_formed = (well_formed, own_used valve_model.moves refl)
