-- What serves a goal.
use Rattle.std.proofs.Common.{◌≡◌, ℕ, inl, inr, [], ◌∷◌, Some, refl, sym, ap, subst, ◌∙◌, arith}
use Rattle.std.specs.Prelude.{slice_get}
use Rattle.std.proofs.lemmas.Bool.{false≢true}
use Rattle.std.proofs.lemmas.Option.{same_Some}
use Rattle.list_laws.proofs.Places.{value_at}
use Rattle.list_laws.proofs.Members.{contains_cases, contains_none}
use Rattle.cca_base.specs.declared.cube.Pair.{Pair}
use Rattle.cca_base.specs.declared.model.Move.{Move}
use Rattle.cca_base.specs.Sets.{has}
use Rattle.cca_base.specs.Goals.{IsNeeded}
use Rattle.cca_base.specs.Implicants.{Suffices, Needs, Ancestor, source_pair}
use Rattle.cca_base.specs.Steps.{Step, Allowed}
use Rattle.list_laws.proofs.Few.{one_at, five_at}
use Rattle.cca_laws.proofs.FormulaExamples.{truth_mode}
use Rattle.cca_laws.proofs.FreeMoves.{free_step, single_prime, free_needs_nothing}
use Rattle.cca_laws.proofs.PlanLaws.{mends_itself}
use Rattle.cca_laws.proofs.ValveExamples.{opening_is_allowed, open_is_the_one, start_state, start_world}
use Rattle.cca_laws.proofs.ValveWellFormed.{close_move, reset_move}
use Rattle.cca_laws.specs.Examples.{always_true}
use Rattle.cca_laws.specs.ValveExamples.{valve_model, on_move, off_move, open_move}
use Rattle.cca_laws.specs.CauseExamples.{off_wanted, DriverServesValve, ValveServesNoDriver}

abbrev driver_is_on : Pair
driver_is_on = record { item = 0; value = 1 }

-- the driver being on suffices for opening, and is needed
on_suffices : Suffices valve_model open_move (driver_is_on ∷ [])
on_suffices s state extends w world = truth_mode s w 0 2 ∙ ap (has 2) (value_at s 0 1 (extends 1 driver_is_on (omega arith)))

nothing_is_too_little : Suffices valve_model open_move [] → ⊥
nothing_is_too_little h =
    false≢true (
    sym (truth_mode (0 ∷ 0 ∷ []) (0 ∷ []) 0 2)
    ∙ h (0 ∷ 0 ∷ []) start_state (one_at (λ (p : Pair). slice_get (0 ∷ 0 ∷ []) p.item ≡ Some p.value) (source_pair open_move) refl) (0 ∷ []) start_world
    )

valve_needs_driver : Needs valve_model 1 0
valve_needs_driver = record {
  move = open_move;
  of_model = (2, omega arith, refl);
  own = refl;
  cube = driver_is_on ∷ [];
  prime = single_prime valve_model open_move driver_is_on (omega arith) (λ e. absurd (omega (arith, e))) on_suffices nothing_is_too_little;
  mode = 1;
  occurs = (0, omega arith, refl);
}

switching_off : (mode : ℕ) → Step valve_model (1 ∷ mode ∷ []) 1 (0 ∷ mode ∷ [])
switching_off mode = free_step valve_model off_move (1, omega arith, refl) refl (1 ∷ mode ∷ []) refl

abbrev switching_on : (mode : ℕ) → Step valve_model (0 ∷ mode ∷ []) 0 (1 ∷ mode ∷ [])
switching_on mode = free_step valve_model on_move (0, omega arith, refl) refl (0 ∷ mode ∷ []) refl

on_is_allowed : Allowed valve_model (0 ∷ 0 ∷ []) 0 (1 ∷ 0 ∷ [])
on_is_allowed = record { step = switching_on 0; back = inr (1 ∷ [], 0 ∷ 0 ∷ [], (0 ∷ 0 ∷ [], switching_off 0, refl), mends_itself valve_model (0 ∷ 0 ∷ [])) }

off_is_allowed : Allowed valve_model (1 ∷ 1 ∷ []) 1 (0 ∷ 1 ∷ [])
off_is_allowed = record { step = switching_off 1; back = inr (0 ∷ [], 1 ∷ 1 ∷ [], (1 ∷ 1 ∷ [], switching_on 1, refl), mends_itself valve_model (1 ∷ 1 ∷ [])) }

pub driver_serves_valve : DriverServesValve
driver_serves_valve = (
  record {
    next = 1 ∷ 0 ∷ [];
    step = switching_on 0;
    pair = record { item = 1; value = 1 };
    wanted = (0, omega arith, refl);
    missing = λ e. absurd (omega (arith, same_Some 0 1 e));
    serves = inr ([], valve_needs_driver);
  },
  record {
    others = 2 ∷ [];
    last = 1 ∷ 1 ∷ [];
    plan = (1 ∷ 0 ∷ [], on_is_allowed, (1 ∷ 1 ∷ [], opening_is_allowed, refl));
    stands = one_at (λ (p : Pair). slice_get (1 ∷ 1 ∷ []) p.item ≡ Some p.value) (record { item = 1; value = 1 }) refl;
  },
)

-- the driver needs nothing
driver_needs_nothing : (u : ℕ) → Needs valve_model 0 u → ⊥
driver_needs_nothing = free_needs_nothing valve_model 0
    (five_at (λ (move : Move). move.component ≡ 0 → move.guard ≡ always_true) on_move off_move open_move close_move reset_move (λ e. refl) (λ e. refl)
    (λ e. absurd (omega (arith, e))) (λ e. absurd (omega (arith, e))) (λ e. absurd (omega (arith, e))))

no_cause : (u : ℕ) → Ancestor valve_model 0 u → ⊥
no_cause u ([], h) = driver_needs_nothing u h
no_cause u (d ∷ between, h) = driver_needs_nothing d h.0

not_needed : IsNeeded valve_model (1 ∷ 0 ∷ []) off_wanted 2 → ⊥
not_needed h =
    let moved : h.step.move.component ≡ 1 = ap (λ (y : Move). y.component) (sym (open_is_the_one h.step.move h.step.command h.step.of_model)) in
    let driver : h.pair.item ≡ 0 = elim (contains_cases (record { item = 0; value = 0 }) h.pair [] h.wanted) [
      | inl e ↦ ap (λ (p : Pair). p.item) (sym e)
      | inr none ↦ absurd (contains_none h.pair none)
    ]
    in
    elim h.serves [
      | inl own ↦ omega (arith, own, moved, driver)
      | inr cause ↦ no_cause h.step.move.component (subst (λ c. Ancestor valve_model c h.step.move.component) driver cause)
    ]

pub valve_serves_no_driver : ValveServesNoDriver
valve_serves_no_driver = (
  record {
    others = 1 ∷ [];
    last = 0 ∷ 1 ∷ [];
    plan = (1 ∷ 1 ∷ [], opening_is_allowed, (0 ∷ 1 ∷ [], off_is_allowed, refl));
    stands = one_at (λ (p : Pair). slice_get (0 ∷ 1 ∷ []) p.item ≡ Some p.value) (record { item = 0; value = 0 }) refl;
  },
  λ h. not_needed h.0,
)
