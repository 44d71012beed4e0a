-- The steps of the model with a reset: which are allowed, and that none leads back to the start.
use Rattle.std.proofs.Common.{◌≡◌, ◌<◌, ◌⊎◌, ℕ, zero, suc, inl, inr, List, [], ◌∷◌, Some, Contains, refl, sym, ap, subst, ◌∙◌, arith}
use Rattle.std.specs.Prelude.{slice_get, slice_index, slice_set}
use Rattle.std.proofs.lemmas.Bool.{false≢true}
use Rattle.std.proofs.lemmas.Option.{same_Some}
use Rattle.list_laws.proofs.Places.{value_at}
use Rattle.cca_base.specs.declared.cube.Pair.{Pair}
use Rattle.cca_base.specs.declared.model.Move.{Move}
use Rattle.cca_base.specs.Model.{IsMended, IsInChain}
use Rattle.cca_base.specs.Repairs.{Mending}
use Rattle.cca_base.specs.Sets.{has}
use Rattle.cca_base.specs.State.{Follows}
use Rattle.cca_base.specs.Steps.{Step, Run, Allowed, support}
use Rattle.list_laws.proofs.Few.{two_at, below_two}
use Rattle.cca_laws.proofs.FormulaExamples.{truth_mode}
use Rattle.cca_laws.proofs.FreeMoves.{free_step}
use Rattle.cca_laws.proofs.MendImplicants.{only_world, state_of}
use Rattle.cca_laws.proofs.PlanLaws.{mends_itself}
use Rattle.cca_laws.specs.MendExamples.{reset_move, z_move, ok_move, go_move, back_move, mending, c_is_z, GoingIsAllowed}

module _ (b : ℕ) where
  abbrev pub reset_step : Step mending (0 ∷ b ∷ []) 0 (1 ∷ b ∷ [])
  reset_step = free_step mending reset_move (0, omega arith, refl) refl (0 ∷ b ∷ []) refl

  pub z_step : Step mending (1 ∷ b ∷ []) 1 (2 ∷ b ∷ [])
  z_step = free_step mending z_move (1, omega arith, refl) refl (1 ∷ b ∷ []) refl

  pub ok_step : Step mending (2 ∷ b ∷ []) 2 (1 ∷ b ∷ [])
  ok_step = free_step mending ok_move (2, omega arith, refl) refl (2 ∷ b ∷ []) refl

  pub reset_allowed : Allowed mending (0 ∷ b ∷ []) 0 (1 ∷ b ∷ [])
  reset_allowed = record { step = reset_step; back = inl refl }

  pub z_allowed : Allowed mending (1 ∷ b ∷ []) 1 (2 ∷ b ∷ [])
  z_allowed = record { step = z_step; back = inr (2 ∷ [], 1 ∷ b ∷ [], (1 ∷ b ∷ [], ok_step, refl), mends_itself mending (1 ∷ b ∷ [])) }

pub go_step : (c : ℕ) → Step mending (c ∷ 0 ∷ []) 3 (c ∷ 1 ∷ [])
go_step c = free_step mending go_move (3, omega arith, refl) refl (c ∷ 0 ∷ []) refl

pub back_step : Step mending (2 ∷ 1 ∷ []) 4 (2 ∷ 0 ∷ [])
back_step = record {
  move = back_move;
  of_model = (4, omega arith, refl);
  command = refl;
  source = refl;
  guard = λ s state extends w world. truth_mode s w 0 4 ∙ ap (has 4) (value_at s 0 2 (extends 1 c_is_z (omega arith)));
  gives = refl;
}

-- the way back from where b went to y, which mends c
there_and_back : Run mending (0 ∷ 1 ∷ []) (0 ∷ 1 ∷ 4 ∷ 2 ∷ []) (1 ∷ 0 ∷ [])
there_and_back = (1 ∷ 1 ∷ [], reset_step 1, (2 ∷ 1 ∷ [], z_step 1, (2 ∷ 0 ∷ [], back_step, (1 ∷ 0 ∷ [], ok_step 0, refl))))

pub m_is_mended : IsMended mending.moves 0 0 1
m_is_mended = record {
  broken = refl;
  sound = refl;
  count = 1;
  chain = (1, record { repair = reset_move; of_model = (0, omega arith, refl); mends = refl; target = refl }, refl);
}

mended : Mending mending (0 ∷ 0 ∷ []) (1 ∷ 0 ∷ [])
mended = record {
  full = refl;
  each = below_two (λ c. IsInChain mending.moves c (slice_index (0 ∷ 0 ∷ []) c) (slice_index (1 ∷ 0 ∷ []) c)) (1, (1, record { repair = reset_move; of_model = (0, omega arith, refl); mends = refl; target = refl }, refl)) (0, refl);
}

go_allowed : Allowed mending (0 ∷ 0 ∷ []) 3 (0 ∷ 1 ∷ [])
go_allowed = record { step = go_step 0; back = inr (0 ∷ 1 ∷ 4 ∷ 2 ∷ [], 1 ∷ 0 ∷ [], there_and_back, mended) }

-- ---- no way to the start

-- while c is broken, b's way back does not follow
not_from_m : Follows mending (support mending (0 ∷ 1 ∷ []) back_move) back_move.guard → ⊥
not_from_m h =
    let b_is_y : Pair = record { item = 1; value = 1 } in
    false≢true (
    sym (truth_mode (0 ∷ 1 ∷ []) [] 0 4)
    ∙ h (0 ∷ 1 ∷ []) (state_of 0 1 (omega arith) (omega arith)) (two_at (λ (p : Pair). slice_get (0 ∷ 1 ∷ []) p.item ≡ Some p.value) b_is_y b_is_y refl refl) [] (only_world (0 ∷ 1 ∷ []))
    )

-- c is mended, or b is y
abbrev Away : List ℕ → Type 0
Away s = (c b : ℕ) × (s ≡ c ∷ b ∷ []) × ((0 < c) ⊎ (b ≡ 1))

moved : (s s2 : List ℕ) (k : ℕ) (step : Step mending s k s2) (move : Move) → move ≡ step.move → s2 ≡ slice_set s move.component move.target
moved s s2 k step move e = step.gives ∙ ap (λ (y : Move). slice_set s y.component y.target) (sym e)

stays_away : (c b : ℕ) (s2 : List ℕ) (k : ℕ) → (0 < c) ⊎ (b ≡ 1) → (step : Step mending (c ∷ b ∷ []) k s2) → Contains mending.moves step.move → Away s2
stays_away c b s2 k away step (zero, lt, e) = (1, b, moved (c ∷ b ∷ []) s2 k step reset_move e, inl (omega arith))
stays_away c b s2 k away step (suc zero, lt, e) = (2, b, moved (c ∷ b ∷ []) s2 k step z_move e, inl (omega arith))
stays_away c b s2 k away step (suc (suc zero), lt, e) = (1, b, moved (c ∷ b ∷ []) s2 k step ok_move e, inl (omega arith))
stays_away c b s2 k away step (suc (suc (suc zero)), lt, e) = (c, 1, moved (c ∷ b ∷ []) s2 k step go_move e, inr refl)
stays_away (suc c) b s2 k away step (suc (suc (suc (suc zero))), lt, e) = (suc c, 0, moved (suc c ∷ b ∷ []) s2 k step back_move e, inl (omega arith))
stays_away zero b s2 k away step (suc (suc (suc (suc zero))), lt, e) =
    let from : b ≡ 1 = same_Some b 1 (subst (λ (y : Move). slice_get (0 ∷ b ∷ []) y.component ≡ Some y.source) (sym e) step.source) in
    absurd (not_from_m (
    subst (λ x. Follows mending (support mending (0 ∷ x ∷ []) back_move) back_move.guard) from
    (subst (λ (y : Move). Follows mending (support mending (0 ∷ b ∷ []) y) y.guard) (sym e) step.guard)
    ))
stays_away c b s2 k away step (suc (suc (suc (suc (suc i)))), lt, e) = absurd (omega arith)

runs_stay_away : (ks s s2 : List ℕ) → Away s → Run mending s ks s2 → Away s2
runs_stay_away [] s s2 away h = subst Away (sym h) away
runs_stay_away (k ∷ ks) s s2 (c, b, e, away) (mid, step, rest) =
    let here : Step mending (c ∷ b ∷ []) k mid = subst (λ x. Step mending x k mid) e step in
    runs_stay_away ks mid s2 (stays_away c b mid k away here here.of_model) rest

start_is_not_away : Away (0 ∷ 0 ∷ []) → ⊥
start_is_not_away (c, b, e, inl above) = omega (arith, above, ap (λ (s : List ℕ). slice_index s 0) e)
start_is_not_away (c, b, e, inr same) = omega (arith, same, ap (λ (s : List ℕ). slice_index s 1) e)

pub going_is_allowed : GoingIsAllowed
going_is_allowed = (go_allowed, λ ks run. start_is_not_away (runs_stay_away ks (0 ∷ 1 ∷ []) (0 ∷ 0 ∷ []) (0, 1, refl, inr refl) run))
