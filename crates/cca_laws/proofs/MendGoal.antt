-- The goal of the way back in the model with a reset.
use Rattle.std.proofs.Common.{◌≡◌, ℕ, zero, suc, false, inl, inr, [], ◌∷◌, Some, Contains, refl, sym, subst, arith}
use Rattle.std.specs.Prelude.{slice_get}
use Rattle.std.proofs.lemmas.Bool.{false≢true}
use Rattle.std.proofs.lemmas.Option.{same_Some, none-some}
use Rattle.list_laws.proofs.Members.{contains_cases, contains_here, contains_there, contains_none}
use Rattle.cca_base.specs.declared.cube.Pair.{Pair}
use Rattle.cca_base.specs.Model.{is_broken}
use Rattle.cca_base.specs.Plans.{IsWanted, IsBackGoal}
use Rattle.cca_base.specs.Steps.{Reach}
use Rattle.cca_base.proofs.NextModes.{next_of_mended}
use Rattle.cca_laws.proofs.MendModel.{only_m_has_next, well_formed}
use Rattle.cca_laws.proofs.MendCompiled.{mending_is_compiled}
use Rattle.cca_laws.proofs.MendSteps.{reset_allowed, m_is_mended}
use Rattle.cca_laws.proofs.OneOrder.{ordered_same, compiled_none_twice}
use Rattle.cca_laws.specs.MendExamples.{mending, mending_compiled, c_is_ok, b_is_x, BackGoalIsMended}

ok_is_reached : Reach mending (0 ∷ 0 ∷ []) 0 1
ok_is_reached = (0 ∷ [], 1 ∷ 0 ∷ [], (1 ∷ 0 ∷ [], reset_allowed 0, refl), refl)

-- the one pair that stands and isn't broken
stands_sound : (i v : ℕ) → slice_get (0 ∷ 0 ∷ []) i ≡ Some v → is_broken mending.moves i v ≡ false → (1 ≡ i) × (0 ≡ v)
stands_sound zero zero h sound = absurd (false≢true (sym sound))
stands_sound zero (suc v) h sound = absurd (omega (arith, same_Some 0 (suc v) h))
stands_sound (suc zero) v h sound = (refl, same_Some 0 v h)
stands_sound (suc (suc i)) v h sound = absurd (none-some v h)

wanted : (p : Pair) → IsWanted mending (0 ∷ 0 ∷ []) p → Contains (b_is_x ∷ c_is_ok ∷ []) p
wanted p (inl (stands, sound)) =
    let own = stands_sound p.item p.value stands sound in
    contains_here b_is_x p (c_is_ok ∷ []) (λ k. record { item = own.0 k; value = own.1 k })
wanted p (inr (mode, at, mended, reached)) =
    let own = only_m_has_next p.item mode p.value (next_of_mended mending.moves (well_formed.repairs.at_once refl) p.item mode p.value mended) in
    contains_there b_is_x p (c_is_ok ∷ []) (contains_here c_is_ok p [] (λ k. record { item = own.0 k; value = own.2 k }))

pub back_goal : IsBackGoal mending_compiled (0 ∷ 0 ∷ []) (b_is_x ∷ c_is_ok ∷ [])
back_goal = record {
  in_order = inr (0, c_is_ok ∷ [], refl, inr (1, [], refl, refl));
  each = λ p. (
    λ among. elim (contains_cases b_is_x p (c_is_ok ∷ []) among) [
      | inl e ↦ subst (IsWanted mending (0 ∷ 0 ∷ [])) e (inl (refl, refl))
      | inr later ↦ elim (contains_cases c_is_ok p [] later) [
        | inl e ↦ subst (IsWanted mending (0 ∷ 0 ∷ [])) e (inr (0, refl, m_is_mended, ok_is_reached))
        | inr none ↦ absurd (contains_none p none)
      ]
    ],
    wanted p,
  );
}

pub back_goal_is_mended : BackGoalIsMended
back_goal_is_mended goal = (
  λ h. ordered_same (1 ∷ 0 ∷ []) goal (b_is_x ∷ c_is_ok ∷ []) (compiled_none_twice mending_compiled mending_is_compiled) h.in_order back_goal.in_order
      (λ p among. (back_goal.each p).1 ((h.each p).0 among), λ p among. (h.each p).1 ((back_goal.each p).0 among)),
  λ e. subst (IsBackGoal mending_compiled (0 ∷ 0 ∷ [])) (sym e) back_goal,
)
