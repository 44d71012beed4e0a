-- The way there and the way back in the model with a reset.
use Rattle.std.proofs.Common.{◌≡◌, ℕ, [], ◌∷◌, Some, refl, arith}
use Rattle.std.specs.Prelude.{slice_get}
use Rattle.std.proofs.lemmas.Option.{same_Some}
use Rattle.cca_base.specs.declared.cube.Pair.{Pair}
use Rattle.cca_base.specs.Plans.{Whole}
use Rattle.cca_base.specs.State.{Extends}
use Rattle.list_laws.proofs.Few.{one_at, two_at}
use Rattle.cca_laws.proofs.MendCompiled.{mending_is_compiled}
use Rattle.cca_laws.proofs.MendSteps.{reset_step, z_step, ok_step, go_step, back_step}
use Rattle.cca_laws.specs.MendExamples.{mending_compiled, c_is_ok, b_is_x, b_is_y, RouteComesBack}
use Rattle.cca_laws.proofs.MendGoal.{back_goal}
use Rattle.cca_laws.proofs.MendPicks.{home, picks_toward_x, picks_reset, picks_z, picks_back, picks_ok, picks_go}

there : Whole mending_compiled (b_is_y ∷ []) (0 ∷ 0 ∷ []) (3 ∷ []) (0 ∷ 1 ∷ [])
there = (
  λ h. absurd (omega (arith, same_Some 0 1 (h 0 b_is_y (omega arith)))),
  picks_go,
  0 ∷ 1 ∷ [],
  go_step 0,
  (one_at (λ (p : Pair). slice_get (0 ∷ 1 ∷ []) p.item ≡ Some p.value) b_is_y refl, refl),
)

-- while b is y, the start doesn't stand
not_home : (c : ℕ) → Extends (c ∷ 1 ∷ []) home → ⊥
not_home c h = absurd (omega (arith, same_Some 1 0 (h 0 b_is_x (omega arith))))

back : Whole mending_compiled home (0 ∷ 1 ∷ []) (0 ∷ 1 ∷ 4 ∷ 2 ∷ []) (1 ∷ 0 ∷ [])
back = (not_home 0, picks_toward_x 0 0 picks_reset, 1 ∷ 1 ∷ [], reset_step 1, from_ok)
  where
    from_x : Whole mending_compiled home (2 ∷ 0 ∷ []) (2 ∷ []) (1 ∷ 0 ∷ [])
    from_x = (
      λ h. absurd (omega (arith, same_Some 2 1 (h 1 b_is_x (omega arith)))),
      picks_ok,
      1 ∷ 0 ∷ [],
      ok_step 0,
      (two_at (λ (p : Pair). slice_get (1 ∷ 0 ∷ []) p.item ≡ Some p.value) b_is_x c_is_ok refl refl, refl),
    )

    from_z : Whole mending_compiled home (2 ∷ 1 ∷ []) (4 ∷ 2 ∷ []) (1 ∷ 0 ∷ [])
    from_z = (not_home 2, picks_toward_x 2 4 picks_back, 2 ∷ 0 ∷ [], back_step, from_x)

    from_ok : Whole mending_compiled home (1 ∷ 1 ∷ []) (1 ∷ 4 ∷ 2 ∷ []) (1 ∷ 0 ∷ [])
    from_ok = (not_home 1, picks_toward_x 1 1 picks_z, 2 ∷ 1 ∷ [], z_step 1, from_z)

pub route_comes_back : RouteComesBack
route_comes_back = record {
  compiled = mending_is_compiled;
  plan = 3 ∷ [];
  there = 0 ∷ 1 ∷ [];
  whole = there;
  back = 0 ∷ 1 ∷ 4 ∷ 2 ∷ [];
  last = 1 ∷ 0 ∷ [];
  way_back = record { goal = home; is_goal = back_goal; whole = back };
  shows_plan = (refl, omega arith);
  shows_back = (refl, omega arith);
}
