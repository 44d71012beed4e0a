-- What is observed.
use Rattle.std.proofs.Common.{◌≡◌, ◌<◌, ℕ, zero, suc, inl, inr, [], ◌∷◌, Some, Contains, refl, ap, subst, ◌∙◌, arith}
use Rattle.std.specs.Prelude.{slice_get, slice_index}
use Rattle.std.proofs.lemmas.List.Sorted.{IsPermutation-append_comm}
use Rattle.std.proofs.lemmas.Option.{same_Some, none-some}
use Rattle.list_laws.proofs.Members.{contains_cases, contains_none, contains_here, contains_there}
use Rattle.cca_base.specs.declared.cube.Pair.{Pair}
use Rattle.cca_base.specs.Cube.{IsRising}
use Rattle.cca_base.specs.State.{IsWorld, HasValue}
use Rattle.cca_base.specs.Orders.{IsSorted}
use Rattle.cca_base.specs.Trace.{ExecutiveState, HasOneValue}
use Rattle.list_laws.proofs.Few.{below_two}
use Rattle.cca_laws.proofs.OneOrder.{one_sorted}
use Rattle.cca_laws.specs.ObservedExamples.{loose, x_low, y_high, as_given, as_kept, PendingRises, NothingMirrored, GoalIsTurned, GoalIsKeptTurned, TickHasGoalTurned}
use Rattle.cca_laws.specs.Laws.{NoneTwice}

rising : IsRising (x_low ∷ y_high ∷ [])
rising zero zero d h k = absurd (omega arith)
rising zero (suc zero) d h k = omega arith
rising zero (suc (suc j)) d h k = absurd (omega arith)
rising (suc i) zero d h k = absurd (omega arith)
rising (suc i) (suc zero) d h k = absurd (omega arith)
rising (suc i) (suc (suc j)) d h k = absurd (omega arith)

turned : (x y p : Pair) → Contains (x ∷ y ∷ []) p → Contains (y ∷ x ∷ []) p
turned x y p h = elim (contains_cases x p (y ∷ []) h) [
  | inl e ↦ contains_there y p (x ∷ []) (contains_here x p [] e)
  | inr later ↦ elim (contains_cases y p [] later) [ inl e ↦ contains_here y p (x ∷ []) e | inr none ↦ absurd (contains_none p none) ]
]

pub pending_rises : PendingRises
pending_rises = (
  x_low ∷ y_high ∷ [],
  record {
    rising = rising;
    each = λ p. (λ h. inr (turned x_low y_high p h), λ h. elim h [ inl none ↦ absurd (contains_none p none) | inr among ↦ turned y_high x_low p among ]);
  },
  refl,
)

pub world : (a b : ℕ) → a < 2 → b < 2 → IsWorld loose [] (a ∷ b ∷ [])
world a b h k = record { full = refl; values = below_two (λ v. HasValue loose v (slice_index (a ∷ b ∷ []) v)) h k; rules = λ i d lt. absurd (omega arith) }

either_value : (i v : ℕ) → slice_get (0 ∷ 0 ∷ []) i ≡ Some v → slice_get (1 ∷ 1 ∷ []) i ≡ Some v → ⊥
either_value zero v h k = omega (arith, same_Some 0 v h, same_Some 1 v k)
either_value (suc zero) v h k = omega (arith, same_Some 0 v h, same_Some 1 v k)
either_value (suc (suc i)) v h k = none-some v h

no_one_value : (p : Pair) → HasOneValue loose [] p → ⊥
no_one_value p h = either_value p.item p.value (h (0 ∷ 0 ∷ []) (world 0 0 (omega arith) (omega arith))) (h (1 ∷ 1 ∷ []) (world 1 1 (omega arith) (omega arith)))

pub nothing_mirrored : NothingMirrored
nothing_mirrored = record {
  rising = λ i j d lt h. absurd (omega arith);
  each = λ p. (λ among. inl among, λ h. elim h [ inl among ↦ among | inr shown ↦ absurd (no_one_value p shown.1) ]);
}

pub goal_is_turned : GoalIsTurned
goal_is_turned = record {
  same = IsPermutation-append_comm (record { item = 0; value = 0 } ∷ []) (record { item = 1; value = 1 } ∷ []);
  in_order = inr (1, record { item = 0; value = 0 } ∷ [], refl, inr (0, [], refl, refl));
}

-- no component comes twice in the order
once : NoneTwice (1 ∷ 0 ∷ [])
once = (
  λ among. elim (contains_cases 0 1 [] among) [ inl e ↦ absurd (omega (arith, e)) | inr none ↦ contains_none 1 none ],
  (contains_none 0, tt),
)

pub goal_is_kept_turned : GoalIsKeptTurned
goal_is_kept_turned x y (kept, sorted, e) =
    ap (λ (z : ExecutiveState). z.goal) e
    ∙ ap Some (one_sorted (1 ∷ 0 ∷ []) as_given kept as_kept once sorted goal_is_turned)

pub tick_has_goal_turned : TickHasGoalTurned
tick_has_goal_turned b x t order (y, (kept, sorted, e), tick) =
    ap (λ (z : ExecutiveState). z.goal) tick.1
    ∙ goal_is_kept_turned x y (kept, subst (λ l. IsSorted l as_given kept) order sorted, e)
