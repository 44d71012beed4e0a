-- What is mirrored.
use Rattle.std.proofs.Common.{◌≡◌, ◌≢◌, ℕ, zero, suc, ◌||◌, ◌⊎◌, inl, inr, List, [], ◌∷◌, length, Some, Contains, refl, sym, ap, subst, ◌∙◌, arith}
use Rattle.std.specs.Prelude.{slice_get, slice_index, IsTrue, ◌↔◌}
use Rattle.std.proofs.lemmas.Bool.{cases_eq, both_ways, eq-eqb, ne_eqb}
use Rattle.std.proofs.lemmas.List.Elements.{All-nil}
use Rattle.std.proofs.lemmas.Option.{same_Some, none-some}
use Rattle.list_laws.proofs.Members.{contains_cases, contains_none, contains_here}
use Rattle.cca_base.specs.declared.cube.Pair.{Pair}
use Rattle.cca_base.specs.Cube.{IsUnion}
use Rattle.cca_base.specs.Sets.{has, with_number}
use Rattle.cca_base.specs.State.{HasValue}
use Rattle.cca_base.specs.Trace.{ExecutiveState, start, MayBeSeen, MayBeObserved, HasOneValue}
use Rattle.cca_base.proofs.SetLaws.{has-with_number}
use Rattle.list_laws.proofs.Few.{one_at}
use Rattle.cca_laws.proofs.ValveExamples.{rule_is, start_world, nothing_flows}
use Rattle.cca_laws.specs.ValveExamples.{valve_model, flow_rule}
use Rattle.cca_laws.specs.ObservedExamples.{loose, x_low}
use Rattle.cca_laws.specs.RightExamples.{no_flow}
use Rattle.cca_laws.specs.MirrorExamples.{MirrorsJoin, AgainAfterTick, MirrorsOutlastTicks, PlantIsMirrored}

-- the set has the new number and what it had
joined : (set v u : ℕ) → IsTrue (has (with_number set v) u) ↔ ((u ≡ v) ⊎ IsTrue (has set u))
joined set v u = elim (cases_eq u v) [
  | inl e ↦ (λ h. inl e, λ h. has-with_number set v u ∙ ap (λ b. b || has set u) (eq-eqb u v e))
  | inr other ↦
      let same : has (with_number set v) u ≡ has set u = has-with_number set v u ∙ ap (λ b. b || has set u) (ne_eqb u v other) in
      (λ h. inr (sym same ∙ h), λ h. elim h [ inl e ↦ absurd (other e) | inr old ↦ same ∙ old ])
]

pub mirrors_join : MirrorsJoin
mirrors_join m order x y v e = (
  λ u. subst (λ set. IsTrue (has set u) ↔ ((u ≡ v) ⊎ IsTrue (has x.mirrored u))) (sym (ap (λ (z : ExecutiveState). z.mirrored) e)) (joined x.mirrored v u),
  ap (λ (z : ExecutiveState). z.plant) e,
  ap (λ (z : ExecutiveState). z.pending) e,
)

-- x may be seen to be low
low_may_be_seen : MayBeObserved loose [] 0 (x_low ∷ [])
low_may_be_seen = record {
  some = omega arith;
  cube = λ i j d lt h. absurd (omega arith);
  values = one_at (λ (p : Pair). HasValue loose p.item p.value) x_low (omega arith);
  seen = one_at (λ (p : Pair). MayBeSeen loose [] 0 p.item) x_low (record { variable = _; of_model = refl; sensed = refl; unmirrored = refl; new = All-nil (λ (p : Pair). p.item ≢ 0) });
}

low_is_pending : IsUnion (Contains []) (Contains (x_low ∷ [])) (x_low ∷ [])
low_is_pending = record {
  rising = λ i j d lt h. absurd (omega arith);
  each = λ p. (λ among. inr among, λ h. elim h [ inl none ↦ absurd (contains_none p none) | inr among ↦ among ]);
}

pub again_after_tick : AgainAfterTick
again_after_tick = (low_may_be_seen, _, (x_low ∷ [], low_is_pending, refl), (low_may_be_seen, _, (x_low ∷ [], low_is_pending, refl), tt))

pub mirrors_outlast_ticks : MirrorsOutlastTicks
mirrors_outlast_ticks (may, y, change, rest) =
    both_ways (has y.mirrored 0) (rest.0.seen 0 x_low (omega arith)).unmirrored (((mirrors_join loose [] (start loose 0) y 0 change).0 0).1 (inl refl))

one_of : (w : List ℕ) → length w ≡ 1 → slice_get w 0 ≡ Some (slice_index w 0)
one_of [] e = absurd (omega arith)
one_of (v ∷ w) e = refl

none_flows : HasOneValue valve_model (0 ∷ 0 ∷ []) (record { item = 0; value = 0 })
none_flows w world =
    one_of w world.full ∙ ap Some (nothing_flows (slice_index w 0) 0 (world.values 0 (omega arith)) refl (sym (rule_is (0 ∷ 0 ∷ []) w) ∙ world.rules 0 flow_rule (omega arith)))

-- what the plant's world has
in_plant : (i v : ℕ) → slice_get (0 ∷ []) i ≡ Some v → Contains no_flow (record { item = i; value = v })
in_plant zero v h = contains_here (record { item = 0; value = 0 }) (record { item = 0; value = v }) [] (λ k. record { item = 0; value = same_Some 0 v h k })
in_plant (suc i) v h = absurd (none-some v h)

pub plant_is_mirrored : PlantIsMirrored
plant_is_mirrored = (
  record {
    rising = λ i j d lt h. absurd (omega arith);
    each = λ p. (
      λ among. elim (contains_cases (record { item = 0; value = 0 }) p [] among) [
        | inl e ↦ inr (subst (λ (q : Pair). IsTrue (has 1 q.item) × HasOneValue valve_model (0 ∷ 0 ∷ []) q) e (refl, none_flows))
        | inr none ↦ absurd (contains_none p none)
      ],
      λ h. elim h [ inl none ↦ absurd (contains_none p none) | inr shown ↦ in_plant p.item p.value (shown.1 (0 ∷ []) start_world) ],
    );
  },
  λ h. elim ((h.each (record { item = 0; value = 1 })).0 (0, omega arith, refl)) [
    | inl none ↦ contains_none (record { item = 0; value = 1 }) none
    | inr shown ↦ omega (arith, same_Some 0 1 (shown.1 (0 ∷ []) start_world))
  ],
)
