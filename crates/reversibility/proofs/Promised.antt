-- What classes promise follows from the laws of classes and reach.
use Rattle.std.proofs.Common.{◌↔◌, ◌<◌, ℕ, List, length, slice_index, refl, subst, inl, inr}
use Rattle.std.proofs.lemmas.Bool.{cases_Bool, both_ways, false_from_ne_true}
use Rattle.cca_base.specs.Model.{is_broken}
use Rattle.reach_laws.specs.Classes.{Covers, Stands, IsHome, InClass}
use Rattle.reach_laws.specs.Laws.{Setting}
use Rattle.reach_laws.proofs.Agree.{allowed_inside}
use Rattle.reach_laws.proofs.Order.{repair_rules}
use Rattle.reach_laws.proofs.Sound.{class_is_reach, repairs_lead_in, stays_covered_law}
use Rattle.reach_laws.proofs.Facts.{step_within}
use Rattle.reach_laws.proofs.Walk.{home_member}
use Rattle.reversibility.specs.ClassParts.{ClassParts, IsClasses, CoversState, in_row}
use Rattle.reversibility.specs.Promises.{IsLost, IsEmptySet, IsReachOf, AllowsInside, MendsInside, StaysInside, StandsAt, StandsByChain}

module _ (p : ClassParts) (is : IsClasses p) where
  -- the classes, their order and a covered state are what the laws speak of
  pub setting : (s : List ℕ) → CoversState p s → Setting p.compiled.model p.compiled.order p.base (in_row p.rows) s
  setting s c = record {
    well_formed = is.compiled.accepted.well_formed;
    ordered = is.compiled.order;
    grounded = is.grounded;
    classes = is.classes;
    state = c.state;
    covers = c.covers;
  }

  pub reach_of : (c : ℕ) → IsReachOf p c (slice_index p.rows c)
  reach_of c s covered x = class_is_reach p.compiled.model p.compiled.order p.base (in_row p.rows) s (setting s covered) c x

  pub empty_lost : (c : ℕ) → c < length p.compiled.model.components → IsEmptySet (slice_index p.rows c) ↔ IsLost p c
  empty_lost c within = (
    (λ empty.
        let none : (a : ℕ) → IsHome p.compiled.model p.base (in_row p.rows) c a → ⊥ =
        λ a home. both_ways (in_row p.rows c a) (empty a) (home_member p.compiled.model p.base (in_row p.rows) (repair_rules p.compiled.model is.compiled.accepted.well_formed) is.classes c a home) in
        elim (cases_Bool (is_broken p.compiled.model.moves c (slice_index p.base c))) [
          | inl broken ↦ (broken, none)
          | inr sound ↦ absurd (none (slice_index p.base c) (record { within = within; sound = sound; count = 0; way = refl }))
        ]),
    (λ lost x. false_from_ne_true (in_row p.rows c x) (λ inside.
        let k : InClass p.compiled.model p.base (in_row p.rows) c x = (is.classes.each c x).0 inside in
        lost.1 k.home k.is_home)),
  )

  pub allows_inside : (s : List ℕ) → CoversState p s → AllowsInside p s
  allows_inside s covered t k step plain = allowed_inside p.compiled.model p.compiled.order p.base (in_row p.rows) s (setting s covered) t k step plain

  pub mends_inside : (s : List ℕ) → CoversState p s → MendsInside p s
  mends_inside s covered t k step repair = to_at (repairs_lead_in p.compiled.model p.compiled.order p.base (in_row p.rows) s (setting s covered) t k step repair)
    where
      to_at : Stands p.compiled.model p.base (in_row p.rows) step.move.component step.move.target → StandsAt p step.move.component step.move.target
      to_at (inl inside) = inl inside
      to_at (inr on) = inr ((is.chains step.move.component step.move.target on_within).1 on)
        where
          on_within : step.move.component < length p.compiled.model.components
          on_within = subst (λ n. step.move.component < n) covered.state.full (step_within p.compiled.model s t k step)

  pub stays_inside : (s : List ℕ) → CoversState p s → StaysInside p s
  stays_inside s covered t ks plan =
      let later : Setting p.compiled.model p.compiled.order p.base (in_row p.rows) t = stays_covered_law p.compiled.model p.compiled.order p.base (in_row p.rows) s (setting s covered) t ks plan in
      record { state = later.state; covers = later.covers }

  -- where a component stands
  stands_at : (c x : ℕ) → c < length p.compiled.model.components → Stands p.compiled.model p.base (in_row p.rows) c x ↔ StandsAt p c x
  stands_at c x within = (
    (λ stands. elim stands [ inl inside ↦ inl inside | inr on ↦ inr ((is.chains c x within).1 on) ]),
    (λ at. elim at [ inl inside ↦ inl inside | inr on ↦ inr ((is.chains c x within).0 on) ]),
  )

  -- the base is covered
  pub base_covered : CoversState p p.base
  base_covered = record {
    state = is.grounded;
    covers = λ c within. elim (cases_Bool (is_broken p.compiled.model.moves c (slice_index p.base c))) [
      | inl broken ↦ inr (record { broken = broken; count = 0; way = refl })
      | inr sound ↦ inl (home_member p.compiled.model p.base (in_row p.rows) (repair_rules p.compiled.model is.compiled.accepted.well_formed) is.classes c (slice_index p.base c)
          (record { within = within; sound = sound; count = 0; way = refl }))
    ];
  }

  -- covered is each component in its class or in a broken mode of its open chain
  pub by_chain : (s : List ℕ) → Covers p.compiled.model p.base (in_row p.rows) s ↔ StandsByChain p s
  by_chain s = (
    (λ covers c within. (stands_at c (slice_index s c) within).0 (covers c within)),
    (λ by c within. (stands_at c (slice_index s c) within).1 (by c within)),
  )
