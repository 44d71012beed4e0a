-- Settled states, by the classes.
use Rattle.std.proofs.Common.{◌≡◌, ◌<◌, ℕ, true, false, cond, List, [], ◌∷◌, ◌++◌, length, slice_get, slice_index, Some, Contains, refl, sym, ap, subst, ◌∙◌, inl, inr, arith}
use Rattle.std.proofs.lemmas.Bool.{cases_Bool, cond-true, cond-false}
use Rattle.std.proofs.lemmas.List.{ext_get_or}
use Rattle.std.proofs.lemmas.List.Elements.{All-contains, All-nil, All-cons}
use Rattle.std.proofs.lemmas.Option.{slice_get-get_or, get_or_from_slice_get}
use Rattle.list_laws.proofs.Members.{all_from, contains_cases, contains_here, contains_none, contains_there}
use Rattle.cca_base.specs.declared.cube.Pair.{Pair}
use Rattle.cca_base.specs.PlantModel.{PlantModel}
use Rattle.cca_base.specs.Accepted.{CompiledModel, IsCompiled}
use Rattle.cca_base.specs.Model.{is_broken}
use Rattle.cca_base.specs.Orders.{AreInOrder}
use Rattle.cca_base.specs.Plans.{Whole}
use Rattle.cca_base.specs.Steps.{AllowedPlan}
use Rattle.reach_laws.specs.Classes.{Test, AreInside}
use Rattle.reach_laws.specs.Laws.{Setting}
use Rattle.reach_laws.specs.Cells.{Cells, IsPolicy}
use Rattle.reach_laws.proofs.Order.{Among, order_from}
use Rattle.reach_laws.proofs.Sound.{class_is_reach, stays_covered_law}
use Rattle.reach_laws.proofs.PlanLaws.{serialisation}
use Rattle.reach_laws.proofs.Answered.{empty_stays, whole_is_allowed}
use Rattle.wish_laws.specs.Settled.{Settled, IsGoalOf, PlansEndIn}
use Rattle.wish_laws.specs.Lightest.{StandsWhereItMay}

-- ---- a settled state stands where it may

module _ (m : PlantModel) (order base : List ℕ) (member : Test) (s : List ℕ) (g : Setting m order base member s) where
  settled_stands : (t : List ℕ) → Settled m s t → StandsWhereItMay m member s t
  settled_stands t its =
      let after : Setting m order base member t = stays_covered_law m order base member s g t its.commands its.plan in
      record {
        state = after.state;
        each = λ c within. elim (its.each c within) [
          | inl sound ↦ (let inside : c < length t = (let full = after.state.full in omega (arith, full, within)) in
              inl ((class_is_reach m order base member s g c (slice_index t c)).1 (sound, (its.commands, t, its.plan, slice_get-get_or t c 0 inside))))
          | inr stays ↦ inr (stays.0, λ x has. (let reached = (class_is_reach m order base member s g c x).0 has in stays.1 x reached.0 reached.1))
        ];
      }

  -- and where an allowed plan ends there, a state that stands where it may is settled
  stands_settled : (t ks : List ℕ) → AllowedPlan m s ks t → StandsWhereItMay m member s t → Settled m s t
  stands_settled t ks plan its = record {
    commands = ks;
    plan = plan;
    each = λ c within. elim (its.each c within) [
      | inl has ↦ inl ((class_is_reach m order base member s g c (slice_index t c)).0 has).0
      | inr stays ↦ inr (stays.0, λ x sound reach. stays.1 x ((class_is_reach m order base member s g c x).1 (sound, reach)))
    ];
  }

-- ---- a state's pairs in sets of modes, in an order of components

abbrev pub pairs_in : Test → List ℕ → List ℕ → List Pair
pairs_in member t [] = []
pairs_in member t (c ∷ order) = cond (member c (slice_index t c)) (record { item = c; value = slice_index t c } ∷ pairs_in member t order) (pairs_in member t order)

pub pairs_in-sorted : (member : Test) (t order : List ℕ) → AreInOrder order (pairs_in member t order)
pairs_in-sorted member t [] = refl
pairs_in-sorted member t (c ∷ order) = elim (cases_Bool (member c (slice_index t c))) [
  | inl has_it ↦ inr (
    slice_index t c,
    pairs_in member t order,
    cond-true (member c (slice_index t c)) (record { item = c; value = slice_index t c } ∷ pairs_in member t order) (pairs_in member t order) has_it,
    pairs_in-sorted member t order,
  )
  | inr has_not ↦ inl (subst (AreInOrder order) (sym (cond-false (member c (slice_index t c)) (record { item = c; value = slice_index t c } ∷ pairs_in member t order) (pairs_in member t order) has_not))
      (pairs_in-sorted member t order))
]

pairs_in-inside : (member : Test) (t order : List ℕ) → AreInside member (pairs_in member t order)
pairs_in-inside member t [] = All-nil (λ p. member p.item p.value ≡ true)
pairs_in-inside member t (c ∷ order) =
    let p : Pair = record { item = c; value = slice_index t c } in
    let rest = pairs_in-inside member t order in
    elim (cases_Bool (member c (slice_index t c))) [
      | inl has_it ↦ subst (AreInside member) (sym (cond-true (member c (slice_index t c)) (p ∷ pairs_in member t order) (pairs_in member t order) has_it))
          (All-cons (λ q. member q.item q.value ≡ true) p (pairs_in member t order) has_it rest)
      | inr has_not ↦ subst (AreInside member) (sym (cond-false (member c (slice_index t c)) (p ∷ pairs_in member t order) (pairs_in member t order) has_not)) rest
    ]

pub pairs_in-has : (member : Test) (t order : List ℕ) (c : ℕ) → Among c order → member c (slice_index t c) ≡ true → Contains (pairs_in member t order) (record { item = c; value = slice_index t c })
pairs_in-has member t [] c among has = absurd among
pairs_in-has member t (d ∷ order) c among has =
    let p : Pair = record { item = c; value = slice_index t c } in
    let q : Pair = record { item = d; value = slice_index t d } in
    let rest = pairs_in member t order in
    elim among [
      | inl e ↦ (let has_it : member d (slice_index t d) ≡ true = subst (λ n. member n (slice_index t n) ≡ true) e has in
          subst (λ l. Contains l p) (sym (cond-true (member d (slice_index t d)) (q ∷ rest) rest has_it))
          (contains_here q p rest (let f : d ≡ c = sym e in ap (λ (n : ℕ). record { item = n; value = slice_index t n }) f)))
      | inr later ↦ (let there = pairs_in-has member t order c later has in
          elim (cases_Bool (member d (slice_index t d))) [
            | inl has_it ↦ subst (λ l. Contains l p) (sym (cond-true (member d (slice_index t d)) (q ∷ rest) rest has_it)) (contains_there q p rest there)
            | inr has_not ↦ subst (λ l. Contains l p) (sym (cond-false (member d (slice_index t d)) (q ∷ rest) rest has_not)) there
          ])
    ]

pub pairs_in-from : (member : Test) (t order : List ℕ) (p : Pair) → Contains (pairs_in member t order) p → Among p.item order × (p.value ≡ slice_index t p.item) × (member p.item p.value ≡ true)
pairs_in-from member t [] p among = absurd (contains_none p among)
pairs_in-from member t (c ∷ order) p among =
    let q : Pair = record { item = c; value = slice_index t c } in
    let rest = pairs_in member t order in
    let later : Contains rest p → Among p.item (c ∷ order) × (p.value ≡ slice_index t p.item) × (member p.item p.value ≡ true) =
    λ there. (let more = pairs_in-from member t order p there in (inr more.0, more.1, more.2)) in
    elim (cases_Bool (member c (slice_index t c))) [
      | inl has_it ↦ elim (contains_cases q p rest (subst (λ l. Contains l p) (cond-true (member c (slice_index t c)) (q ∷ rest) rest has_it) among)) [
        | inl e ↦ (
          inl (sym (ap (λ (z : Pair). z.item) e)),
          subst (λ (z : Pair). z.value ≡ slice_index t z.item) e refl,
          subst (λ (z : Pair). member z.item z.value ≡ true) e has_it,
        )
        | inr there ↦ later there
      ]
      | inr has_not ↦ later (subst (λ l. Contains l p) (cond-false (member c (slice_index t c)) (q ∷ rest) rest has_not) among)
    ]

-- one component more
pub pairs_in-more : (member : Test) (t order : List ℕ) (c : ℕ) → member c (slice_index t c) ≡ true
    → pairs_in member t (order ++ c ∷ []) ≡ pairs_in member t order ++ record { item = c; value = slice_index t c } ∷ []
pairs_in-more member t [] c has_it = cond-true (member c (slice_index t c)) (record { item = c; value = slice_index t c } ∷ []) [] has_it
pairs_in-more member t (d ∷ order) c has_it =
    let p : Pair = record { item = c; value = slice_index t c } in
    let q : Pair = record { item = d; value = slice_index t d } in
    elim (cases_Bool (member d (slice_index t d))) [
      | inl in_it ↦ cond-true (member d (slice_index t d)) (q ∷ pairs_in member t (order ++ c ∷ [])) (pairs_in member t (order ++ c ∷ [])) in_it
          ∙ ap (λ l. q ∷ l) (pairs_in-more member t order c has_it)
          ∙ ap (λ l. l ++ p ∷ []) (sym (cond-true (member d (slice_index t d)) (q ∷ pairs_in member t order) (pairs_in member t order) in_it))
      | inr not_in ↦ cond-false (member d (slice_index t d)) (q ∷ pairs_in member t (order ++ c ∷ [])) (pairs_in member t (order ++ c ∷ [])) not_in
          ∙ pairs_in-more member t order c has_it
          ∙ ap (λ l. l ++ p ∷ []) (sym (cond-false (member d (slice_index t d)) (q ∷ pairs_in member t order) (pairs_in member t order) not_in))
    ]

pub pairs_in-same : (member : Test) (t order : List ℕ) (c : ℕ) → member c (slice_index t c) ≡ false → pairs_in member t (order ++ c ∷ []) ≡ pairs_in member t order
pairs_in-same member t [] c has_not = cond-false (member c (slice_index t c)) (record { item = c; value = slice_index t c } ∷ []) [] has_not
pairs_in-same member t (d ∷ order) c has_not =
    ap (λ l. cond (member d (slice_index t d)) (record { item = d; value = slice_index t d } ∷ l) l) (pairs_in-same member t order c has_not)

-- ---- a plan for the pairs of a state that stands where it may ends in it

module _ (b : CompiledModel) (base : List ℕ) (member : Test) (s : List ℕ) (g : Setting b.model b.order base member s) where
  ends_there : (t : List ℕ) → StandsWhereItMay b.model member s t → (goal : List Pair) → AreInside member goal
      → ((c : ℕ) → c < length b.model.components → member c (slice_index t c) ≡ true → Contains goal (record { item = c; value = slice_index t c }))
      → (ks last : List ℕ) → Whole b goal s ks last → last ≡ t
  ends_there t its goal inside has ks last whole =
      let (plan, holds, after) = whole_is_allowed b base member s g goal ks last inside whole in
      let state = after.state in
      ext_get_or 0 last t (state.full ∙ sym its.state.full) (λ c within.
      let inside_c : c < length b.model.components = (let full = state.full in omega (arith, full, within)) in
      elim (its.each c inside_c) [
        | inl has_it ↦ get_or_from_slice_get last c (slice_index t c) 0
            (All-contains (λ (p : Pair). slice_get last p.item ≡ Some p.value) goal (record { item = c; value = slice_index t c }) holds (has c inside_c has_it))
        | inr stays ↦ empty_stays b base member s g goal ks last inside whole c stays.1 ∙ sym stays.0
      ])

  pub plans_end : (t : List ℕ) → Settled b.model s t → (goal : List Pair) → IsGoalOf b t goal → PlansEndIn b s goal t
  plans_end t settled goal is ks last whole =
      let its = settled_stands b.model b.order base member s g t settled in
      ends_there t its goal
      (all_from (λ p. member p.item p.value ≡ true) goal (λ p among.
      let (within, value, sound) = (is.each p).0 among in
      elim (its.each p.item within) [
        | inl has_it ↦ subst (λ x. member p.item x ≡ true) (sym value) has_it
        | inr stays ↦ absurd (elim (settled.each p.item within) [
          | inl whole_mode ↦ (let full = its.state.full in stays.1 (slice_index t p.item)
              ((class_is_reach b.model b.order base member s g p.item (slice_index t p.item)).1 (whole_mode, (settled.commands, t, settled.plan, slice_get-get_or t p.item 0 (omega (arith, full, within))))))
          | inr lost ↦ (let full = its.state.full in lost.1 (slice_index t p.item) (subst (λ x. is_broken b.model.moves p.item x ≡ false) value sound)
              (settled.commands, t, settled.plan, slice_get-get_or t p.item 0 (omega (arith, full, within))))
        ])
      ]))
      (λ c within has_it. (is.each (record { item = c; value = slice_index t c })).1 (within, refl, ((class_is_reach b.model b.order base member s g c (slice_index t c)).0 has_it).0))
      ks last whole

  module _ (cells : Cells) (compiled : IsCompiled b) (policy : IsPolicy b base member cells) where
    pub settled_by_classes : (t : List ℕ) → (Settled b.model s t → StandsWhereItMay b.model member s t) × (StandsWhereItMay b.model member s t → Settled b.model s t)
    settled_by_classes t = (
      settled_stands b.model b.order base member s g t,
      (λ its.
          let order = order_from b.model b.order g.ordered in
          let goal = pairs_in member t b.order in
          let inside = pairs_in-inside member t b.order in
          let (ks, last, whole, plan, few) = serialisation b base member cells compiled policy s g goal (pairs_in-sorted member t b.order) inside in
          let same : last ≡ t = ends_there t its goal inside (λ c within has_it. pairs_in-has member t b.order c (order.all_there c within) has_it) ks last whole in
          stands_settled b.model b.order base member s g t ks (subst (λ l. AllowedPlan b.model s ks l) same plan) its),
    )
