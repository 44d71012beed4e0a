-- Where components go back to.
use Rattle.std.proofs.Common.{◌≡◌, ◌<◌, ◌≤◌, ◌↔◌, ◌+◌, ◌⊎◌, ℕ, true, false, List, [], ◌∷◌, ◌++◌, length, slice_get, slice_index, take, Some, Contains, refl, sym, ap, subst, ◌∙◌, inl, inr, append_assoc, append-nil}
use Rattle.std.proofs.lemmas.Bool.{cases_Bool, both_ways}
use Rattle.std.proofs.lemmas.List.{take_all}
use Rattle.std.proofs.lemmas.Option.{slice_get_within, get_or_from_slice_get, same_Some}
use Rattle.std.proofs.lemmas.List.Elements.{All-contains, Contains-append_left, Contains-push, Contains-push_cases}
use Rattle.list_laws.proofs.Members.{all_from, contains_here, contains_there, contains_none}
use Rattle.cca_base.specs.declared.cube.Pair.{Pair}
use Rattle.cca_base.specs.Accepted.{CompiledModel}
use Rattle.cca_base.specs.Flags.{is_set}
use Rattle.cca_base.specs.Model.{HasMode, IsMended, is_broken}
use Rattle.cca_base.specs.Orders.{AreInOrder}
use Rattle.cca_base.specs.Plans.{IsWanted, IsBackGoal}
use Rattle.reach_laws.specs.Classes.{AreInside}
use Rattle.reach_laws.proofs.Facts.{get_at}
use Rattle.reach_laws.proofs.Order.{Among, IsOrder, repair_rules, order_from}
use Rattle.reach_laws.proofs.Trails.{among_from}
use Rattle.reach_laws.proofs.Walk.{member_sound}
use Rattle.reach_laws.proofs.Answered.{way_back}
use Rattle.reversibility.specs.ClassParts.{ClassParts, CoversState}
use Rattle.policy_tables.specs.Tables.{TableParts, IsTables}
use Rattle.planner_step.specs.Planning.{member_of, IsGoal}
use Rattle.planner_step.proofs.Covered.{setting, inside_mode}
use Rattle.plan_runner.specs.WaysBack.{GoesBackTo, GoesOnlyTo, GoesNowhere, AreBackPairs}
use Rattle.planner_step.proofs.Stuck.{mendable_exactly, some_mended}
use Rattle.cca_base.proofs.NextModes.{one_mended}

-- what was taken of the whole order is all
pub taken_whole : (c : ClassParts) (s order : List ℕ) (i : ℕ) (ps : List Pair) → length order ≤ i → AreBackPairs c s (take i order) ps → AreBackPairs c s order ps
taken_whole c s order i ps past h = subst (λ l. AreBackPairs c s l ps) (take_all i order past) h

module _ (t : TableParts) (is : IsTables t) (s : List ℕ) (cov : CoversState t.classes s) where
  abbrev b : CompiledModel
  b = t.classes.compiled

  -- ---- where one component goes back to

  only_sound : (c mode : ℕ) → slice_get s c ≡ Some mode → is_broken b.model.moves c mode ≡ false → GoesOnlyTo t.classes s c mode
  only_sound c mode at sound x = (
    (λ back. elim back [
      | inl held ↦ same_Some x mode (sym held.0 ∙ at)
      | inr other ↦
          let same : other.0 ≡ mode = same_Some other.0 mode (sym other.1 ∙ at) in
          absurd (both_ways (is_broken b.model.moves c mode) sound (subst (λ y. is_broken b.model.moves c y ≡ true) same other.2.broken))
    ]),
    (λ e. inl (at ∙ ap (λ v. Some v) (sym e), subst (λ y. is_broken b.model.moves c y ≡ false) (sym e) sound)),
  )

  pub only_mended : (c mode a : ℕ) → slice_get s c ≡ Some mode → IsMended b.model.moves c mode a → is_set t.classes.mendable c ≡ true → GoesOnlyTo t.classes s c a
  only_mended c mode a at mended flag x = (
    (λ back. elim back [
      | inl held ↦
          let same : x ≡ mode = same_Some x mode (sym held.0 ∙ at) in
          absurd (both_ways (is_broken b.model.moves c mode) (subst (λ y. is_broken b.model.moves c y ≡ false) same held.1) mended.broken)
      | inr other ↦
          let same : other.0 ≡ mode = same_Some other.0 mode (sym other.1 ∙ at) in
          one_mended b.model.version b.model.moves is.classes.compiled.accepted.well_formed.repairs c mode x a (subst (λ y. IsMended b.model.moves c y x) same other.2) mended
    ]),
    (λ e. inr (mode, at, subst (IsMended b.model.moves c mode) (sym e) mended, flag)),
  )

  pub nowhere : (c mode : ℕ) → slice_get s c ≡ Some mode → is_broken b.model.moves c mode ≡ true → is_set t.classes.mendable c ≡ false → GoesNowhere t.classes s c
  nowhere c mode at broken flag x back = elim back [
    | inl held ↦
        let same : x ≡ mode = same_Some x mode (sym held.0 ∙ at) in
        both_ways (is_broken b.model.moves c mode) (subst (λ y. is_broken b.model.moves c y ≡ false) same held.1) broken
    | inr other ↦ both_ways (is_set t.classes.mendable c) flag other.3
  ]

  -- each component goes back to one mode, or nowhere
  goes_of : (c : ℕ) → c < length b.model.components → ((v : ℕ) × GoesOnlyTo t.classes s c v) ⊎ GoesNowhere t.classes s c
  goes_of c within =
      let mode : ℕ = slice_index s c in
      let at : slice_get s c ≡ Some mode = get_at s c (subst (λ n. c < n) (sym cov.state.full) within) in
      elim (cases_Bool (is_broken b.model.moves c mode)) [
        | inr sound ↦ inl (mode, only_sound c mode at sound)
        | inl broken ↦ elim (cases_Bool (is_set t.classes.mendable c)) [
          | inl flag ↦ let mended = some_mended t is s cov c mode within at broken flag in inl (mended.0, only_mended c mode mended.0 at mended.1 flag)
          | inr flag ↦ inr (nowhere c mode at broken flag)
        ]
      ]

  -- ---- the pairs, one component after the other

  in_order_skip : (order : List ℕ) (c : ℕ) (ps : List Pair) → AreInOrder order ps → AreInOrder (order ++ c ∷ []) ps
  in_order_skip [] c ps h = inl h
  in_order_skip (d ∷ order) c ps (inl h) = inl (in_order_skip order c ps h)
  in_order_skip (d ∷ order) c ps (inr (mode, others, e, h)) = inr (mode, others, e, in_order_skip order c others h)

  in_order_push : (order : List ℕ) (c v : ℕ) (ps : List Pair) → AreInOrder order ps → AreInOrder (order ++ c ∷ []) (ps ++ record { item = c; value = v } ∷ [])
  in_order_push [] c v ps h = inr (v, [], ap (λ l. l ++ record { item = c; value = v } ∷ []) h, refl)
  in_order_push (d ∷ order) c v ps (inl h) = inl (in_order_push order c v ps h)
  in_order_push (d ∷ order) c v ps (inr (mode, others, e, h)) =
      inr (mode, others ++ record { item = c; value = v } ∷ [], ap (λ l. l ++ record { item = c; value = v } ∷ []) e, in_order_push order c v others h)

  back_none : AreBackPairs t.classes s [] []
  back_none = record { in_order = refl; each = λ p. ((λ among. absurd (contains_none p among)), (λ h. absurd (contains_none p.item h.0))) }

  pub back_skip : (order : List ℕ) (c : ℕ) (ps : List Pair) → AreBackPairs t.classes s order ps → GoesNowhere t.classes s c → AreBackPairs t.classes s (order ++ c ∷ []) ps
  back_skip order c ps h none = record {
    in_order = in_order_skip order c ps h.in_order;
    each = λ p. (
      (λ among. let k = (h.each p).0 among in (Contains-append_left order (c ∷ []) p.item k.0, k.1)),
      (λ k. elim (Contains-push_cases order c p.item k.0) [
        | inl there ↦ (h.each p).1 (there, k.1)
        | inr e ↦ absurd (none p.value (subst (λ d. GoesBackTo t.classes s (record { item = d; value = p.value })) (sym e) k.1))
      ]),
    );
  }

  pub back_push : (order : List ℕ) (c v : ℕ) (ps : List Pair) → AreBackPairs t.classes s order ps → GoesOnlyTo t.classes s c v → AreBackPairs t.classes s (order ++ c ∷ []) (ps ++ record { item = c; value = v } ∷ [])
  back_push order c v ps h only = record {
    in_order = in_order_push order c v ps h.in_order;
    each = λ p. (
      (λ among. elim (Contains-push_cases ps (record { item = c; value = v }) p among) [
        | inl there ↦ let k = (h.each p).0 there in (Contains-append_left order (c ∷ []) p.item k.0, k.1)
        | inr e ↦ (
          subst (Contains (order ++ c ∷ [])) (ap (λ (q : Pair). q.item) e) (Contains-push order c),
          subst (GoesBackTo t.classes s) e ((only v).1 refl),
        )
      ]),
      (λ k. elim (Contains-push_cases order c p.item k.0) [
        | inl there ↦ Contains-append_left ps (record { item = c; value = v } ∷ []) p ((h.each p).1 (there, k.1))
        | inr e ↦
            let value : p.value ≡ v = (only p.value).0 (subst (λ d. GoesBackTo t.classes s (record { item = d; value = p.value })) (sym e) k.1) in
            subst (Contains (ps ++ record { item = c; value = v } ∷ [])) (λ i. record { item = e i; value = sym value i }) (Contains-push ps (record { item = c; value = v }))
      ]),
    );
  }

  -- the same, from the list's other end: such pairs there are
  back_list : (order : List ℕ) → ((c : ℕ) → Contains order c → c < length b.model.components) → (done : List ℕ) (ps : List Pair) → AreBackPairs t.classes s done ps
      → (all : List Pair) × AreBackPairs t.classes s (done ++ order) all
  back_list [] within done ps h = (ps, subst (λ l. AreBackPairs t.classes s l ps) (sym (append-nil done)) h)
  back_list (c ∷ order) within done ps h =
      let rest : (qs : List Pair) → AreBackPairs t.classes s (done ++ c ∷ []) qs → (all : List Pair) × AreBackPairs t.classes s (done ++ c ∷ order) all =
      λ qs k. (let more = back_list order (λ d among. within d (contains_there c d order among)) (done ++ c ∷ []) qs k in
      (more.0, subst (λ l. AreBackPairs t.classes s l more.0) (append_assoc done (c ∷ []) order) more.1)) in
      elim (goes_of c (within c (contains_here c c order refl))) [
        | inl only ↦ rest (ps ++ record { item = c; value = only.0 } ∷ []) (back_push done c only.0 ps h only.1)
        | inr none ↦ rest ps (back_skip done c ps h none)
      ]

  ordered : IsOrder b.model b.order
  ordered = order_from b.model b.order is.classes.compiled.order

  contains_from : (c : ℕ) (xs : List ℕ) → Among c xs → Contains xs c
  contains_from c [] among = absurd among
  contains_from c (x ∷ xs) among = elim among [ inl e ↦ contains_here x c xs (sym e) | inr there ↦ contains_there x c xs (contains_from c xs there) ]

  held_place : (c x : ℕ) → slice_get s c ≡ Some x → c < length b.model.components
  held_place c x at = subst (λ n. c < n) cov.state.full (slice_get_within s c x at)

  back_place : (p : Pair) → GoesBackTo t.classes s p → p.item < length b.model.components
  back_place p back = elim back [ inl held ↦ held_place p.item p.value held.0 | inr other ↦ held_place p.item other.0 other.1 ]

  -- the pairs of the whole order are all that go back
  pub names_all : (ps : List Pair) → AreBackPairs t.classes s b.order ps → (p : Pair) → Contains ps p ↔ GoesBackTo t.classes s p
  names_all ps h p = (
    (λ among. ((h.each p).0 among).1),
    (λ back. (h.each p).1 (contains_from p.item b.order (ordered.all_there p.item (back_place p back)), back)),
  )

  -- it is the same by what allowed plans reach
  wanted_exactly : (p : Pair) → GoesBackTo t.classes s p ↔ IsWanted b.model s p
  wanted_exactly p = (
    (λ back. elim back [
      | inl held ↦ inl held
      | inr other ↦ inr (other.0, other.1, other.2, (mendable_exactly t is s cov p.item other.0 p.value (held_place p.item other.0 other.1) other.1 other.2).1 other.3)
    ]),
    (λ wanted. elim wanted [
      | inl held ↦ inl held
      | inr other ↦ inr (other.0, other.1, other.2, (mendable_exactly t is s cov p.item other.0 p.value (held_place p.item other.0 other.1) other.1 other.2).0 other.3)
    ]),
  )

  pub back_goal_is : (ps : List Pair) → AreBackPairs t.classes s b.order ps → IsBackGoal b s ps
  back_goal_is ps h = record {
    in_order = h.in_order;
    each = λ p. ((λ among. (wanted_exactly p).0 ((names_all ps h p).0 among)), (λ wanted. (names_all ps h p).1 ((wanted_exactly p).1 wanted)));
  }

  pub some_goal : (ps : List Pair) × AreBackPairs t.classes s b.order ps
  some_goal =
      let made = back_list b.order (λ c among. ordered.within c (among_from c b.order among)) [] [] back_none in
      (made.0, made.1)

  pub order_place : (c i : ℕ) → slice_get b.order i ≡ Some c → c < length b.model.components
  order_place c i at = ordered.within c (among_from c b.order (i, slice_get_within b.order i c at, get_or_from_slice_get b.order i c c at))

  pub back_is_goal : (ps : List Pair) → IsBackGoal b s ps → AreInside (member_of t) ps × IsGoal b ps
  back_is_goal ps back =
      let inside : AreInside (member_of t) ps = (way_back b t.classes.base (member_of t) s s (setting t is s cov) cov.state cov.covers (λ _ _ _ _. (0, refl)) ps back).0 in
      let each : (p : Pair) → Contains ps p → member_of t p.item p.value ≡ true = λ p among. All-contains (λ q. member_of t q.item q.value ≡ true) ps p inside among in (
        inside,
        record {
          in_order = back.in_order;
          modes = all_from (λ p. HasMode b.model p.item p.value) ps (λ p among. inside_mode t is s cov p.item p.value (each p among));
          sound = all_from (λ p. is_broken b.model.moves p.item p.value ≡ false) ps (λ p among.
              member_sound b.model t.classes.base (member_of t) (repair_rules b.model is.classes.compiled.accepted.well_formed) is.classes.classes p.item p.value (each p among));
        },
      )
