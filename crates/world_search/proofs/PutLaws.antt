-- One entry more on a trail: the room for it, and what stands on it.
use Rattle.std.proofs.Common.{◌≡◌, ◌≢◌, inl, inr, ℕ, ◌+◌, ◌<◌, ◌≤◌, List, [], ◌∷◌, length, get_or, take, set, slice_index, bit_and, refl, sym, ap, subst, ◌∙◌, arith, get_or-set_same, get_or-set_other}
use Rattle.std.proofs.lemmas.Bool.{cases_eq}
use Rattle.std.proofs.lemmas.List.{length-set, take_more_set}
use Rattle.std.proofs.lemmas.List.Elements.{All-push}
use Rattle.cca_base.specs.declared.cube.Pair.{Pair}
use Rattle.cca_base.specs.declared.limits.TheConstants.{MAX_CHOICES}
use Rattle.clash_analysis.specs.declared.entry.Entry.{Entry}
use Rattle.clash_analysis.specs.declared.entry.Why.{Why}
use Rattle.clash_analysis.specs.declared.entry.Why.TheVariants.{Chosen}
use Rattle.clash_analysis.specs.Trails.{IsEntry, IsTrail, IsWhy}
use Rattle.clash_analysis.specs.Clashes.{AreInside, IsNoChoice}
use Rattle.clash_analysis.specs.Levels.{AreLevels, IsDerived}
use Rattle.clash_analysis.specs.Ends.{AreSets, count_all}
use Rattle.clash_analysis.proofs.TrailLaws.{pushed}
use Rattle.clash_analysis.proofs.RoomLaws.{length_below, sets_narrowed, taken}
use Rattle.world_search.specs.Works.{HasMore, ShareSome}

-- an entry, whatever the reason
abbrev pub entry_of : List ℕ → ℕ → ℕ → Why → Entry
entry_of dom u kept why = record { subject = u; before = slice_index dom u; kept = kept; why = why }

module _ (dom : List ℕ) (u kept : ℕ) (inside : u < length dom) (some : ShareSome (slice_index dom u) kept) (more : HasMore (slice_index dom u) kept) where
  pub is_entry : (W : List ℕ → Type 0) (pairs : List Pair) (why : Why) → IsWhy W pairs dom u kept why → IsEntry W pairs dom (entry_of dom u kept why)
  is_entry W pairs why is = record { inside = inside; before = refl; left = some; less = more; why = is }

  chosen : IsEntry (λ _. ⊥) [] dom (entry_of dom u kept Chosen)
  chosen = is_entry (λ _. ⊥) [] Chosen tt

  module _ (sets : AreSets MAX_CHOICES dom) where
    pub sets_after : AreSets MAX_CHOICES (set dom u (bit_and (slice_index dom u) kept))
    sets_after = sets_narrowed (λ _. ⊥) [] MAX_CHOICES dom (entry_of dom u kept Chosen) sets chosen

    pub count_after : 1 + count_all MAX_CHOICES (set dom u (bit_and (slice_index dom u) kept)) ≤ count_all MAX_CHOICES dom
    count_after = taken (λ _. ⊥) [] MAX_CHOICES dom (entry_of dom u kept Chosen ∷ []) sets (chosen, tt)

    all_counted : length dom ≤ count_all MAX_CHOICES (set dom u (bit_and (slice_index dom u) kept))
    all_counted = subst (λ n. n ≤ count_all MAX_CHOICES (set dom u (bit_and (slice_index dom u) kept))) (length-set dom u (bit_and (slice_index dom u) kept))
        (length_below MAX_CHOICES (set dom u (bit_and (slice_index dom u) kept)) (λ v h. let one = sets_after.some v h in (one.0, sets_after.small v one.0 one.1, one.1)))

    pub room_for : (long room : ℕ) → long + count_all MAX_CHOICES dom ≤ room + length dom → long < room
    room_for long room h = omega (arith, count_after, all_counted)

    pub room_after : (long room : ℕ) → long + count_all MAX_CHOICES dom ≤ room + length dom → long + 1 + count_all MAX_CHOICES (set dom u (bit_and (slice_index dom u) kept)) ≤ room + length (set dom u (bit_and (slice_index dom u) kept))
    room_after long room h = omega (arith, count_after, length-set dom u (bit_and (slice_index dom u) kept))

  pub right_after : (W : List ℕ → Type 0) (pairs : List Pair) (start : List ℕ) (trail : List Entry) (long : ℕ) (why : Why) → long < length trail → IsWhy W pairs dom u kept why → IsTrail W pairs start (take long trail) dom
      → IsTrail W pairs start (take (long + 1) (set trail long (entry_of dom u kept why))) (set dom u (bit_and (slice_index dom u) kept))
  right_after W pairs start trail long why room is t =
      subst (λ l. IsTrail W pairs start l (set dom u (bit_and (slice_index dom u) kept))) (sym (take_more_set trail long (entry_of dom u kept why) room)) (pushed W pairs start dom (take long trail) (entry_of dom u kept why) t (is_entry W pairs why is))

pub inside_put : (n : ℕ) (trail : List Entry) (long : ℕ) (e : Entry) → long < length trail → e.subject < n → AreInside n (take long trail) → AreInside n (take (long + 1) (set trail long e))
inside_put n trail long e room here all = subst (AreInside n) (sym (take_more_set trail long e room)) (All-push (λ (e : Entry). e.subject < n) (take long trail) e all here)

-- what holds of an entry's reason where one was put
module _ (trail : List Entry) (long : ℕ) (e : Entry) (room : long < length trail) where
  pub at_put : (P : Why → Type 0) (i : ℕ) (d : Entry) → (i ≡ long → P e.why) → (i ≢ long → P (get_or trail i d).why) → P (get_or (set trail long e) i d).why
  at_put P i d here there = elim (cases_eq i long) [
    | inl same ↦ subst (λ (x : Entry). P x.why) (sym (ap (λ k. get_or (set trail long e) k d) same ∙ get_or-set_same trail long e d room)) (here same)
    | inr other ↦ subst (λ (x : Entry). P x.why) (sym (get_or-set_other trail long i e d other)) (there other)
  ]

  module _ (marks : List ℕ) (levels : ℕ) (stands : AreLevels marks levels trail long) where
    pub levels_put : IsNoChoice e.why → (0 < levels → IsDerived e.why) → AreLevels marks levels (set trail long e) (long + 1)
    levels_put plain derived = record {
      marks_room = stands.marks_room;
      trail_room = omega (arith, length-set trail long e, room);
      rising = stands.rising;
      below = λ k h. omega (arith, stands.below k h);
      first = λ i d h low. at_put IsNoChoice i d (λ same. plain) (λ other. stands.first i d (omega arith) low);
      derived = λ i d h k less above none. at_put IsDerived i d (λ same. derived (omega arith)) (λ other. stands.derived i d (omega arith) k less above none);
    }

    new_mark : (k : ℕ) → levels < length marks → k < levels + 1 → (k ≡ levels → slice_index (set marks levels long) k ≡ long) × (k ≢ levels → (k < levels) × (slice_index (set marks levels long) k ≡ slice_index marks k))
    new_mark k few h = (
      λ same. ap (slice_index (set marks levels long)) same ∙ get_or-set_same marks levels long 0 few,
      λ other. (omega arith, get_or-set_other marks levels k long 0 other),
    )

    pub levels_tried : levels < length marks → AreLevels (set marks levels long) (levels + 1) (set trail long e) (long + 1)
    levels_tried few = record {
      marks_room = omega (arith, length-set marks levels long);
      trail_room = omega (arith, length-set trail long e, room);
      rising = λ j k less h.
          let low = (new_mark j few (omega arith)).1 (λ same. absurd (omega (arith, same))) in
          elim (cases_eq k levels) [
            | inl same ↦ let under : slice_index marks j < long = stands.below j low.0 in omega (arith, low.1, (new_mark k few h).0 same, under)
            | inr other ↦ let high = (new_mark k few h).1 other in let under : slice_index marks j < slice_index marks k = stands.rising j k less high.0 in omega (arith, low.1, high.1, under)
          ];
      below = λ k h. elim (cases_eq k levels) [
        | inl same ↦ omega (arith, (new_mark k few h).0 same)
        | inr other ↦ let high = (new_mark k few h).1 other in omega (arith, high.1, stands.below k high.0)
      ];
      first = λ i d h low.
          let under : i < long = subst (λ m. i < m) ((new_mark levels few (omega arith)).0 refl) (low levels (omega arith)) in
          at_put IsNoChoice i d (λ same. absurd (omega (arith, same))) (λ other. stands.first i d under (λ k small. let old = (new_mark k few (omega arith)).1 (λ same. absurd (omega (arith, same))) in subst (λ m. i < m) old.1 (low k (omega arith))));
      derived = λ i d h k less above none.
          let apart : i ≢ long = λ same. none levels (omega arith) ((new_mark levels few (omega arith)).0 refl ∙ sym same) in
          at_put IsDerived i d (λ same. absurd (apart same)) (λ other. elim (cases_eq k levels) [
            | inl same ↦ absurd (omega (arith, (new_mark k few less).0 same, above, h, apart))
            | inr old ↦
                let high = (new_mark k few less).1 old in
                stands.derived i d (omega (arith, apart)) k high.0 (subst (λ m. m < i) high.1 above) (λ j small same. none j (omega arith) (((new_mark j few (omega arith)).1 (λ e. absurd (omega (arith, e)))).1 ∙ same))
          ]);
    }
