-- What is kept of a clash is a minimal one.
use Rattle.std.proofs.Common.{◌≡◌, ◌==◌, ◌++◌, not, List, [], ◌∷◌, slice_get, Some, Contains, inl, inr, sym, subst, ◌∙◌}
use Rattle.std.proofs.lemmas.Bool.{eq-eqb, not_from_true, false≢true}
use Rattle.std.proofs.lemmas.List.{append-nil, append_assoc}
use Rattle.std.proofs.lemmas.List.Elements.{All-contains, Contains-append_left, Contains-append_right, Contains-append_cases}
use Rattle.list_laws.proofs.Members.{all_from, contains_cases, contains_none, contains_there, from_filter}
use Rattle.cca_base.specs.declared.cube.Pair.{Pair}
use Rattle.cca_base.specs.PlantModel.{PlantModel}
use Rattle.cca_base.specs.Repairs.{pairs_of}
use Rattle.cca_base.specs.Shown.{CanShow, Clash, KeepsOfClash}
use Rattle.cca_base.proofs.StateLaws.{same_state}
use Rattle.consistency.specs.Conflict.{without, ConflictsAreMinimal, ThereIsOneConflict}

module _ (m : PlantModel) (seen : List Pair) where
  -- more pairs clash as well
  pub more_clash : (less more : List Pair) → ((q : Pair) → Contains less q → Contains more q) → Clash m seen less → Clash m seen more
  more_clash less more within clash t state extends =
      clash t state (all_from (λ q. slice_get t q.item ≡ Some q.value) less (λ q among. All-contains (λ r. slice_get t r.item ≡ Some r.value) more q extends (within q among)))

  -- the pairs of one more, one of which goes
  among_others : (kept rest shown : List Pair) (p q : Pair) → ((r : Pair) → Contains shown r → Contains (kept ++ p ∷ rest) r) → Contains (without p shown) q → Contains (kept ++ rest) q
  among_others kept rest shown p q within among =
      let left = from_filter (λ r. not (r.item == p.item)) shown q among in
      elim (Contains-append_cases kept (p ∷ rest) q (within q left.1)) [
        | inl front ↦ Contains-append_left kept rest q front
        | inr behind ↦ elim (contains_cases p q rest behind) [
          | inl e ↦ absurd (false≢true (sym (not_from_true (q.item == p.item) (eq-eqb q.item p.item (λ d. (sym e d).item))) ∙ left.0))
          | inr there ↦ Contains-append_right kept rest q there
        ]
      ]

  -- what is kept are some of the pairs
  kept_among : (kept rest shown : List Pair) → KeepsOfClash m seen kept rest shown → (q : Pair) → Contains shown q → Contains (kept ++ rest) q
  kept_among kept [] shown h q among = subst (λ ps. Contains ps q) (h ∙ sym (append-nil kept)) among
  kept_among kept (p ∷ rest) shown (inl (clash, h)) q among = elim (Contains-append_cases kept rest q (kept_among kept rest shown h q among)) [
    | inl front ↦ Contains-append_left kept (p ∷ rest) q front
    | inr behind ↦ Contains-append_right kept (p ∷ rest) q (contains_there p q rest behind)
  ]
  kept_among kept (p ∷ rest) shown (inr (fits, h)) q among = subst (λ ps. Contains ps q) (append_assoc kept (p ∷ []) rest) (kept_among (kept ++ p ∷ []) rest shown h q among)

  kept_clash : (kept rest shown : List Pair) → Clash m seen (kept ++ rest) → KeepsOfClash m seen kept rest shown → Clash m seen shown
  kept_clash kept [] shown before h = subst (Clash m seen) (append-nil kept ∙ sym h) before
  kept_clash kept (p ∷ rest) shown before (inl (clash, h)) = kept_clash kept rest shown clash h
  kept_clash kept (p ∷ rest) shown before (inr (fits, h)) = kept_clash (kept ++ p ∷ []) rest shown (subst (Clash m seen) (sym (append_assoc kept (p ∷ []) rest)) before) h

  -- each pair that was kept was needed, if those kept before were
  kept_minimal : (kept rest shown : List Pair) → ((p : Pair) → Contains kept p → Clash m seen (without p shown) → ⊥) → KeepsOfClash m seen kept rest shown
      → (p : Pair) → Contains shown p → Clash m seen (without p shown) → ⊥
  kept_minimal kept [] shown needed h p among = needed p (subst (λ ps. Contains ps p) h among)
  kept_minimal kept (q ∷ rest) shown needed (inl (clash, h)) p among = kept_minimal kept rest shown needed h p among
  kept_minimal kept (q ∷ rest) shown needed (inr (fits, h)) p among =
      let within : (r : Pair) → Contains shown r → Contains (kept ++ q ∷ rest) r = kept_among kept (q ∷ rest) shown (inr (fits, h)) in
      let this : Clash m seen (without q shown) → ⊥ = λ clash. fits (more_clash (without q shown) (kept ++ rest) (λ r among. among_others kept rest shown q r within among) clash) in
      kept_minimal (kept ++ q ∷ []) rest shown
      (λ r there. elim (Contains-append_cases kept (q ∷ []) r there) [
        | inl before ↦ needed r before
        | inr here ↦ elim (contains_cases q r [] here) [
          | inl e ↦ subst (λ x. Clash m seen (without x shown) → ⊥) e this
          | inr none ↦ absurd (contains_none r none)
        ]
      ])
      h p among

  one_kept : (kept rest a b : List Pair) → KeepsOfClash m seen kept rest a → KeepsOfClash m seen kept rest b → a ≡ b
  one_kept kept [] a b h k = h ∙ sym k
  one_kept kept (p ∷ rest) a b (inl (clash, h)) (inl (other, k)) = one_kept kept rest a b h k
  one_kept kept (p ∷ rest) a b (inl (clash, h)) (inr (fits, k)) = absurd (fits clash)
  one_kept kept (p ∷ rest) a b (inr (fits, h)) (inl (clash, k)) = absurd (fits clash)
  one_kept kept (p ∷ rest) a b (inr (fits, h)) (inr (other, k)) = one_kept (kept ++ p ∷ []) rest a b h k

pub conflicts_are_minimal : ConflictsAreMinimal
conflicts_are_minimal m s seen cube is_state (none, h) = record {
  part = all_from (Contains (pairs_of s)) cube (kept_among m seen [] (pairs_of s) cube h);
  clash = kept_clash m seen [] (pairs_of s) cube (λ t state extends shows. none (subst (λ x. CanShow m x seen) (same_state s t (state.full ∙ sym is_state.full) extends) shows)) h;
  minimal = kept_minimal m seen [] (pairs_of s) cube (λ p among. absurd (contains_none p among)) h;
}

pub there_is_one_conflict : ThereIsOneConflict
there_is_one_conflict m s seen a b (none, h) (other, k) = one_kept m seen [] (pairs_of s) a b h k
