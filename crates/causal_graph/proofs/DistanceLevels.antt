-- Distances, round by round.
use Rattle.std.proofs.Common.{◌≡◌, ◌<◌, ◌≤◌, ◌+◌, ℕ, List, [], ◌∷◌, length, slice_index, inl, inr, sym, subst, ◌∙◌, arith}
use Rattle.std.proofs.lemmas.Bool.{cases_lt}
use Rattle.cca_base.specs.Relations.{PathBy}
use Rattle.causal_graph.specs.Needs.{RowNeeds}
use Rattle.causal_graph.specs.Search.{AreDirect, AreDistances, IsFarther}

module _ (rows : List (List ℕ)) (t : ℕ) where
  -- the distances up to a level are known
  pub record IsLevelled (distances : List ℕ) (level : ℕ) : Type 0 where
    pub full : length distances ≡ length rows
    pub low : (v : ℕ) → slice_index distances v ≤ level
    pub reached : (v : ℕ) → 0 < slice_index distances v → (between : List ℕ) × PathBy (RowNeeds rows) v between t × (length between + 1 ≡ slice_index distances v)
    pub least : (v : ℕ) (between : List ℕ) → PathBy (RowNeeds rows) v between t → length between + 1 ≤ level → (0 < slice_index distances v) × (slice_index distances v ≤ length between + 1)

  module _ (distances : List ℕ) (h : AreDirect rows t distances) where
    direct_least : (v : ℕ) (between : List ℕ) → PathBy (RowNeeds rows) v between t → length between + 1 ≤ 1 → (0 < slice_index distances v) × (slice_index distances v ≤ length between + 1)
    direct_least v [] path short = elim (h.each v) [ inl yes_t ↦ (omega (arith, yes_t.0), omega (arith, yes_t.0)) | inr no_t ↦ absurd (no_t.1 path) ]
    direct_least v (u ∷ between) path short = absurd (omega arith)

    pub levelled_direct : IsLevelled distances 1
    levelled_direct = record {
      full = h.full;
      low = λ v. elim (h.each v) [ inl yes_t ↦ omega (arith, yes_t.0) | inr no_t ↦ omega (arith, no_t.0) ];
      reached = λ v above. elim (h.each v) [ inl yes_t ↦ ([], yes_t.1, sym yes_t.0) | inr no_t ↦ absurd (omega (arith, no_t.0, above)) ];
      least = direct_least;
    }

  module _ (distances new : List ℕ) (level : ℕ) (h : IsLevelled distances level) (positive : 0 < level) (step : IsFarther rows level distances new) where
    -- what is at a distance stays there
    stays : (v : ℕ) → 0 < slice_index distances v → slice_index new v ≡ slice_index distances v
    stays v above = elim (step.each v) [ inl same ↦ same | inr farther ↦ absurd (omega (arith, farther.0, above)) ]

    -- a row that needs one which is nearer than the level is at a distance
    behind : (v u : ℕ) → RowNeeds rows v u → 0 < slice_index distances u → slice_index distances u < level → (0 < slice_index distances v) × (slice_index distances v ≤ slice_index distances u + 1)
    behind v u needs above below =
        let way = h.reached u above in
        let near = h.least v (u ∷ way.0) (needs, way.1) (omega (arith, way.2, below)) in
        (near.0, omega (arith, near.1, way.2))

    new_reached : (v : ℕ) → 0 < slice_index new v → (between : List ℕ) × PathBy (RowNeeds rows) v between t × (length between + 1 ≡ slice_index new v)
    new_reached v above = elim (step.each v) [
      | inl same ↦ let way = h.reached v (omega (arith, same, above)) in (way.0, way.1, way.2 ∙ sym same)
      | inr farther ↦
          let u = farther.2.0 in
          let way = h.reached u (omega (arith, farther.2.2, positive)) in
          (u ∷ way.0, (farther.2.1, way.1), omega (arith, way.2, farther.2.2, farther.1))
    ]

    new_low : (v : ℕ) → slice_index new v ≤ level + 1
    new_low v = elim (step.each v) [ inl same ↦ omega (arith, same, h.low v) | inr farther ↦ omega (arith, farther.1) ]

    new_least : (v : ℕ) (between : List ℕ) → PathBy (RowNeeds rows) v between t → length between + 1 ≤ level + 1 → (0 < slice_index new v) × (slice_index new v ≤ length between + 1)
    new_least v [] path short =
        let near = h.least v [] path (omega arith) in
        (omega (arith, stays v near.0, near.0), omega (arith, stays v near.0, near.1))
    new_least v (u ∷ between) path short =
        let next = h.least u between path.1 (omega arith) in
        elim (cases_lt (slice_index distances u) level) [
          | inl below ↦
              let near = behind v u path.0 next.0 below in
              (omega (arith, stays v near.0, near.0), omega (arith, stays v near.0, near.1, next.1))
          | inr at ↦ elim (cases_lt 0 (slice_index distances v)) [
            | inl above ↦ (omega (arith, stays v above, above), omega (arith, stays v above, h.low v, next.1, at))
            | inr zero_v ↦ (step.found v u path.0 (omega (arith, h.low u, at)), omega (arith, new_low v, next.1, at))
          ]
        ]

    pub levelled_more : IsLevelled new (level + 1)
    levelled_more = record { full = step.full ∙ h.full; low = new_low; reached = new_reached; least = new_least }

    -- where nothing is new, all distances are known
    module _ (same : new ≡ distances) where
      far : (v : ℕ) (between : List ℕ) → PathBy (RowNeeds rows) v between t → 0 < slice_index distances v
      far v [] path = (h.least v [] path (omega arith)).0
      far v (u ∷ between) path =
          let above = far u between path.1 in
          elim (cases_lt (slice_index distances u) level) [
            | inl below ↦ (behind v u path.0 above below).0
            | inr at ↦ subst (λ xs. 0 < slice_index xs v) same (step.found v u path.0 (omega (arith, h.low u, at)))
          ]

      pub levelled_done : AreDistances rows t distances
      levelled_done = record {
        full = h.full;
        reached = h.reached;
        least = λ v between path. (
          far v between path,
          elim (cases_lt level (length between + 1)) [
            | inl above ↦ omega (arith, h.low v, above)
            | inr short ↦ (h.least v between path short).1
          ],
        );
      }
