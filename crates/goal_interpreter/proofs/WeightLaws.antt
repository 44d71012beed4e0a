-- What states weigh.
use Rattle.std.proofs.Common.{◌≡◌, ℕ, zero, suc, ◌+◌, ◌*◌, ◌<◌, ◌≤◌, List, [], ◌∷◌, length, take, slice_index, slice_index_or, slice_get, Some, All, sym, ap, subst, ◌∙◌, arith}
use Rattle.std.proofs.lemmas.List.{length-map, get_or-map}
use Rattle.std.proofs.lemmas.Option.{slice_get_within, get_or_from_slice_get}
use Rattle.cca_base.specs.PlantModel.{PlantModel}
use Rattle.cca_base.specs.Model.{mode_counts}
use Rattle.cca_base.specs.State.{IsState}
use Rattle.wish_laws.specs.Settled.{weight_of}
use Rattle.goal_interpreter.specs.Weights.{AreWeights}
use Rattle.cca_base.specs.declared.limits.TheConstants.{MAX_WEIGHT}

-- one mode more
weight_more : (weights : List (List ℕ)) (t : List ℕ) (c : ℕ) → c < length weights → c < length t
    → weight_of (take (suc c) weights) (take (suc c) t) ≡ weight_of (take c weights) (take c t) + slice_index (slice_index_or weights c []) (slice_index t c)
weight_more [] t c h k = absurd (omega arith)
weight_more (row ∷ weights) [] c h k = absurd (omega arith)
weight_more (row ∷ weights) (mode ∷ t) zero h k = omega arith
weight_more (row ∷ weights) (mode ∷ t) (suc c) h k = (let rest = weight_more weights t c (omega arith) (omega arith) in omega (arith, rest))

module _ (m : PlantModel) (weights : List (List ℕ)) (its : AreWeights m weights) where
  pub rows_full : length weights ≡ length m.components
  rows_full = sym (length-map weights length) ∙ ap length its.full ∙ length-map m.components (λ c. length c.modes)

  pub row_full : (c : ℕ) → c < length weights → length (slice_index_or weights c []) ≡ slice_index (mode_counts m) c
  row_full c within = sym (get_or-map length weights c [] 0 within) ∙ ap (λ l. slice_index l c) its.full

  -- the sum with one mode more, and its bound
  pub weigh_more : (t : List ℕ) → IsState m t → (c sum w mode : ℕ) (row : List ℕ) → slice_get weights c ≡ Some row → slice_get t c ≡ Some mode → slice_get row mode ≡ Some w
      → (sum ≡ weight_of (take c weights) (take c t)) × (sum ≤ c * MAX_WEIGHT)
      → (sum + w ≡ weight_of (take (c + 1) weights) (take (c + 1) t)) × (sum + w ≤ (c + 1) * MAX_WEIGHT)
  weigh_more t state c sum w mode row at_row at_mode at_weight (is, low) =
      let within : c < length weights = slice_get_within weights c row at_row in
      let inside : c < length t = slice_get_within t c mode at_mode in
      let is_row : slice_index_or weights c [] ≡ row = get_or_from_slice_get weights c row [] at_row in
      let is_mode : slice_index t c ≡ mode = get_or_from_slice_get t c mode 0 at_mode in
      let is_weight : slice_index row mode ≡ w = get_or_from_slice_get row mode w 0 at_weight in
      let same : slice_index (slice_index_or weights c []) (slice_index t c) ≡ w =
      ap (λ r. slice_index r (slice_index t c)) is_row ∙ ap (slice_index row) is_mode ∙ is_weight in
      let few : w ≤ MAX_WEIGHT = subst (λ n. n ≤ MAX_WEIGHT) is_weight
      (subst (λ r. All (λ weight. weight ≤ MAX_WEIGHT) r) is_row (its.small c [] within) mode 0 (slice_get_within row mode w at_weight)) in
      let more = weight_more weights t c within inside in
      let next : suc c ≡ c + 1 = omega arith in (
        subst (λ n. sum + w ≡ weight_of (take n weights) (take n t)) next (ap (λ z. z + w) is ∙ sym (more ∙ ap (λ z. weight_of (take c weights) (take c t) + z) same)),
        omega (arith, low, few),
      )
