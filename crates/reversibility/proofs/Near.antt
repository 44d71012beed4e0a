-- Levels of nearness grow edge by edge.
use Rattle.std.proofs.Common.{◌≡◌, ◌≢◌, ◌<◌, ◌≤◌, ◌+◌, ◌⊎◌, ◌||◌, ◌↔◌, ℕ, true, zero, suc, List, [], ◌∷◌, ◌++◌, length, slice_get, slice_index, slice_set, Some, refl, sym, ap, subst, ◌∙◌, inl, inr, arith, get_or-set_same, get_or-set_other, length-set}
use Rattle.std.proofs.lemmas.Bool.{cases_eq, cases_lt, or_cases, or_left, or_right}
use Rattle.std.proofs.lemmas.Option.{slice_get_within, get_or_from_slice_get, same_Some}
use Rattle.cca_base.proofs.Growth.{slice_get_cases}
use Rattle.cca_base.specs.declared.model.Move.{Move}
use Rattle.cca_base.specs.PlantModel.{PlantModel}
use Rattle.cca_base.specs.Sets.{has}
use Rattle.reversibility.specs.ClassParts.{in_row}
use Rattle.reversibility.specs.Levels.{Edges, AreMovesWithin, MoveLeads, EdgeWalk, IsNear, IsLevel, AreLevels, IsExpanded}

-- ---- one move more

-- what the move of a number leads between
pub move_within : (m : PlantModel) (n : ℕ) (numbers : List ℕ) → AreMovesWithin m n numbers → (place : ℕ) → place < length numbers → (move : Move)
    → slice_get m.moves (slice_index numbers place) ≡ Some move → (move.source < n) × (move.target < n)
move_within m n numbers within place lt move at =
    let is = within place lt in
    let same : is.0 ≡ move = same_Some is.0 move (sym is.1 ∙ at) in
    (subst (λ (z : Move). z.source < n) same is.2, subst (λ (z : Move). z.target < n) same is.3)

-- the same of a move that is read in a list of the moves
pub read_within : (m : PlantModel) (n : ℕ) (numbers : List ℕ) → AreMovesWithin m n numbers → (place : ℕ) → place < length numbers → {moves : List Move} {move : Move} → moves ≡ m.moves
    → slice_get moves (slice_index numbers place) ≡ Some move → (move.source < n) × (move.target < n)
read_within m n numbers within place lt {move = move} same at = move_within m n numbers within place lt move (subst (λ l. slice_get l (slice_index numbers place) ≡ Some move) same at)

module _ (m : PlantModel) (numbers : List ℕ) (level : List ℕ) where
  -- what the first n of the moves lead to besides
  abbrev pub IsExpandedBy : ℕ → List ℕ → Type 0
  IsExpandedBy n next = IsExpanded (MoveLeads m numbers n) level next

  more_leads : (n a x : ℕ) → MoveLeads m numbers n a x → MoveLeads m numbers (n + 1) a x
  more_leads n a x h = record { place = h.place; below = omega (arith, h.below); move = h.move; move_at = h.move_at; source = h.source; target = h.target }

  -- the last of the moves, or one before it
  pub last_or : (n a x : ℕ) (move : Move) → slice_get m.moves (slice_index numbers n) ≡ Some move → MoveLeads m numbers (n + 1) a x
      → MoveLeads m numbers n a x ⊎ ((move.source ≡ a) × (move.target ≡ x))
  last_or n a x move at h = elim (cases_lt h.place n) [
    | inl below ↦ inl (record { place = h.place; below = below; move = h.move; move_at = h.move_at; source = h.source; target = h.target })
    | inr past ↦
        let here : h.place ≡ n = omega (arith, past, h.below) in
        let same : h.move ≡ move = same_Some h.move move (sym h.move_at ∙ (ap (λ k. slice_get m.moves (slice_index numbers k)) here ∙ at)) in
        inr (sym (ap (λ z. z.source) same) ∙ h.source, sym (ap (λ z. z.target) same) ∙ h.target)
  ]

  pub expand_more : (n : ℕ) (next : List ℕ) → IsExpandedBy n next → (move : Move) → slice_get m.moves (slice_index numbers n) ≡ Some move
      → (old row set : ℕ) → slice_get next move.source ≡ Some old → slice_index level move.target ≡ row → ((b : ℕ) → has set b ≡ (has old b || has row b))
      → IsExpandedBy (n + 1) (slice_set next move.source set)
  expand_more n next h move at old row set at_old at_row made =
      let s : ℕ = move.source in
      let within : s < length next = slice_get_within next s old at_old in
      let same_row : (b : ℕ) → in_row (slice_set next s set) s b ≡ (in_row next s b || has row b) =
      λ b. (ap (λ r. has r b) (get_or-set_same next s set 0 within) ∙ (made b ∙ ap (λ r. has r b || has row b) (sym (get_or_from_slice_get next s old 0 at_old)))) in
      let other_row : (a b : ℕ) → a ≢ s → in_row (slice_set next s set) a b ≡ in_row next a b =
      λ a b ne. ap (λ r. has r b) (get_or-set_other next s a set 0 ne) in
      record {
        full = length-set next s set ∙ h.full;
        each = λ a b lt. elim (cases_eq a s) [
          | inr ne ↦ (
            (λ e. elim ((h.each a b lt).0 (sym (other_row a b ne) ∙ e)) [
              | inl was ↦ inl was
              | inr j ↦ inr (j.0, more_leads n a j.0 j.1, j.2)
            ]),
            (λ k. other_row a b ne ∙ (h.each a b lt).1 (elim k [
              | inl was ↦ inl was
              | inr j ↦ elim (last_or n a j.0 move at j.1) [
                | inl before ↦ inr (j.0, before, j.2)
                | inr here ↦ absurd (ne (sym here.0))
              ]
            ])),
          )
          | inl e ↦ subst (λ z. (in_row (slice_set next s set) z b ≡ true) ↔ ((in_row level z b ≡ true) ⊎ ((x : ℕ) × MoveLeads m numbers (n + 1) z x × (in_row level x b ≡ true)))) (sym e) (
            (λ yes_b. elim (or_cases (in_row next s b) (has row b) (sym (same_row b) ∙ yes_b)) [
              | inl before ↦ elim ((h.each s b (subst (λ z. z < length level) e lt)).0 before) [
                | inl was ↦ inl was
                | inr j ↦ inr (j.0, more_leads n s j.0 j.1, j.2)
              ]
              | inr new ↦ inr (move.target, record { place = n; below = omega arith; move = move; move_at = at; source = refl; target = refl }, ap (λ r. has r b) at_row ∙ new)
            ]),
            (λ k. same_row b ∙ elim k [
              | inl was ↦ or_left (in_row next s b) (has row b) ((h.each s b (subst (λ z. z < length level) e lt)).1 (inl was))
              | inr j ↦ elim (last_or n s j.0 move at j.1) [
                | inl before ↦ or_left (in_row next s b) (has row b) ((h.each s b (subst (λ z. z < length level) e lt)).1 (inr (j.0, before, j.2)))
                | inr here ↦ or_right (in_row next s b) (has row b) (sym (ap (λ r. has r b) at_row) ∙ subst (λ x. in_row level x b ≡ true) (sym here.1) j.2)
              ]
            ]),
          )
        ];
      }

-- ---- levels

module _ (edge : Edges) (n : ℕ) (stay : (a x : ℕ) → edge a x → x < n) where
  near_more : (k a b : ℕ) → IsNear edge k a b → IsNear edge (k + 1) a b
  near_more k a b h = record { count = h.count; few = omega (arith, h.few); walk = h.walk }

  near_split : (k a b i : ℕ) → i ≤ k + 1 → EdgeWalk edge a b i → IsNear edge k a b ⊎ ((x : ℕ) × edge a x × IsNear edge k x b)
  near_split k a b zero few walk = inl (record { count = 0; few = omega arith; walk = walk })
  near_split k a b (suc i) few walk = inr (walk.0, walk.1, record { count = i; few = omega (arith, few); walk = walk.2 })

  level_next : (k : ℕ) (level next : List ℕ) → IsLevel edge n k level → IsExpanded edge level next → IsLevel edge n (k + 1) next
  level_next k level next h made = record {
    full = made.full ∙ h.full;
    each = λ a b lt. (
      (λ e. elim ((made.each a b (subst (λ z. a < z) (sym h.full) lt)).0 e) [
        | inl old ↦ near_more k a b ((h.each a b lt).0 old)
        | inr j ↦
            let rest : IsNear edge k j.0 b = (h.each j.0 b (stay a j.0 j.1)).0 j.2 in
            record { count = suc rest.count; few = omega (arith, rest.few); walk = (j.0, j.1, rest.walk) }
      ]),
      (λ near. (made.each a b (subst (λ z. a < z) (sym h.full) lt)).1 (elim (near_split k a b near.count near.few near.walk) [
        | inl old ↦ inl ((h.each a b lt).1 old)
        | inr j ↦ inr (j.0, j.1, (h.each j.0 b (stay a j.0 j.1)).1 j.2)
      ])),
    );
  }

  pub levels_more : (levels : List (List ℕ)) (k : ℕ) (level next : List ℕ) → AreLevels edge n levels → length levels ≡ k + 1 → slice_get levels k ≡ Some level → IsExpanded edge level next
      → AreLevels edge n (levels ++ next ∷ [])
  levels_more levels k level next h full at made j other at_j = elim (slice_get_cases levels next j other at_j) [
    | inl there ↦ h j other there
    | inr last ↦
        let here : k + 1 ≡ j = omega (arith, last.0, full) in
        subst (λ z. IsLevel edge n z other) here (subst (IsLevel edge n (k + 1)) last.1 (level_next k level next (h k level at) made))
  ]

  -- where one edge more leads to nothing more, no edges do
  pub closed_walk : (level : List ℕ) → length level ≡ n → ((a : ℕ) → a < n → in_row level a a ≡ true) → IsExpanded edge level level
      → (i a b : ℕ) → a < n → EdgeWalk edge a b i → in_row level a b ≡ true
  closed_walk level full self closed zero a b lt walk = subst (λ z. in_row level a z ≡ true) walk (self a lt)
  closed_walk level full self closed (suc i) a b lt walk =
      (closed.each a b (subst (λ z. a < z) (sym full) lt)).1 (inr (walk.0, walk.1, closed_walk level full self closed i walk.0 b (stay a walk.0 walk.1) walk.2))
