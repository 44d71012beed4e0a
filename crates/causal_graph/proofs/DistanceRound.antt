-- One round of distances, row by row.
use Rattle.std.proofs.Common.{◌≡◌, ◌<◌, ◌≤◌, ◌+◌, ◌⊎◌, ◌==◌, ℕ, Bool, true, false, cond, eqb, List, [], ◌∷◌, ◌++◌, length, slice_index, get_or, take, set, Contains, MatchBool, inl, inr, refl, sym, ap, subst, ◌∙◌, arith}
use Rattle.std.specs.List.{IsAnyAnswer}
use Rattle.std.proofs.lemmas.Bool.{cases_lt, cases_eq, cases_order, both_ways, eqb-true, eq-eqb, ne_eqb}
use Rattle.std.proofs.lemmas.List.{get_or_past, get_or-set_same, get_or-set_other, length-set, get_or_append_left, get_or_push, length_push, take_more}
use Rattle.std.proofs.lemmas.List.Sums.{sum_by-set}
use Rattle.list_laws.proofs.Members.{contains_none}
use Rattle.causal_graph.specs.Needs.{RowNeeds}
use Rattle.causal_graph.specs.Search.{AreDirect, IsFarther, unreached}

-- only rows of the list have numbers
pub row_within : (rows : List (List ℕ)) (c u : ℕ) → RowNeeds rows c u → c < length rows
row_within rows c u h = elim (cases_lt c (length rows)) [
  | inl within ↦ within
  | inr past ↦ absurd (contains_none u (subst (λ row. Contains row u) (get_or_past rows c [] past) h))
]

-- a loop's row comes behind those before it
pub row_more : (rows slice : List (List ℕ)) (i : ℕ) (item row : List ℕ) → slice ≡ rows → i < length slice → item ≡ get_or slice i item → row ≡ item
    → take (i + 1) rows ≡ take i rows ++ row ∷ []
row_more rows slice i item row same within read is =
    subst (λ xs. take (i + 1) xs ≡ take i xs ++ row ∷ []) same (take_more slice i item within ∙ ap (λ r. take i slice ++ r ∷ []) (sym read ∙ sym is))

-- ---- the first round

-- the answer of a row
abbrev pub IsAnswer : List ℕ → ℕ → ℕ → Type 0
IsAnswer row t x = ((x ≡ 1) × Contains row t) ⊎ ((x ≡ 0) × (Contains row t → ⊥))

pub answer_yes : (row : List ℕ) (t : ℕ) → IsAnyAnswer (λ y b. eqb y t ≡ b) row true → IsAnswer row t 1
answer_yes row t (k, within, at) = inl (refl, (k, within, eqb-true (get_or row k t) t (at t)))

pub answer_no : (row : List ℕ) (t : ℕ) → IsAnyAnswer (λ y b. eqb y t ≡ b) row false → IsAnswer row t 0
answer_no row t none = inr (refl, λ among. both_ways (eqb (get_or row among.0 t) t) (none among.0 t (omega arith) among.1) (eq-eqb (get_or row among.0 t) t among.2))

pub direct_more : (rows : List (List ℕ)) (row : List ℕ) (t : ℕ) (distances : List ℕ) (x : ℕ) → AreDirect rows t distances → IsAnswer row t x
    → AreDirect (rows ++ row ∷ []) t (distances ++ x ∷ [])
direct_more rows row t distances x h answer = record {
  full = length_push distances x ∙ ap (λ n. n + 1) h.full ∙ sym (length_push rows row);
  each = λ v. elim (cases_order v (length rows)) [
    | inl e ↦
        let here : get_or (rows ++ row ∷ []) v [] ≡ row = get_or_push rows row [] v (sym e) in
        let there : get_or (distances ++ x ∷ []) v 0 ≡ x = get_or_push distances x 0 v (h.full ∙ sym e) in
        elim answer [
          | inl yes_t ↦ inl (there ∙ yes_t.0, subst (λ r. Contains r t) (sym here) yes_t.1)
          | inr no_t ↦ inr (there ∙ no_t.0, λ among. no_t.1 (subst (λ r. Contains r t) here among))
        ]
    | inr (inl below) ↦
        let here : get_or (rows ++ row ∷ []) v [] ≡ get_or rows v [] = get_or_append_left rows (row ∷ []) [] v below in
        let there : get_or (distances ++ x ∷ []) v 0 ≡ get_or distances v 0 = get_or_append_left distances (x ∷ []) 0 v (omega (arith, below, h.full)) in
        elim (h.each v) [
          | inl yes_t ↦ inl (there ∙ yes_t.0, subst (λ r. Contains r t) (sym here) yes_t.1)
          | inr no_t ↦ inr (there ∙ no_t.0, λ among. no_t.1 (subst (λ r. Contains r t) here among))
        ]
    | inr (inr above) ↦ inr (
      get_or_past (distances ++ x ∷ []) v 0 (omega (arith, above, length_push distances x, h.full)),
      λ among. contains_none t (subst (λ r. Contains r t) (get_or_past (rows ++ row ∷ []) v [] (omega (arith, above, length_push rows row))) among),
    )
  ];
}

-- ---- a later round

abbrev IsFartherAt : List (List ℕ) → ℕ → List ℕ → List ℕ → ℕ → Type 0
IsFartherAt rows level old now v =
    (slice_index now v ≡ slice_index old v)
    ⊎ ((slice_index old v ≡ 0) × (slice_index now v ≡ level + 1) × ((u : ℕ) × RowNeeds rows v u × (slice_index old u ≡ level)))

-- the round, done for the rows below i
pub record IsFartherTo (rows : List (List ℕ)) (level : ℕ) (old now : List ℕ) (found_one : Bool) (i : ℕ) : Type 0 where
  pub full : length now ≡ length old
  pub each : (v : ℕ) → IsFartherAt rows level old now v
  pub found : (v u : ℕ) → v < i → RowNeeds rows v u → slice_index old u ≡ level → 0 < slice_index now v
  pub later : (v : ℕ) → i ≤ v → slice_index now v ≡ slice_index old v
  pub fewer : MatchBool found_one (unreached now < unreached old) (now ≡ old)

pub farther_none : (rows : List (List ℕ)) (level : ℕ) (old : List ℕ) → IsFartherTo rows level old old false 0
farther_none rows level old = record { full = refl; each = λ v. inl refl; found = λ v u lt. absurd (omega arith); later = λ v le. refl; fewer = refl }

pub farther_all : (rows : List (List ℕ)) (level : ℕ) (old now : List ℕ) (found_one : Bool) (i : ℕ) → length rows ≤ i → IsFartherTo rows level old now found_one i
    → IsFarther rows level old now
farther_all rows level old now found_one i all h = record {
  full = h.full;
  each = h.each;
  found = λ v u needs at. h.found v u (let lt : v < length rows = row_within rows v u needs in omega arith) needs at;
}

fewer_unreached : (distances : List ℕ) (i x : ℕ) → i < length distances → slice_index distances i ≡ 0 → 0 < x → unreached (set distances i x) + 1 ≡ unreached distances
fewer_unreached distances i x within zero_i positive =
    let count : ℕ → ℕ = λ y. cond (y == 0) 1 0 in
    let counted = sum_by-set count distances i x 0 within in
    let was : ◌≡◌ {A = ℕ} (count (get_or distances i 0)) 1 = ap (λ b. cond b 1 0) (eq-eqb (get_or distances i 0) 0 zero_i) in
    let is : ◌≡◌ {A = ℕ} (count x) 0 = ap (λ b. cond b 1 0) (ne_eqb x 0 (λ e. omega (arith, e, positive))) in
    omega (arith, counted, was, is)

module _ (rows : List (List ℕ)) (level : ℕ) (old now : List ℕ) (found_one : Bool) (i : ℕ) (h : IsFartherTo rows level old now found_one i) (positive : 0 < level) where
  -- what is at the level was there before the round
  was_there : (u : ℕ) → slice_index now u ≡ level → slice_index old u ≡ level
  was_there u at = elim (h.each u) [ inl same ↦ sym same ∙ at | inr new ↦ absurd (omega (arith, new.1, at)) ]

  is_there : (u : ℕ) → slice_index old u ≡ level → slice_index now u ≡ level
  is_there u at = elim (h.each u) [ inl same ↦ same ∙ at | inr new ↦ absurd (omega (arith, new.0, at, positive)) ]

  not_more : (b : Bool) → MatchBool b (unreached now < unreached old) (now ≡ old) → unreached now ≤ unreached old
  not_more true lt = omega arith
  not_more false e = omega (arith, ap unreached e)

  -- row i leads on from the level, and was at no distance
  pub farther_yes : (x : ℕ) → x ≡ level + 1 → i < length now → slice_index now i ≡ 0 → (u : ℕ) × Contains (get_or rows i []) u × (slice_index now u ≡ level)
      → IsFartherTo rows level old (set now i x) true (i + 1)
  farther_yes x x_is within zero_i leads =
      let here : slice_index (set now i x) i ≡ level + 1 = get_or-set_same now i x 0 within ∙ x_is in
      let other : (v : ℕ) → (v ≡ i → ⊥) → slice_index (set now i x) v ≡ slice_index now v = λ v ne. get_or-set_other now i v x 0 ne in
      record {
        full = length-set now i x ∙ h.full;
        each = λ v. elim (cases_eq v i) [
          | inl e ↦ subst (IsFartherAt rows level old (set now i x)) (sym e)
              (inr (sym (h.later i (omega arith)) ∙ zero_i, here, (leads.0, leads.1, was_there leads.0 leads.2)))
          | inr ne ↦ elim (h.each v) [ inl same ↦ inl (other v ne ∙ same) | inr new ↦ inr (new.0, other v ne ∙ new.1, new.2) ]
        ];
        found = λ v u lt needs at. elim (cases_eq v i) [
          | inl e ↦ subst (λ z. 0 < slice_index (set now i x) z) (sym e) (omega (arith, here))
          | inr ne ↦ omega (arith, other v ne, h.found v u (let lt2 : v < i + 1 = lt in omega (arith, lt2, ne)) needs at)
        ];
        later = λ v le. other v (λ e. omega (arith, e, le)) ∙ h.later v (omega arith);
        fewer = omega (arith, fewer_unreached now i x within zero_i (omega (arith, x_is)), not_more found_one h.fewer);
      }

  -- row i is at a distance, or doesn't lead on from the level
  pub farther_no : (0 < slice_index now i) ⊎ ((u : ℕ) → Contains (get_or rows i []) u → slice_index now u ≡ level → ⊥) → IsFartherTo rows level old now found_one (i + 1)
  farther_no why = record {
    full = h.full;
    each = h.each;
    found = λ v u lt needs at. elim (cases_eq v i) [
      | inl e ↦ elim why [
        | inl above ↦ subst (λ z. 0 < slice_index now z) (sym e) above
        | inr none ↦ absurd (none u (subst (λ z. RowNeeds rows z u) e needs) (is_there u at))
      ]
      | inr ne ↦ h.found v u (let lt2 : v < i + 1 = lt in omega (arith, lt2, ne)) needs at
    ];
    later = λ v le. h.later v (omega arith);
    fewer = h.fewer;
  }
