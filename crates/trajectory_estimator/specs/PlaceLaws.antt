-- Where a window's values stand.
use Rattle.std.proofs.Common.{◌≡◌, ◌⊎◌, ℕ, zero, suc, ◌<◌, ◌+◌, ◌*◌, List, [], ◌∷◌, ◌++◌, length, get_or, slice_index, sym, ap, ◌∙◌, inl, inr, arith, ◌-◌}
use Rattle.std.proofs.Math.Seq.{get_or-append_seam}
use Rattle.std.proofs.lemmas.Bool.{cases_lt}
use Rattle.std.proofs.lemmas.List.{get_or-append_right, get_or_append_left, length-append}
use Rattle.std.proofs.lemmas.Nat.{mul-add-lt}
use Rattle.list_laws.proofs.Orders.{below_next, three_ways}
use Rattle.cca_base.specs.Relations.{numbers_below}
use Rattle.cca_base.proofs.PathLaws.{length-numbers}
use Rattle.trajectory_estimator.specs.Asked.{Asked}
use Rattle.trajectory_estimator.specs.Walks.{gate_place, mode_place, places}
use Rattle.trajectory_estimator.specs.Windows.{rows_of, window_of}

-- ---- rows and columns

pub number_at : (n at : ℕ) → at < n → slice_index (numbers_below n) at ≡ at
number_at zero at h = absurd (omega arith)
number_at (suc n) at h = elim (below_next at n (omega (arith, h))) [
  | inl below ↦ get_or_append_left (numbers_below n) (n ∷ []) 0 at (omega (arith, below, length-numbers n)) ∙ number_at n at below
  | inr e ↦ ap (λ k. get_or (numbers_below n ++ n ∷ []) k 0) (e ∙ sym (length-numbers n)) ∙ get_or-append_seam (numbers_below n) n [] 0 ∙ sym e
]

-- a place in a row before this one is before all places of this one
pub row_first : (n a b c : ℕ) → a < b → c < n → a * n + c < b * n
row_first n a b c less inside = let lt : a * n + c < n * b = mul-add-lt a n c b less inside in omega arith

-- a place has one row and one column
rows_apart : (n a b c d : ℕ) → c < n → d < n → a * n + c ≡ b * n + d → (c ≡ d) × (a ≡ b)
rows_apart n a b c d inside inner e = elim (three_ways a b) [
  | inl less ↦ let lt : a * n + c < b * n = row_first n a b c less inside in absurd (omega arith)
  | inr (inl same) ↦ let prod : a * n ≡ b * n = ap (λ k. k * n) same in (omega arith, same)
  | inr (inr more) ↦ let lt : b * n + d < a * n = row_first n b a d more inner in absurd (omega arith)
]

pub length-rows : (count : ℕ) (row : List ℕ) → length (rows_of count row) ≡ count * length row
length-rows zero row = omega arith
length-rows (suc count) row = omega (arith, length-append (rows_of count row) row, length-rows count row)

length_numbers : (count n : ℕ) → length (rows_of count (numbers_below n)) ≡ count * n
length_numbers count n = length-rows count (numbers_below n) ∙ ap (λ k. count * k) (length-numbers n)

-- in rows of a list stands at each place what stands at its column
pub value_in : (count n : ℕ) (row : List ℕ) (at c : ℕ) → length row ≡ n → at < count → c < n → slice_index (rows_of count row) (at * n + c) ≡ slice_index row c
value_in zero n row at c full within inside = absurd (omega arith)
value_in (suc count) n row at c full within inside =
    let whole : length (rows_of count row) ≡ count * n = length-rows count row ∙ ap (λ k. count * k) full in
    elim (below_next at count (omega (arith, within))) [
      | inl below ↦ get_or_append_left (rows_of count row) row 0 (at * n + c) (omega (arith, row_first n at count c below inside, whole)) ∙ value_in count n row at c full below inside
      | inr last ↦
          let prod : at * n ≡ count * n = ap (λ k. k * n) last in
          get_or-append_right (rows_of count row) row (count * n) (at * n + c) 0 whole (omega arith) ∙ ap (λ k. get_or row k 0) (let gone : at * n + c - count * n ≡ c = omega arith in gone)
    ]

number_in : (count n at c : ℕ) → at < count → c < n → slice_index (rows_of count (numbers_below n)) (at * n + c) ≡ c
number_in count n at c within inside = value_in count n (numbers_below n) at c (length-numbers n) within inside ∙ number_at n c inside

-- and each place has a row
row_of : (count n place : ℕ) → place < count * n → (at : ℕ) × (at < count) × (place ≡ at * n + slice_index (rows_of count (numbers_below n)) place)
row_of zero n place within = absurd (omega arith)
row_of (suc count) n place within = elim (cases_lt place (count * n)) [
  | inl before ↦
      let (at, below, is) = row_of count n place before in
      (at, omega (arith, below), is ∙ ap (λ k. at * n + k) (sym (get_or_append_left (rows_of count (numbers_below n)) (numbers_below n) 0 place (omega (arith, before, length_numbers count n)))))
  | inr behind ↦
      let column : place - count * n < n = omega (arith, within, behind) in
      let stands : slice_index (rows_of (suc count) (numbers_below n)) place ≡ place - count * n =
      get_or-append_right (rows_of count (numbers_below n)) (numbers_below n) (count * n) place 0 (length_numbers count n) behind ∙ number_at n (place - count * n) column in
      (count, omega arith, omega (arith, stands, behind))
]

-- ---- the places of a window

-- there are as many places as values
pub length-places : (q : Asked) → length (window_of q).of ≡ places q
length-places q = length_numbers (length q.records + length q.records) (length q.model.components)

-- a component's places are its own
pub record IsOwnPlace (q : Asked) (c place : ℕ) : Type 0 where
  pub within : place < places q
  pub own : slice_index (window_of q).of place ≡ c

pub mode_own : (q : Asked) (c at : ℕ) → c < length q.model.components → at < length q.records → IsOwnPlace q c (mode_place q c at)
mode_own q c at inside within = record {
  within = let lt : at * length q.model.components + c < (length q.records + length q.records) * length q.model.components = row_first (length q.model.components) at (length q.records + length q.records) c (omega arith) inside in lt;
  own = number_in (length q.records + length q.records) (length q.model.components) at c (omega arith) inside;
}

pub gate_own : (q : Asked) (c at : ℕ) → c < length q.model.components → at < length q.records → IsOwnPlace q c (gate_place q c at)
gate_own q c at inside within = record {
  within = row_first (length q.model.components) (length q.records + at) (length q.records + length q.records) c (omega arith) inside;
  own = number_in (length q.records + length q.records) (length q.model.components) (length q.records + at) c (omega arith) inside;
}

-- and it has no others
pub own_places : (q : Asked) (c place : ℕ) → IsOwnPlace q c place → (at : ℕ) × (at < length q.records) × ((place ≡ mode_place q c at) ⊎ (place ≡ gate_place q c at))
own_places q c place own =
    let n : ℕ = length q.model.components in
    let many : ℕ = length q.records in
    let (at, below, stands) = row_of (many + many) n place own.within in
    let is : place ≡ at * n + c = stands ∙ ap (λ k. at * n + k) own.own in
    elim (cases_lt at many) [
      | inl mode ↦ (at, mode, inl is)
      | inr gate ↦ (at - many, omega (arith, below, gate), inr (is ∙ ap (λ k. k * n + c) (let back : at ≡ many + (at - many) = omega (arith, gate) in back)))
    ]

-- no two places are one
pub modes_apart : (q : Asked) (c d at bt : ℕ) → c < length q.model.components → d < length q.model.components → mode_place q c at ≡ mode_place q d bt → (c ≡ d) × (at ≡ bt)
modes_apart q c d at bt inside inner e = rows_apart (length q.model.components) at bt c d inside inner e

pub gates_apart : (q : Asked) (c d at bt : ℕ) → c < length q.model.components → d < length q.model.components → gate_place q c at ≡ gate_place q d bt → (c ≡ d) × (at ≡ bt)
gates_apart q c d at bt inside inner e =
    let both = rows_apart (length q.model.components) (length q.records + at) (length q.records + bt) c d inside inner e in (both.0, omega (arith, both.1))

pub modes_before_gates : (q : Asked) (c d at bt : ℕ) → c < length q.model.components → at < length q.records → mode_place q c at < gate_place q d bt
modes_before_gates q c d at bt inside within =
    let lt : at * length q.model.components + c < (length q.records + bt) * length q.model.components = row_first (length q.model.components) at (length q.records + bt) c (omega arith) inside in
    omega arith
