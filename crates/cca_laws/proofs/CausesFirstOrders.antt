-- Orders in which what each needs comes after it, and sums along them.
use Rattle.std.proofs.Common.{◌≡◌, ◌<◌, ◌≤◌, ◌+◌, ◌==◌, ℕ, zero, suc, not, List, [], ◌∷◌, ◌++◌, length, slice_index, get_or, take, All, AllPairs, Contains, filter, sum, sum_by, inl, inr, refl, sym, ap, subst, ◌∙◌, arith}
use Rattle.std.proofs.lemmas.Bool.{ne_eqb, not_from_false, cond-true}
use Rattle.std.proofs.lemmas.List.{take_more, take_all}
use Rattle.std.proofs.lemmas.List.Elements.{All-contains}
use Rattle.std.proofs.lemmas.List.Kept.{AllPairs-filter}
use Rattle.std.proofs.lemmas.List.Sums.{sum_by-cons, sum_by_push}
use Rattle.list_laws.proofs.Tests.{not_itself}
use Rattle.cca_base.specs.Relations.{numbers_below, TakesEffectsFirstBy}
use Rattle.list_laws.proofs.Pairwise.{AllPairs-head, AllPairs-tail}
use Rattle.list_laws.proofs.Members.{contains_cases, contains_there, contains_none, from_filter}
use Rattle.cca_base.proofs.PathLaws.{all_taken, other_stays, takes_out, IsClosedUnder}

-- none comes twice, and what each needs comes after it
abbrev pub IsLaidOut : (ℕ → ℕ → Type 0) → List ℕ → Type 0
IsLaidOut relation [] = Unit {0}
IsLaidOut relation (c ∷ order) = (Contains order c → ⊥) × ((u : ℕ) → relation c u → Contains order u) × IsLaidOut relation order

module _ (relation : ℕ → ℕ → Type 0) where
  abbrev without : ℕ → List ℕ → List ℕ
  without c remaining = filter (λ d. not (d == c)) remaining

  -- what is taken remained
  pub taken : (remaining order : List ℕ) → TakesEffectsFirstBy relation remaining order → (d : ℕ) → Contains order d → Contains remaining d
  taken remaining [] h d among = absurd (contains_none d among)
  taken remaining (c ∷ order) h d among = elim (contains_cases c d order among) [
    | inl e ↦ subst (Contains remaining) e h.0
    | inr there ↦ (from_filter (λ x. not (x == c)) remaining d (taken (without c remaining) order h.3 d there)).1
  ]

  pub laid_out : (remaining order : List ℕ) → TakesEffectsFirstBy relation remaining order → IsClosedUnder relation remaining → IsLaidOut relation order
  laid_out remaining [] h closed = tt
  laid_out remaining (c ∷ order) h closed =
      let left : List ℕ = without c remaining in
      let before : (d : ℕ) → Contains left d → Contains remaining d = λ d there. (from_filter (λ x. not (x == c)) remaining d there).1 in
      let keeps : (d u : ℕ) → Contains remaining d → relation d u → Contains left u =
      λ d u there needs. other_stays c u remaining (λ same. h.1 d there (subst (relation d) same needs)) (closed d u there needs)
      in (
        λ again. not_itself c (from_filter (λ x. not (x == c)) remaining c (taken left order h.3 c again)).0,
        λ u needs. all_taken relation left order h.3 u (keeps c u h.0 needs),
        laid_out left order h.3 (λ d u there needs. keeps d u (before d there) needs),
      )

  -- what one of them needs is one of them
  pub laid_closed : (order : List ℕ) → IsLaidOut relation order → (d u : ℕ) → Contains order d → relation d u → Contains order u
  laid_closed [] h d u among needs = absurd (contains_none d among)
  laid_closed (c ∷ order) h d u among needs = elim (contains_cases c d order among) [
    | inl e ↦ contains_there c u order (h.1 u (subst (λ z. relation z u) (sym e) needs))
    | inr there ↦ contains_there c u order (laid_closed order h.2 d u there needs)
  ]

  pub laid_later : (front back : List ℕ) → IsLaidOut relation (front ++ back) → IsLaidOut relation back
  laid_later [] back h = h
  laid_later (c ∷ front) back h = laid_later front back h.2

  -- ---- sums

  module _ (f : ℕ → ℕ) where
    sum_without : (remaining : List ℕ) (c : ℕ) → AllPairs (λ a b. a < b) remaining → Contains remaining c → sum_by f remaining ≡ f c + sum_by f (without c remaining)
    sum_without [] c rising among = absurd (contains_none c among)
    sum_without (x ∷ xs) c rising among = elim (contains_cases x c xs among) [
      | inl e ↦
          let rest : without c (x ∷ xs) ≡ xs = subst (λ z. without z (x ∷ xs) ≡ xs) e (sym (takes_out x xs (AllPairs-head (λ a b. a < b) x xs rising))) in
          omega (arith, sum_by-cons f x xs, ap (sum_by f) rest, ap f e)
      | inr there ↦
          let below : x < c = All-contains (λ b. x < b) xs c (AllPairs-head (λ a b. a < b) x xs rising) there in
          let keeps : without c (x ∷ xs) ≡ x ∷ without c xs =
          cond-true (not (x == c)) (x ∷ without c xs) (without c xs) (not_from_false (x == c) (ne_eqb x c (λ e. omega (arith, e, below)))) in
          omega (arith, sum_by-cons f x xs, sum_by-cons f x (without c xs), ap (sum_by f) keeps, sum_without xs c (AllPairs-tail (λ a b. a < b) x xs rising) there)
    ]

    -- the order has all that remain, each once
    pub sum_taken : (remaining order : List ℕ) → TakesEffectsFirstBy relation remaining order → AllPairs (λ a b. a < b) remaining → sum_by f order ≡ sum_by f remaining
    sum_taken remaining [] h rising = sym (ap (sum_by f) h)
    sum_taken remaining (c ∷ order) h rising =
        omega (arith, sum_by-cons f c order, sum_without remaining c rising h.0, sum_taken (without c remaining) order h.3 (AllPairs-filter (λ a b. a < b) (λ d. not (d == c)) remaining rising))

-- the sum of the first numbers of a list
sum_first : (xs : List ℕ) (n : ℕ) → n ≤ length xs → sum_by (slice_index xs) (numbers_below n) ≡ sum (take n xs)
sum_first xs zero h = refl
sum_first xs (suc n) h =
    let more : take (n + 1) xs ≡ take n xs ++ slice_index xs n ∷ [] = take_more xs n 0 (omega arith) in
    let same : suc n ≡ n + 1 = omega arith in
    let pushed : sum (take n xs ++ slice_index xs n ∷ []) ≡ sum (take n xs) + slice_index xs n = sum_by_push (λ x. x) (take n xs) (slice_index xs n) in
    omega (arith, sum_by_push (slice_index xs) (numbers_below n) n, sum_first xs n (omega arith), ap (λ k. sum (take k xs)) same, ap sum more, pushed)

pub sum_numbers : (xs : List ℕ) (n : ℕ) → length xs ≡ n → sum_by (slice_index xs) (numbers_below n) ≡ sum xs
sum_numbers xs n full = sum_first xs n (omega (arith, full)) ∙ ap sum (take_all n xs (omega (arith, full)))

-- rising numbers below n are at most n
rising_from : (n low : ℕ) (xs : List ℕ) → AllPairs (λ a b. a < b) xs → All (λ x. low ≤ x) xs → All (λ x. x < n) xs → low ≤ n → length xs + low ≤ n
rising_from n low [] rising above below h = omega arith
rising_from n low (x ∷ xs) rising above below h =
    let least : low ≤ x = above 0 0 (omega arith) in
    let most : x < n = below 0 0 (omega arith) in
    let heads = AllPairs-head (λ a b. a < b) x xs rising in
    let rest : length xs + (x + 1) ≤ n =
    rising_from n (x + 1) xs (AllPairs-tail (λ a b. a < b) x xs rising) (λ k d within. (let lt : x < get_or xs k d = heads k d within in omega arith)) (λ k d within. below (suc k) d (omega arith)) (omega arith)
    in
    omega arith

pub rising_few : (n : ℕ) (xs : List ℕ) → AllPairs (λ a b. a < b) xs → All (λ x. x < n) xs → length xs ≤ n
rising_few n xs rising below = omega (arith, rising_from n 0 xs rising (λ k d within. omega arith) below (omega arith))
