-- The order of states: by cost, and then by modes.
use Rattle.std.proofs.Common.{◌≡◌, ◌⊎◌, inl, inr, ℕ, ◌+◌, ◌-◌, ◌<◌, ◌≤◌, true, false, List, [], ◌∷◌, length, drop, get_or, All, Contains, refl, sym, ap, subst, ◌∙◌, arith}
use Rattle.std.specs.List.{AllZip, slice_range}
use Rattle.std.specs.Ordering.{nat_cmp, ordering_then, ordering_reverse, is_lt}
use Rattle.std.specs.Cmp.{IsTotalOrder, then_total, on_total, nat_cmp_total}
use Rattle.std.specs.Cmp.Lexicographic.{slice_cmp, nat_list_cmp_total}
use Rattle.std.specs.declared.cmp.Ordering.{Ordering}
use Rattle.std.specs.declared.cmp.Ordering.TheVariants.{Less, Equal, Greater}
use Rattle.std.proofs.lemmas.Cmp.{tied_itself}
use Rattle.std.proofs.lemmas.List.{get_or-take, get_or-drop, get_or_default, length-take}
use Rattle.std.proofs.lemmas.List.Sums.{sum_by-cons}
use Rattle.std.proofs.lemmas.List.Elements.{All-head, All-tail, Contains-get_or}
use Rattle.std.proofs.lemmas.Map.Lookups.{exact_unsigned}
use Rattle.list_laws.proofs.Orders.{then_equal, nat_cmp-same, then_cases, less_cmp, cmp_less, same_list}
use Rattle.cca_base.specs.Estimates.{IsEarlier}
use Rattle.cca_base.specs.declared.choice.Choice.{Choice}
use Rattle.cost_search.specs.declared.part.Span.{Span}
use Rattle.cost_search.specs.Search.{rank_cmp, IsBefore, IsUpTo}
use Rattle.cca_base.specs.Choices.{choice_cmp, IsRow}
use Rattle.cost_search.specs.SearchParts.{box, heads, head_of, nothing, IsSpan}
use Rattle.cost_search.specs.Queue.{modes_of, cost_of}
use Rattle.cost_search.proofs.Boxes.{head_of-range}

-- ---- two orders, the one after the other

pub then_first : (a b : Ordering) → a ≡ Less → ordering_then a b ≡ Less
then_first a b e = ap (λ o. ordering_then o b) e

pub then_second : (a b : Ordering) → a ≡ Equal → b ≡ Less → ordering_then a b ≡ Less
then_second a b e f = ap (λ o. ordering_then o b) e ∙ f

-- ---- costs and modes together

pub before_by_cost : (a b : ℕ) (s t : List ℕ) → a < b → IsBefore a s b t
before_by_cost a b s t h = then_first (nat_cmp a b) (slice_cmp nat_cmp s t) (less_cmp a b h)

pub before_by_modes : (a b : ℕ) (s t : List ℕ) → a ≡ b → IsEarlier s t → IsBefore a s b t
before_by_modes a b s t e h = then_second (nat_cmp a b) (slice_cmp nat_cmp s t) (nat_cmp-same a b e) h

before_cases : (a b : ℕ) (s t : List ℕ) → IsBefore a s b t → (a < b) ⊎ ((a ≡ b) × IsEarlier s t)
before_cases a b s t h = elim (then_cases (nat_cmp a b) (slice_cmp nat_cmp s t) h) [
  | inl e ↦ inl (cmp_less a b e)
  | inr both ↦ inr (exact_unsigned a b both.0, both.1)
]

rank_total : IsTotalOrder (λ (x y : ℕ × List ℕ). ordering_then (nat_cmp x.0 y.0) (slice_cmp nat_cmp x.1 y.1))
rank_total = then_total (on_total (λ (x : ℕ × List ℕ). x.0) nat_cmp_total) (on_total (λ (x : ℕ × List ℕ). x.1) nat_list_cmp_total)

pub before-trans : (a b c : ℕ) (s t u : List ℕ) → IsBefore a s b t → IsBefore b t c u → IsBefore a s c u
before-trans a b c s t u h k = rank_total.trans (a, s) (b, t) (c, u) h k

pub upto-trans : (a b c : ℕ) (s t u : List ℕ) → IsUpTo a s b t → IsUpTo b t c u → IsUpTo a s c u
upto-trans a b c s t u (inl e) k = subst (λ m. IsUpTo m s c u) e.1 (subst (λ l. IsUpTo b l c u) e.0 k)
upto-trans a b c s t u (inr h) (inl e) = inr (subst (λ m. IsBefore a s m u) (sym e.1) (subst (λ l. IsBefore a s b l) (sym e.0) h))
upto-trans a b c s t u (inr h) (inr k) = inr (before-trans a b c s t u h k)

pub upto_cost : (a b : ℕ) (s t : List ℕ) → IsUpTo a s b t → a ≤ b
upto_cost a b s t (inl e) = omega (arith, e.1)
upto_cost a b s t (inr h) = elim (before_cases a b s t h) [ inl less ↦ omega arith | inr both ↦ omega (arith, both.0) ]

upto_by : (o : Ordering) (a b : ℕ) (s t : List ℕ) → rank_cmp b t a s ≡ o → is_lt o ≡ false → IsUpTo a s b t
upto_by Less a b s t e f = absurd (cc)
upto_by Equal a b s t e f =
    let both = then_equal (nat_cmp b a) (slice_cmp nat_cmp t s) e in
    inl (same_list t s both.1, exact_unsigned b a both.0)
upto_by Greater a b s t e f = inr (rank_total.antisymm (a, s) (b, t) ∙ ap ordering_reverse e)

-- what does not come before comes after, or is the same
pub upto_from_test : (a b : ℕ) (s t : List ℕ) → is_lt (rank_cmp b t a s) ≡ false → IsUpTo a s b t
upto_from_test a b s t f = upto_by (rank_cmp b t a s) a b s t refl f

-- ---- the first state of a part

choice_upto : (row : List Choice) (from k : ℕ) (y : Choice) → IsRow row → from ≤ k → k < length row → get_or row k y ≡ y → (get_or row from y ≡ y) ⊎ (choice_cmp (get_or row from y) y ≡ Less)
choice_upto row from k y own le h e =
    let cases : (from ≡ k) ⊎ (from < k) = grind arith in
    elim cases [
      | inl same ↦ inl (ap (λ n. get_or row n y) same ∙ e)
      | inr less ↦ inr (subst (λ z. choice_cmp (get_or row from y) z ≡ Less) e (own.rising from k y less h))
    ]

-- a choice of a span comes no earlier than the first
span_upto : (row : List Choice) (s : Span) (y : Choice) → IsRow row → IsSpan row s → Contains (slice_range row s.from s.to) y
    → (head_of (slice_range row s.from s.to) ≡ y) ⊎ (choice_cmp (head_of (slice_range row s.from s.to)) y ≡ Less)
span_upto row s y own is (k, within, e) =
    let some = is.some in
    let inside = is.within in
    let short : k < s.to - s.from = omega (arith, length-take (s.to - s.from) (drop s.from row)) in
    let at : get_or row (s.from + k) y ≡ y = sym (get_or-drop s.from row k y) ∙ sym (get_or-take (s.to - s.from) (drop s.from row) k y short) ∙ e in
    let first : head_of (slice_range row s.from s.to) ≡ get_or row s.from y = head_of-range row s.from s.to some ∙ get_or_default row s.from nothing y (omega arith) in
    subst (λ z. (z ≡ y) ⊎ (choice_cmp z y ≡ Less)) (sym first) (choice_upto row s.from (s.from + k) y own (omega arith) (omega arith) at)

-- one choice more in front
more_upto : (x y : Choice) (xs ys : List Choice) → (x ≡ y) ⊎ (choice_cmp x y ≡ Less) → IsUpTo (cost_of xs) (modes_of xs) (cost_of ys) (modes_of ys)
    → IsUpTo (x.cost + cost_of xs) (x.mode ∷ modes_of xs) (y.cost + cost_of ys) (y.mode ∷ modes_of ys)
more_upto x y xs ys (inl same) (inl e) =
    inl ((let m : x.mode ≡ y.mode = ap (λ (z : Choice). z.mode) same in let rest = e.0 in cc), (let m : x.cost ≡ y.cost = ap (λ (z : Choice). z.cost) same in omega (arith, e.1)))
more_upto x y xs ys (inl same) (inr h) =
    let costs : x.cost ≡ y.cost = ap (λ (z : Choice). z.cost) same in
    let modes : x.mode ≡ y.mode = ap (λ (z : Choice). z.mode) same in
    inr (elim (before_cases (cost_of xs) (cost_of ys) (modes_of xs) (modes_of ys) h) [
      | inl less ↦ before_by_cost (x.cost + cost_of xs) (y.cost + cost_of ys) (x.mode ∷ modes_of xs) (y.mode ∷ modes_of ys) (omega arith)
      | inr both ↦ before_by_modes (x.cost + cost_of xs) (y.cost + cost_of ys) (x.mode ∷ modes_of xs) (y.mode ∷ modes_of ys) (omega (arith, both.0))
          (then_second (nat_cmp x.mode y.mode) (slice_cmp nat_cmp (modes_of xs) (modes_of ys)) (nat_cmp-same x.mode y.mode modes) both.1)
    ])
more_upto x y xs ys (inr less) u =
    let rest : cost_of xs ≤ cost_of ys = upto_cost (cost_of xs) (cost_of ys) (modes_of xs) (modes_of ys) u in
    inr (elim (then_cases (nat_cmp x.cost y.cost) (nat_cmp x.mode y.mode) less) [
      | inl cost ↦ (let lt : x.cost < y.cost = cmp_less x.cost y.cost cost in before_by_cost (x.cost + cost_of xs) (y.cost + cost_of ys) (x.mode ∷ modes_of xs) (y.mode ∷ modes_of ys) (omega arith))
      | inr both ↦ (let same : x.cost ≡ y.cost = exact_unsigned x.cost y.cost both.0 in
          let cases : (cost_of xs < cost_of ys) ⊎ (cost_of xs ≡ cost_of ys) = grind arith in
          elim cases [
            | inl lt ↦ before_by_cost (x.cost + cost_of xs) (y.cost + cost_of ys) (x.mode ∷ modes_of xs) (y.mode ∷ modes_of ys) (omega arith)
            | inr e ↦ before_by_modes (x.cost + cost_of xs) (y.cost + cost_of ys) (x.mode ∷ modes_of xs) (y.mode ∷ modes_of ys) (omega arith)
                (then_first (nat_cmp x.mode y.mode) (slice_cmp nat_cmp (modes_of xs) (modes_of ys)) both.1)
          ])
    ])

pub heads_upto : (rows : List (List Choice)) (spans : List Span) (picks : List Choice) → All IsRow rows → AllZip IsSpan rows spans → AllZip Contains (box rows spans) picks
    → IsUpTo (cost_of (heads (box rows spans))) (modes_of (heads (box rows spans))) (cost_of picks) (modes_of picks)
heads_upto [] [] [] each h k = inl (refl, refl)
heads_upto [] [] (y ∷ picks) each h k = absurd k
heads_upto [] (s ∷ spans) picks each h k = absurd h
heads_upto (row ∷ rows) [] picks each h k = absurd h
heads_upto (row ∷ rows) (s ∷ spans) [] each h k = absurd k
heads_upto (row ∷ rows) (s ∷ spans) (y ∷ picks) each h k =
    let x = head_of (slice_range row s.from s.to) in
    let xs = heads (box rows spans) in
    let more = more_upto x y xs picks (span_upto row s y (All-head IsRow row rows each) h.0 k.0) (heads_upto rows spans picks (All-tail IsRow row rows each) h.1 k.1) in
    subst (λ m. IsUpTo m (modes_of (x ∷ xs)) (cost_of (y ∷ picks)) (modes_of (y ∷ picks))) (sym (sum_by-cons (λ z. z.cost) x xs))
    (subst (λ m. IsUpTo (x.cost + cost_of xs) (modes_of (x ∷ xs)) m (modes_of (y ∷ picks))) (sym (sum_by-cons (λ z. z.cost) y picks)) more)

-- the first choices are choices
pub heads_chosen : (rows : List (List Choice)) (spans : List Span) → AllZip IsSpan rows spans → AllZip Contains rows (heads (box rows spans))
heads_chosen [] [] h = tt
heads_chosen [] (s ∷ spans) h = absurd h
heads_chosen (row ∷ rows) [] h = absurd h
heads_chosen (row ∷ rows) (s ∷ spans) h =
    let some = h.0.some in
    let within = h.0.within in
    let inside : s.from < length row = omega arith in
    (subst (Contains row) (sym (head_of-range row s.from s.to some)) (Contains-get_or row s.from nothing inside), heads_chosen rows spans h.1)

-- no state comes before itself
pub not_before_itself : (a : ℕ) (s : List ℕ) → is_lt (rank_cmp a s a s) ≡ false
not_before_itself a s = ap is_lt (tied_itself rank_total (a, s))

-- of equal cost, what comes no earlier is not earlier
pub not_earlier : (cost : ℕ) (s t : List ℕ) → IsUpTo cost s cost t → IsEarlier t s → ⊥
not_earlier cost s t u h =
    let back : IsBefore cost t cost s = before_by_modes cost cost t s refl h in
    let itself : IsBefore cost s cost s = elim u [
      | inl e ↦ subst (λ l. IsBefore cost l cost s) e.0 back
      | inr later ↦ before-trans cost cost cost s t s later back
    ] in
    let fact : is_lt (rank_cmp cost s cost s) ≡ true = ap is_lt itself in
    let other : is_lt (rank_cmp cost s cost s) ≡ false = not_before_itself cost s in absurd (cc)
