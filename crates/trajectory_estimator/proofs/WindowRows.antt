-- Rows one behind the other, as one list of numbers.
use Rattle.std.proofs.Common.{◌≡◌, ℕ, zero, suc, ◌+◌, ◌*◌, ◌-◌, ◌<◌, ◌≤◌, List, [], ◌∷◌, ◌++◌, length, map, get_or, take, drop, slice_index, sum, All, ◌⊎◌, inl, inr, refl, sym, ap, subst, ◌∙◌, arith}
use Rattle.std.specs.Ordering.{nat_cmp, ordering_then}
use Rattle.std.specs.Cmp.Lexicographic.{slice_cmp}
use Rattle.std.specs.declared.cmp.Ordering.{Ordering}
use Rattle.std.specs.declared.cmp.Ordering.TheVariants.{Less, Equal, Greater}
use Rattle.std.proofs.lemmas.Cmp.{nat_list_cmp_total, tied_itself}
use Rattle.std.proofs.lemmas.List.{append_assoc, append-nil, drop-drop, get_or-append_right, get_or_append_left, get_or-map, length-append, map_push, take_at, drop_at, get_or_push}
use Rattle.std.proofs.lemmas.List.Elements.{All-head, All-tail}
use Rattle.std.proofs.lemmas.List.Sums.{sum_by-cons}
use Rattle.cca_base.specs.Relations.{numbers_below}
use Rattle.cca_base.proofs.PathLaws.{length-numbers}
use Rattle.group_search.specs.Floors.{every}
use Rattle.group_search.specs.Questions.{cost_in, sum_where}
use Rattle.window_laws.specs.Trajectories.{path_cmp}

-- all rows, one behind the other
abbrev pub joined : List (List ℕ) → List ℕ
joined [] = []
joined (row ∷ rows) = row ++ joined rows

-- each row is so wide
abbrev pub AreWide : ℕ → List (List ℕ) → Type 0
AreWide n rows = All (λ row. length row ≡ n) rows

pub joined-append : (a b : List (List ℕ)) → joined (a ++ b) ≡ joined a ++ joined b
joined-append [] b = refl
joined-append (row ∷ a) b = ap (λ l. row ++ l) (joined-append a b) ∙ sym (append_assoc row (joined a) (joined b))

pub length-joined : (n : ℕ) (rows : List (List ℕ)) → AreWide n rows → length (joined rows) ≡ length rows * n
length-joined n [] wide = omega arith
length-joined n (row ∷ rows) wide =
    let first : length row ≡ n = All-head (λ (l : List ℕ). length l ≡ n) row rows wide in
    let rest : length (joined rows) ≡ length rows * n = length-joined n rows (All-tail (λ (l : List ℕ). length l ≡ n) row rows wide) in
    omega (arith, length-append row (joined rows), first, rest)

no_rows : (n : ℕ) → 0 * n ≡ 0
no_rows n = omega arith

-- where a row begins, the row stands
pub row_of_joined : (n : ℕ) (rows : List (List ℕ)) (at : ℕ) → AreWide n rows → at < length rows → take n (drop (at * n) (joined rows)) ≡ get_or rows at []
row_of_joined n [] at wide within = absurd (omega arith)
row_of_joined n (row ∷ rows) zero wide within = ap (λ k. take n (drop k (row ++ joined rows))) (no_rows n) ∙ take_at row (joined rows) n (All-head (λ (l : List ℕ). length l ≡ n) row rows wide)
row_of_joined n (row ∷ rows) (suc at) wide within =
    let first : length row ≡ n = All-head (λ (l : List ℕ). length l ≡ n) row rows wide in
    let more : suc at * n ≡ n + at * n = omega arith in
    let split : drop (suc at * n) (row ++ joined rows) ≡ drop (at * n) (joined rows) =
    ap (λ k. drop k (row ++ joined rows)) more ∙ sym (drop-drop (at * n) n (row ++ joined rows)) ∙ ap (drop (at * n)) (drop_at row (joined rows) n first) in
    ap (take n) split ∙ row_of_joined n rows at (All-tail (λ (l : List ℕ). length l ≡ n) row rows wide) (omega arith)

-- the values of a row, place by place
pub at_joined : (n : ℕ) (rows : List (List ℕ)) (at c : ℕ) → AreWide n rows → at < length rows → c < n → slice_index (joined rows) (at * n + c) ≡ slice_index (get_or rows at []) c
at_joined n [] at c wide within inside = absurd (omega arith)
at_joined n (row ∷ rows) zero c wide within inside =
    let first : length row ≡ n = All-head (λ (l : List ℕ). length l ≡ n) row rows wide in
    let there : 0 * n + c ≡ c = omega arith in
    ap (λ i. get_or (row ++ joined rows) i 0) there ∙ get_or_append_left row (joined rows) 0 c (omega (arith, first, inside))
at_joined n (row ∷ rows) (suc at) c wide within inside =
    let first : length row ≡ n = All-head (λ (l : List ℕ). length l ≡ n) row rows wide in
    let less : suc at * n + c - n ≡ at * n + c = omega arith in
    get_or-append_right row (joined rows) n (suc at * n + c) 0 first (omega arith) ∙ ap (λ i. get_or (joined rows) i 0) less
    ∙ at_joined n rows at c (All-tail (λ (l : List ℕ). length l ≡ n) row rows wide) (omega arith) inside

-- a longer beginning
pub take_further : (m n : ℕ) (l : List ℕ) → take (m + n) l ≡ take m l ++ take n (drop m l)
take_further zero n l = let all : 0 + n ≡ n = omega arith in ap (λ k. take k l) all
take_further (suc m) n [] = none_of (suc m + n) ∙ sym (none_of n)
  where
    none_of : (k : ℕ) → ◌≡◌ {A = List ℕ} (take k []) []
    none_of zero = refl
    none_of (suc k) = refl
take_further (suc m) n (x ∷ l) = let more : suc m + n ≡ suc (m + n) = omega arith in ap (λ k. take k (x ∷ l)) more ∙ ap (λ t. x ∷ t) (take_further m n l)

-- the rows of a list, joined again
pub joined_rows : (n count : ℕ) (values : List ℕ) → joined (map (λ at. take n (drop (at * n) values)) (numbers_below count)) ≡ take (count * n) values
joined_rows n zero values = sym (ap (λ k. take k values) (no_rows n))
joined_rows n (suc count) values =
    let row : ℕ → List ℕ = λ at. take n (drop (at * n) values) in
    let rest : joined (map row (numbers_below count)) ≡ take (count * n) values = joined_rows n count values in
    let more : suc count * n ≡ count * n + n = omega arith in
    ap joined (map_push row (numbers_below count) count) ∙ joined-append (map row (numbers_below count)) (row count ∷ [])
    ∙ ap (λ l. joined (map row (numbers_below count)) ++ l) (append-nil (row count)) ∙ ap (λ l. l ++ row count) rest
    ∙ sym (take_further (count * n) n values) ∙ ap (λ k. take k values) (sym more)

pub at_numbers : (n i : ℕ) → i < n → get_or (numbers_below n) i 0 ≡ i
at_numbers zero i within = absurd (omega arith)
at_numbers (suc n) i within =
    let long : length (numbers_below n) ≡ n = length-numbers n in
    elim (below_cases i n within) [
      | inl less ↦ get_or_append_left (numbers_below n) (n ∷ []) 0 i (omega (arith, long, less)) ∙ at_numbers n i less
      | inr same ↦ get_or_push (numbers_below n) n 0 i (long ∙ sym same) ∙ sym same
    ]
  where
    below_cases : (i n : ℕ) → i < suc n → (i < n) ⊎ (i ≡ n)
    below_cases i n h = grind arith

-- what is made of each number
pub at_made : {X : Type 0} (f : ℕ → X) (n i : ℕ) (d : X) → i < n → get_or (map f (numbers_below n)) i d ≡ f i
at_made f n i d within = get_or-map f (numbers_below n) i 0 d (omega (arith, length-numbers n, within)) ∙ ap f (at_numbers n i within)

-- each place is one of a row
pub place_cases : (count n place : ℕ) → place < count * n → (at c : ℕ) × (at < count) × (c < n) × (place ≡ at * n + c)
place_cases zero n place within = absurd (omega arith)
place_cases (suc count) n place within = elim (row_cases place (count * n)) [
  | inl less ↦ (let (at, c, under, inside, e) = place_cases count n place less in (at, c, omega arith, inside, e))
  | inr more ↦ (count, place - count * n, omega arith, omega arith, omega arith)
]
  where
    row_cases : (i n : ℕ) → (i < n) ⊎ (n ≤ i)
    row_cases i n = grind arith

-- ---- orders

joined_two : (s t a b : List ℕ) → length s ≡ length t → slice_cmp nat_cmp (s ++ a) (t ++ b) ≡ ordering_then (slice_cmp nat_cmp s t) (slice_cmp nat_cmp a b)
joined_two [] [] a b e = refl
joined_two [] (y ∷ t) a b e = absurd (omega arith)
joined_two (x ∷ s) [] a b e = absurd (omega arith)
joined_two (x ∷ s) (y ∷ t) a b e = ap (λ o. ordering_then (nat_cmp x y) o) (joined_two s t a b (omega arith)) ∙ then_assoc (nat_cmp x y) (slice_cmp nat_cmp s t) (slice_cmp nat_cmp a b)
  where
    then_assoc : (o p r : Ordering) → ordering_then o (ordering_then p r) ≡ ordering_then (ordering_then o p) r
    then_assoc Less p r = refl
    then_assoc Equal p r = refl
    then_assoc Greater p r = refl

-- rows are in order as they are one behind the other
pub joined-order : (n : ℕ) (a b : List (List ℕ)) → length a ≡ length b → AreWide n a → AreWide n b → slice_cmp nat_cmp (joined a) (joined b) ≡ path_cmp a b
joined-order n [] [] e wide other = refl
joined-order n [] (t ∷ b) e wide other = absurd (omega arith)
joined-order n (s ∷ a) [] e wide other = absurd (omega arith)
joined-order n (s ∷ a) (t ∷ b) e wide other =
    let first : length s ≡ n = All-head (λ (l : List ℕ). length l ≡ n) s a wide in
    let second : length t ≡ n = All-head (λ (l : List ℕ). length l ≡ n) t b other in
    joined_two s t (joined a) (joined b) (first ∙ sym second)
    ∙ ap (λ o. ordering_then (slice_cmp nat_cmp s t) o)
    (joined-order n a b (omega arith) (All-tail (λ (l : List ℕ). length l ≡ n) s a wide) (All-tail (λ (l : List ℕ). length l ≡ n) t b other))

not_before_itself : (l : List ℕ) → slice_cmp nat_cmp l l ≡ Less → ⊥
not_before_itself l h = let e = tied_itself nat_list_cmp_total l in absurd cc

-- where one list is another or comes behind it, it doesn't come before it
pub not_behind : (a b : List ℕ) → (a ≡ b) ⊎ (slice_cmp nat_cmp b a ≡ Less) → slice_cmp nat_cmp a b ≡ Less → ⊥
not_behind a b (inl same) less = not_before_itself b (subst (λ l. slice_cmp nat_cmp l b ≡ Less) same less)
not_behind a b (inr more) less = not_before_itself a (nat_list_cmp_total.trans a b a less more)

-- ---- sums

sum_front : (n : ℕ) (f : ℕ → ℕ) → sum_where (suc n) every f ≡ f 0 + sum_where n every (λ c. f (suc c))
sum_front zero f = omega arith
sum_front (suc n) f = let rest = sum_front n f in omega arith

-- what all components cost
pub cost_of_all : (n : ℕ) (costs : List ℕ) → length costs ≡ n → cost_in n every costs ≡ sum costs
cost_of_all zero [] e = refl
cost_of_all zero (k ∷ costs) e = absurd (omega arith)
cost_of_all (suc n) [] e = absurd (omega arith)
cost_of_all (suc n) (k ∷ costs) e =
    sum_front n (λ c. get_or (k ∷ costs) c 0) ∙ ap (λ x. k + x) (cost_of_all n costs (omega arith)) ∙ sym (sum_by-cons (λ (x : ℕ). x) k costs)
