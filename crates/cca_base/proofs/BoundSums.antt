-- The bounds of different components add up to no more than all bounds.
use Rattle.std.proofs.Common.{◌≡◌, ◌≢◌, ℕ, ◌+◌, ◌<◌, ◌≤◌, List, [], ◌∷◌, length, get_or, set, drop, sum, sum_by, slice_index, All, ◌∙◌, sym, arith, refl}
use Rattle.std.proofs.lemmas.List.{get_or-set_other, length-set}
use Rattle.std.proofs.lemmas.List.Elements.{All-head, All-tail, All-weaker}
use Rattle.std.proofs.lemmas.List.Sums.{sum_by-set, sum_by-cons, sum_by-drop_more}
use Rattle.list_laws.proofs.Pairwise.{AllPairs-head, AllPairs-tail}
use Rattle.cca_base.specs.Cube.{IsCube, Lacks}
use Rattle.cca_base.specs.declared.cube.Pair.{Pair}

abbrev pub at : List ℕ → Pair → ℕ
at bounds p = slice_index bounds p.item

-- a bound that no pair is of doesn't count
sum_by-at-set : (c y : ℕ) (bounds : List ℕ) (ps : List Pair) → Lacks c ps → sum_by (at (set bounds c y)) ps ≡ sum_by (at bounds) ps
sum_by-at-set c y bounds [] h = refl
sum_by-at-set c y bounds (p ∷ ps) h =
    let head : at (set bounds c y) p ≡ at bounds p = get_or-set_other bounds c p.item y 0 (All-head (λ q. q.item ≢ c) p ps h) in
    let rest = sum_by-at-set c y bounds ps (All-tail (λ q. q.item ≢ c) p ps h) in
    omega (arith, head, rest, sum_by-cons (at (set bounds c y)) p ps, sum_by-cons (at bounds) p ps)

pub sum_of_different : (n : ℕ) (bounds : List ℕ) (ps : List Pair) → length bounds ≡ n → IsCube ps → All (λ p. p.item < n) ps → sum_by (at bounds) ps ≤ sum bounds
sum_of_different n bounds [] full cube below = omega arith
sum_of_different n bounds (p ∷ ps) full cube below =
    let without : List ℕ = set bounds p.item 0 in
    let others : Lacks p.item ps = All-weaker (λ q. p.item ≢ q.item) (λ q. q.item ≢ p.item) (λ q ne e. ne (sym e)) ps (AllPairs-head (λ a b. a.item ≢ b.item) p ps cube) in
    let rest : sum_by (at without) ps ≤ sum without =
    sum_of_different n without ps (length-set bounds p.item 0 ∙ full) (AllPairs-tail (λ a b. a.item ≢ b.item) p ps cube) (All-tail (λ q. q.item < n) p ps below)
    in
    let same : sum_by (at without) ps ≡ sum_by (at bounds) ps = sum_by-at-set p.item 0 bounds ps others in
    let here : p.item < n = All-head (λ q. q.item < n) p ps below in
    let within : p.item < length bounds = omega (arith, here, full) in
    let less : sum without + at bounds p ≡ sum bounds + 0 = sum_by-set (λ k. k) bounds p.item 0 0 within in
    omega (arith, rest, same, less, sum_by-cons (at bounds) p ps)

-- what is added so far and the next bound fit
pub next_fits : (bounds : List ℕ) (ps : List Pair) (i so_far whole : ℕ) (d : Pair) → i < length ps → so_far + sum_by (at bounds) (drop i ps) ≡ whole
    → so_far + at bounds (get_or ps i d) ≤ whole
next_fits bounds ps i so_far whole d h e = omega (arith, e, sum_by-drop_more (at bounds) ps i d h)
