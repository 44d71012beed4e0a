-- Room for cuts: their pairs are of different places.
use Rattle.std.proofs.Common.{◌≡◌, ◌≢◌, ◌<◌, ◌≤◌, ◌+◌, ◌*◌, ℕ, Bool, true, false, IsTrue, List, [], ◌∷◌, ◌++◌, All, Contains, length, replicate, slice_index, refl, sym, subst, ◌∙◌, arith}
use Rattle.std.specs.List.{sum_by}
use Rattle.std.proofs.Math.Nat.{mul-le-mul_left}
use Rattle.std.proofs.lemmas.Bool.{both_ways}
use Rattle.std.proofs.lemmas.List.{get_or-replicate, length-append, length-replicate}
use Rattle.std.proofs.lemmas.List.Elements.{All-head, All-tail, All-weaker}
use Rattle.std.proofs.lemmas.List.Folds.{sum_by-replicate}
use Rattle.std.proofs.lemmas.List.Sums.{sum_by-cons}
use Rattle.list_laws.proofs.Members.{all_from}
use Rattle.cca_base.specs.Cube.{IsCube, Lacks}
use Rattle.cca_base.specs.declared.cube.Pair.{Pair}
use Rattle.cca_base.proofs.BoundSums.{at, sum_of_different}
use Rattle.group_search.specs.Questions.{in_group}
use Rattle.trajectory_estimator.specs.Asked.{Asked}
use Rattle.trajectory_estimator.specs.Clashes.{AreOwn}
use Rattle.trajectory_estimator.specs.PlaceLaws.{length-places}
use Rattle.trajectory_estimator.specs.Windows.{window_of}
use Rattle.trajectory_estimator.specs.declared.group_paths.GroupPaths.{GroupPaths}

-- bounds that are all 1 count the pairs
count_by_ones : (n : ℕ) (ps : List Pair) → All (λ p. p.item < n) ps → sum_by (at (replicate n 1)) ps ≡ length ps
count_by_ones n [] below = refl
count_by_ones n (p ∷ ps) below =
    let one : slice_index (replicate n 1) p.item ≡ 1 = get_or-replicate n p.item 1 0 (All-head (λ (q : Pair). q.item < n) p ps below) in
    let rest = count_by_ones n ps (All-tail (λ (q : Pair). q.item < n) p ps below) in
    omega (arith, one, rest, sum_by-cons (at (replicate n 1)) p ps)

-- a cube whose items are below n has at most n pairs
pub length-cube : (n : ℕ) (ps : List Pair) → IsCube ps → All (λ p. p.item < n) ps → length ps ≤ n
length-cube n ps cube below =
    omega (arith, sum_of_different n (replicate n 1) ps (length-replicate n 1) cube below, count_by_ones n ps below, sum_by-replicate (λ k. k) n 1)

-- a cut with one pair of a place is no longer than there are places
pub length-cut : (x : GroupPaths) (cut : List Pair) → AreOwn x cut → IsCube cut → length cut ≤ length (window_of x.query.now).of
length-cut x cut own cube =
    let n : ℕ = length (window_of x.query.now).of in
    length-cube n cut cube (All-weaker (λ p. (p.item < n) × (in_group x.names.now x.group (slice_index (window_of x.query.now).of p.item) ≡ true)) (λ p. p.item < n) (λ p h. h.0) cut own.own)

-- so there is room for its last pair
pub room_for_last : (x : GroupPaths) (cut : List Pair) (p : Pair) (room : ℕ) → AreOwn x (cut ++ p ∷ []) → IsCube (cut ++ p ∷ []) → length (window_of x.query.now).of ≤ room → length cut < room
room_for_last x cut p room own cube room_is = omega (arith, length-cut x (cut ++ p ∷ []) own cube, length-append cut (p ∷ []), room_is)

-- a place that isn't named among the pairs that were read
pub not_named : (cut pairs : List Pair) (item place : ℕ) (found : Bool) → pairs ≡ cut → item ≡ place → found ≡ false → ((p : Pair) × Contains pairs p × (p.item ≡ item) → IsTrue found)
    → Lacks place cut
not_named cut pairs item place found same is none names =
    all_from (λ p. p.item ≢ place) cut (λ p among e. both_ways found none (names (p, subst (λ (l : List Pair). Contains l p) (sym same) among, e ∙ sym is)))

-- and for a pair of each component
pub room_for_components : (q : Asked) (at : ℕ) → at < length q.records → length q.model.components ≤ length (window_of q).of
room_for_components q at within =
    let up : length q.model.components * 1 ≤ length q.model.components * (length q.records + length q.records) = mul-le-mul_left (length q.model.components) (omega (arith, within)) in
    omega (arith, up, length-places q)
