-- Trajectories, and the best of them.
use Rattle.std.proofs.Common.{◌≡◌, ◌⊎◌, inl, inr, ℕ, suc, ◌+◌, ◌≤◌, List, [], ◌∷◌, length, Option, refl, sym, ap, subst, ◌∙◌, arith}
use Rattle.std.specs.Ordering.{nat_cmp, ordering_then, ordering_reverse}
use Rattle.std.specs.Cmp.{IsTotalOrder}
use Rattle.std.specs.Cmp.Lexicographic.{slice_cmp}
use Rattle.std.specs.declared.cmp.Ordering.TheVariants.{Less, Equal, Greater}
use Rattle.std.proofs.lemmas.Cmp.{nat_list_cmp_total, lists_total, tied_itself}
use Rattle.std.proofs.lemmas.Map.Lookups.{exact_bytes}
use Rattle.list_laws.proofs.Orders.{then_equal}
use Rattle.cca_base.specs.declared.cube.Pair.{Pair}
use Rattle.cca_base.specs.PlantModel.{PlantModel}
use Rattle.cca_base.specs.State.{Extends}
use Rattle.cca_base.specs.Estimates.{Consistent}
use Rattle.cca_base.specs.Shown.{Clash}
use Rattle.window_laws.specs.Trajectories.{Entry, Trajectory, path_cmp, IsEarlierPath, Best}

-- ---- the order of lists of states

pub path_total : IsTotalOrder (slice_cmp (slice_cmp nat_cmp))
path_total = lists_total nat_list_cmp_total

same_path : (a b : List (List ℕ)) → path_cmp a b ≡ Equal → a ≡ b
same_path [] [] e = refl
same_path [] (t ∷ b) e = absurd (cc)
same_path (s ∷ a) [] e = absurd (cc)
same_path (s ∷ a) (t ∷ b) e =
    let both = then_equal (slice_cmp nat_cmp s t) (path_cmp a b) e in
    let first : s ≡ t = exact_bytes s t both.0 in
    let rest : a ≡ b = same_path a b both.1 in cc

pub not_itself : (a : List (List ℕ)) → IsEarlierPath a a → ⊥
not_itself a h = let e = tied_itself path_total a in absurd (cc)

-- which of two lists comes first
pub path_cases : (a b : List (List ℕ)) → IsEarlierPath a b ⊎ ((a ≡ b) ⊎ IsEarlierPath b a)
path_cases a b =
    elim (path_cmp a b) as (λ o. path_cmp a b ≡ o → IsEarlierPath a b ⊎ ((a ≡ b) ⊎ IsEarlierPath b a)) [
      | Less ↦ λ e. inl e
      | Equal ↦ λ e. inr (inl (same_path a b e))
      | Greater ↦ λ e. inr (inr (path_total.antisymm b a ∙ ap ordering_reverse e))
    ] refl

-- ---- the best trajectory

pub one_best : (m : PlantModel) (anchor : List ℕ) (records : List Entry) (a b : List (List ℕ)) (cost other : ℕ)
    → Best m anchor records a cost → Best m anchor records b other → (a ≡ b) × (cost ≡ other)
one_best m anchor records a b cost other x y =
    let below : cost ≤ other = x.least b other y.trajectory in
    let above : other ≤ cost = y.least a cost x.trajectory in
    let same : cost ≡ other = omega arith in
    let there = subst (λ n. Trajectory m anchor records a n) same x.trajectory in
    let here = subst (λ n. Trajectory m anchor records b n) (sym same) y.trajectory in (
      elim (path_cases a b) [
        | inl e ↦ absurd (y.first a there e)
        | inr (inl e) ↦ e
        | inr (inr e) ↦ absurd (x.first b here e)
      ],
      same,
    )

same_head : (s : List ℕ) (a b : List (List ℕ)) → IsEarlierPath a b → IsEarlierPath (s ∷ a) (s ∷ b)
same_head s a b h = ap (λ o. ordering_then o (path_cmp a b)) (tied_itself nat_list_cmp_total s) ∙ h

pub tails_best : (m : PlantModel) (anchor s : List ℕ) (r : Entry) (records : List Entry) (states : List (List ℕ)) (cost : ℕ)
    → Best m anchor (r ∷ records) (s ∷ states) cost → (rest : ℕ) × Best m s records states rest
tails_best m anchor s r records states cost b =
    let (own, rest, consistent, tail, e) = b.trajectory in (
      rest,
      record {
        trajectory = tail;
        least = λ other more t. (let le : cost ≤ own + more = b.least (s ∷ other) (own + more) (own, more, consistent, t, refl) in omega (arith, e));
        first = λ other t earlier. b.first (s ∷ other) (own, rest, consistent, t, e) (same_head s other states earlier);
      },
    )

pub length-trajectory : (m : PlantModel) (anchor : List ℕ) (records : List Entry) (p : List (List ℕ)) (cost : ℕ) → Trajectory m anchor records p cost → length p ≡ length records
length-trajectory m anchor [] [] cost t = refl
length-trajectory m anchor [] (s ∷ p) cost t = absurd t
length-trajectory m anchor (r ∷ records) [] cost t = absurd t
length-trajectory m anchor (r ∷ records) (s ∷ p) cost (own, rest, consistent, tail, e) = ap suc (length-trajectory m s records p rest tail)

-- ---- cuts

pub clash_cuts : (m : PlantModel) (s t : List ℕ) (k : Option ℕ) (seen cube : List Pair) (cost : ℕ) → Clash m seen cube → Extends t cube → Consistent m s k seen t cost → ⊥
clash_cuts m s t k seen cube cost clash holds h = clash t h.costs.state holds (h.world, h.is_world, h.agrees)
