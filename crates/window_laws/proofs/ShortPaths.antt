-- Short trajectories, and one record more.
use Rattle.std.proofs.Common.{◌≡◌, ◌↔◌, ℕ, ◌+◌, ◌≤◌, List, [], ◌∷◌, ◌++◌, refl, ap, subst, arith}
use Rattle.std.specs.Ordering.{nat_cmp, ordering_then}
use Rattle.std.specs.Cmp.Lexicographic.{slice_cmp}
use Rattle.std.specs.declared.cmp.Ordering.TheVariants.{Less, Equal, Greater}
use Rattle.cca_base.specs.PlantModel.{PlantModel}
use Rattle.cca_base.specs.Estimates.{Consistent, Estimate, IsEarlier}
use Rattle.window_laws.specs.Trajectories.{Entry, Trajectory, Best, IsEarlierPath, path_cmp}
use Rattle.window_laws.specs.Laws.{last_or}

pub oldest_decides : (s t : List ℕ) (a b : List (List ℕ)) → IsEarlier s t → IsEarlierPath (s ∷ a) (t ∷ b)
oldest_decides s t a b h = ap (λ o. ordering_then o (path_cmp a b)) h

pub adds_at_end : (m : PlantModel) (anchor s : List ℕ) (records : List Entry) (r : Entry) (states : List (List ℕ)) (cost : ℕ)
    → Trajectory m anchor (records ++ r ∷ []) (states ++ s ∷ []) cost
    → (before own : ℕ) × Trajectory m anchor records states before × Consistent m (last_or anchor states) r.command r.seen s own × (cost ≡ before + own)
adds_at_end m anchor s [] r [] cost (own, rest, consistent, tail, e) = (0, own, refl, consistent, omega (arith, e, tail))
adds_at_end m anchor s [] r (t ∷ []) cost (own, rest, consistent, tail, e) = absurd tail
adds_at_end m anchor s [] r (t ∷ u ∷ states) cost (own, rest, consistent, tail, e) = absurd tail
adds_at_end m anchor s (q ∷ []) r [] cost (own, rest, consistent, tail, e) = absurd tail
adds_at_end m anchor s (q ∷ p ∷ records) r [] cost (own, rest, consistent, tail, e) = absurd tail
adds_at_end m anchor s (q ∷ records) r (t ∷ states) cost (own, rest, consistent, tail, e) =
    let (before, last, there, at, f) = adds_at_end m t s records r states rest tail in
    (own + before, last, (own, before, consistent, there, refl), at, omega (arith, e, f))

single : (m : PlantModel) (anchor s : List ℕ) (r : Entry) (cost : ℕ) → Consistent m anchor r.command r.seen s cost → Trajectory m anchor (r ∷ []) (s ∷ []) cost
single m anchor s r cost h = (cost, 0, h, refl, omega arith)

back : (m : PlantModel) (anchor s : List ℕ) (r : Entry) (cost : ℕ) → Trajectory m anchor (r ∷ []) (s ∷ []) cost → Consistent m anchor r.command r.seen s cost
back m anchor s r cost (own, rest, h, tail, e) = subst (Consistent m anchor r.command r.seen s) (omega (arith, e, tail)) h

equal_last : (o : List ℕ) (s : List ℕ) → IsEarlierPath (o ∷ []) (s ∷ []) → IsEarlier o s
equal_last o s h =
    elim (slice_cmp nat_cmp o s) as (λ c. ordering_then c Equal ≡ Less → c ≡ Less) [
      | Less ↦ λ e. e
      | Equal ↦ λ e. e
      | Greater ↦ λ e. e
    ] h

at_least : (m : PlantModel) (anchor s : List ℕ) (r : Entry) (cost : ℕ) → (others : List (List ℕ)) (more : ℕ) → Estimate m anchor r.command r.seen s cost → Trajectory m anchor (r ∷ []) others more → cost ≤ more
at_least m anchor s r cost [] more e t = absurd t
at_least m anchor s r cost (o ∷ []) more e t = e.least o more (back m anchor o r more t)
at_least m anchor s r cost (o ∷ p ∷ others) more e (own, rest, h, tail, f) = absurd tail

not_first : (m : PlantModel) (anchor s : List ℕ) (r : Entry) (cost : ℕ) → (others : List (List ℕ)) → Estimate m anchor r.command r.seen s cost → Trajectory m anchor (r ∷ []) others cost → IsEarlierPath others (s ∷ []) → ⊥
not_first m anchor s r cost [] e t earlier = absurd t
not_first m anchor s r cost (o ∷ []) e t earlier = e.first o (back m anchor o r cost t) (equal_last o s earlier)
not_first m anchor s r cost (o ∷ p ∷ others) e (own, rest, h, tail, f) earlier = absurd tail

pub one_record : (m : PlantModel) (anchor s : List ℕ) (r : Entry) (cost : ℕ) → Best m anchor (r ∷ []) (s ∷ []) cost ↔ Estimate m anchor r.command r.seen s cost
one_record m anchor s r cost = (
  λ b. record {
    consistent = back m anchor s r cost b.trajectory;
    least = λ other more h. b.least (other ∷ []) more (single m anchor other r more h);
    first = λ other h earlier. b.first (other ∷ []) (single m anchor other r cost h) (oldest_decides other s [] [] earlier);
  },
  λ e. record {
    trajectory = single m anchor s r cost e.consistent;
    least = λ others more t. at_least m anchor s r cost others more e t;
    first = λ others t earlier. not_first m anchor s r cost others e t earlier;
  },
)
