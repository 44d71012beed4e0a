-- Lists by their first different number.
use Rattle.std.proofs.Common.{◌≡◌, ◌⊎◌, inl, inr, ℕ, zero, suc, ◌<◌, List, [], ◌∷◌, ◌++◌, length, slice_index, refl, sym, ap, subst, ◌∙◌, arith}
use Rattle.std.specs.Ordering.{nat_cmp, ordering_then}
use Rattle.std.specs.Cmp.Lexicographic.{slice_cmp}
use Rattle.std.specs.declared.cmp.Ordering.{Ordering}
use Rattle.std.specs.declared.cmp.Ordering.TheVariants.{Less, Equal, Greater}
use Rattle.list_laws.proofs.Orders.{nat_cmp-same, greater_cmp}
use Rattle.cca_base.specs.Estimates.{IsEarlier}
use Rattle.cca_base.proofs.StateLaws.{none_earlier}
use Rattle.consistency.specs.Search.{IsLess}

then_less : (a b c : Ordering) → ordering_then a b ≡ Less → (b ≡ Less → c ≡ Less) → ordering_then a c ≡ Less
then_less Less b c h f = refl
then_less Equal b c h f = f h
then_less Greater b c h f = h

-- what comes earlier comes earlier with more behind it
pub earlier_front : (s2 w2 s w : List ℕ) → length s2 ≡ length s → IsEarlier s2 s → IsEarlier (s2 ++ w2) (s ++ w)
earlier_front [] w2 [] w e h = absurd (cc)
earlier_front [] w2 (y ∷ s) w e h = absurd (omega arith)
earlier_front (x ∷ s2) w2 [] w e h = absurd (omega arith)
earlier_front (x ∷ s2) w2 (y ∷ s) w e h = then_less (nat_cmp x y) (slice_cmp nat_cmp s2 s) (slice_cmp nat_cmp (s2 ++ w2) (s ++ w)) h (earlier_front s2 w2 s w (omega arith))

-- and with the same before it
pub earlier_behind : (s w2 w : List ℕ) → IsEarlier w2 w → IsEarlier (s ++ w2) (s ++ w)
earlier_behind [] w2 w h = h
earlier_behind (x ∷ s) w2 w h = ap (λ o. ordering_then o (slice_cmp nat_cmp (s ++ w2) (s ++ w))) (nat_cmp-same x x refl) ∙ earlier_behind s w2 w h

not_after : (p : ℕ) (xs ys : List ℕ) → p < length xs → ((d : ℕ) → d < p → slice_index xs d ≡ slice_index ys d) → slice_index xs p < slice_index ys p → IsEarlier ys xs → ⊥
not_after p [] ys inside same less h = absurd (omega arith)
not_after p (x ∷ xs) [] inside same less h = absurd (omega arith)
not_after zero (x ∷ xs) (y ∷ ys) inside same less h = absurd (cc (ap (λ o. ordering_then o (slice_cmp nat_cmp ys xs)) (greater_cmp y x less)))
not_after (suc p) (x ∷ xs) (y ∷ ys) inside same less h =
    not_after p xs ys (omega arith) (λ d k. same (suc d) (omega arith)) less
    (sym (ap (λ o. ordering_then o (slice_cmp nat_cmp ys xs)) (nat_cmp-same y x (sym (same 0 (omega arith))))) ∙ h)

-- nothing that is the same or less comes after
pub first_not_after : (xs ys : List ℕ) → (xs ≡ ys) ⊎ IsLess xs ys → IsEarlier ys xs → ⊥
first_not_after xs ys (inl e) h = none_earlier xs (subst (λ zs. IsEarlier zs xs) (sym e) h)
first_not_after xs ys (inr l) h = not_after l.place xs ys l.inside l.same l.less h
