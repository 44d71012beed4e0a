-- Two rising cubes that are merged pair by pair.
use Rattle.std.proofs.Common.{◌≡◌, ◌≢◌, ◌<◌, ◌++◌, [], ◌∷◌, ◌⊎◌, ◌↔◌, ℕ, suc, List, length, get_or, take, drop, All, Contains, inl, inr, refl, ap, sym, subst, ◌∙◌, append_assoc, drop-cons, arith}
use Rattle.std.proofs.lemmas.List.{append-nil, take-append-drop, nil_from_length}
use Rattle.std.proofs.lemmas.List.Elements.{All-cons, All-head, All-append, All-contains}
use Rattle.list_laws.proofs.Elements.{all_left, all_right}
use Rattle.cca_base.specs.declared.cube.Pair.{Pair}
use Rattle.cca_base.specs.Cube.{IsPart, IsRising, Lacks}
use Rattle.list_laws.proofs.Pairwise.{AllPairs-head, AllPairs-right}
use Rattle.list_laws.proofs.Members.{all_from}
use Rattle.prime_implicants.proofs.PartialPairs.{one_of_each}
use Rattle.prime_implicants.proofs.ListedPairs.{lacks_seam as lacks_next}
use Rattle.guard_compiler.specs.Cover.{IsOver, IsLeastOver}
use Rattle.list_laws.proofs.Between.{AllPairs-between, all_before}
use Rattle.guard_compiler.proofs.CoverLaws.{part_itself}

-- the cubes over the two are those over what was merged with what is left of each, both of which rise
pub record IsMerged (a b merged left right : List Pair) : Type 0 where
  pub left_rises : IsRising (merged ++ left)
  pub right_rises : IsRising (merged ++ right)
  pub same : (cube : List Pair) → IsOver a b cube ↔ IsOver (merged ++ left) (merged ++ right) cube

abbrev later : Pair → Pair → Type 0
later p q = p.item < q.item

swap_over : (a b cube : List Pair) → IsOver a b cube → IsOver b a cube
swap_over a b cube o = record { rising = o.rising; first = o.second; second = o.first }

-- the two change places
swap : (a b merged left right : List Pair) → IsMerged a b merged left right → IsMerged b a merged right left
swap a b merged left right m = record {
  left_rises = m.right_rises;
  right_rises = m.left_rises;
  same = λ cube. (
    λ o. swap_over (merged ++ left) (merged ++ right) cube ((m.same cube).0 (swap_over b a cube o)),
    λ o. swap_over a b cube ((m.same cube).1 (swap_over (merged ++ right) (merged ++ left) cube o)),
  );
}

-- the pair that comes first is merged
take_left : (a b merged ps qs : List Pair) (p q : Pair) → IsMerged a b merged (p ∷ ps) (q ∷ qs) → p.item < q.item → IsMerged a b (merged ++ p ∷ []) ps (q ∷ qs)
take_left a b merged ps qs p q m less =
    let left = append_assoc merged (p ∷ []) ps in
    let right = append_assoc merged (p ∷ []) (q ∷ qs) in
    let after : All (later p) (q ∷ qs) =
    All-cons (later p) q qs less (all_from (later p) qs (λ r among.
    let next : q.item < r.item = All-contains (later q) qs r (AllPairs-head later q qs (AllPairs-right later merged (q ∷ qs) m.right_rises)) among in
    omega (arith, less, next)))
    in
    record {
      left_rises = subst IsRising (sym left) m.left_rises;
      right_rises = subst IsRising (sym right) (AllPairs-between later merged (q ∷ qs) p m.right_rises (all_before later merged ps p m.left_rises) after);
      same = λ cube. (
        λ o.
            let k = (m.same cube).0 o in
            let own : Contains cube p = All-head (Contains cube) p ps (all_right (Contains cube) merged (p ∷ ps) k.first) in
            record {
              rising = k.rising;
              first = subst (λ z. IsPart z cube) (sym left) k.first;
              second = subst (λ z. IsPart z cube) (sym right)
                  (All-append (Contains cube) merged (p ∷ q ∷ qs) (all_left (Contains cube) merged (q ∷ qs) k.second)
                  (All-cons (Contains cube) p (q ∷ qs) own (all_right (Contains cube) merged (q ∷ qs) k.second)));
            },
        λ o.
            let second = subst (λ z. IsPart z cube) right o.second in
            (m.same cube).1 (record {
              rising = o.rising;
              first = subst (λ z. IsPart z cube) left o.first;
              second = All-append (Contains cube) merged (q ∷ qs) (all_left (Contains cube) merged (p ∷ q ∷ qs) second)
                  (all_right (Contains cube) (p ∷ []) (q ∷ qs) (all_right (Contains cube) merged (p ∷ q ∷ qs) second));
            }),
      );
    }

take_right : (a b merged ps qs : List Pair) (p q : Pair) → IsMerged a b merged (p ∷ ps) (q ∷ qs) → q.item < p.item → IsMerged a b (merged ++ q ∷ []) (p ∷ ps) qs
take_right a b merged ps qs p q m less = swap b a (merged ++ q ∷ []) qs (p ∷ ps) (take_left b a merged qs ps q p (swap a b merged (p ∷ ps) (q ∷ qs) m) less)

-- a pair of both is merged once
take_both : (a b merged ps qs : List Pair) (p q : Pair) → IsMerged a b merged (p ∷ ps) (q ∷ qs) → p ≡ q → IsMerged a b (merged ++ p ∷ []) ps qs
take_both a b merged ps qs p q m e =
    let left = append_assoc merged (p ∷ []) ps in
    let right : (merged ++ p ∷ []) ++ qs ≡ merged ++ q ∷ qs = append_assoc merged (p ∷ []) qs ∙ ap (λ z. merged ++ z ∷ qs) e in
    record {
      left_rises = subst IsRising (sym left) m.left_rises;
      right_rises = subst IsRising (sym right) m.right_rises;
      same = λ cube. (
        λ o. let k = (m.same cube).0 o in
            record { rising = k.rising; first = subst (λ z. IsPart z cube) (sym left) k.first; second = subst (λ z. IsPart z cube) (sym right) k.second },
        λ o. (m.same cube).1 (record { rising = o.rising; first = subst (λ z. IsPart z cube) left o.first; second = subst (λ z. IsPart z cube) right o.second }),
      );
    }

-- two modes of one component
clash : (a b merged ps qs : List Pair) (p q : Pair) → IsMerged a b merged (p ∷ ps) (q ∷ qs) → p.item ≡ q.item → p.value ≢ q.value → (cube : List Pair) → IsOver a b cube → ⊥
clash a b merged ps qs p q m item value cube o =
    let k = (m.same cube).0 o in
    let one : Contains cube p = All-head (Contains cube) p ps (all_right (Contains cube) merged (p ∷ ps) k.first) in
    let other : Contains cube q = All-head (Contains cube) q qs (all_right (Contains cube) merged (q ∷ qs) k.second) in
    value (ap (λ z. z.value) (one_of_each cube p q o.rising one other item))

-- so the next pair may be pushed
pub lacks_at : (cube pairs : List Pair) (i : ℕ) (d : Pair) → i < length pairs → IsRising (cube ++ pairs) → Lacks (get_or pairs i d).item (cube ++ take i pairs)
lacks_at cube pairs i d l up =
    let p = get_or pairs i d in
    let split : pairs ≡ take i pairs ++ p ∷ drop (suc i) pairs = sym (take-append-drop i pairs) ∙ ap (λ z. take i pairs ++ z) (drop-cons pairs i d l) in
    let all : cube ++ pairs ≡ (cube ++ take i pairs) ++ p ∷ drop (suc i) pairs = ap (λ z. cube ++ z) split ∙ sym (append_assoc cube (take i pairs) (p ∷ drop (suc i) pairs)) in
    lacks_next (cube ++ take i pairs) (drop (suc i) pairs) p (subst IsRising all up)

left_lacks : (a b merged ps right : List Pair) (p : Pair) → IsMerged a b merged (p ∷ ps) right → Lacks p.item merged
left_lacks a b merged ps right p m = lacks_next merged ps p m.left_rises

right_lacks : (a b merged left qs : List Pair) (q : Pair) → IsMerged a b merged left (q ∷ qs) → Lacks q.item merged
right_lacks a b merged left qs q m = left_lacks b a merged qs left q (swap a b merged left (q ∷ qs) m)

-- nothing is left of the first
right_left : (a b merged right : List Pair) → IsMerged a b merged [] right → IsLeastOver a b (merged ++ right)
right_left a b merged right m = record {
  over = (m.same (merged ++ right)).1 (record {
    rising = m.right_rises;
    first = subst (λ z. IsPart z (merged ++ right)) (sym (append-nil merged)) (all_left (Contains (merged ++ right)) merged right (part_itself (merged ++ right)));
    second = part_itself (merged ++ right);
  });
  least = λ other o. ((m.same other).0 o).second;
}

swap_least : (a b cube : List Pair) → IsLeastOver a b cube → IsLeastOver b a cube
swap_least a b cube l = record { over = swap_over a b cube l.over; least = λ other o. l.least other (swap_over b a other o) }

-- nothing is left of one of the two
pub all_merged : (a b merged left right : List Pair) → IsMerged a b merged left right → ((length left ≡ 0) ⊎ (length right ≡ 0)) → IsLeastOver a b ((merged ++ left) ++ right)
all_merged a b merged left right m (inl none) =
    let e = nil_from_length left none in
    subst (λ z. IsLeastOver a b (z ++ right)) (sym (append-nil merged) ∙ ap (λ z. merged ++ z) (sym e)) (right_left a b merged right (subst (λ z. IsMerged a b merged z right) e m))
all_merged a b merged left right m (inr none) =
    let e = nil_from_length right none in
    subst (λ z. IsLeastOver a b ((merged ++ left) ++ z)) (sym e)
    (subst (IsLeastOver a b) (sym (append-nil (merged ++ left))) (swap_least b a (merged ++ left) (right_left b a merged left (swap a b merged left [] (subst (IsMerged a b merged left) e m)))))

-- ---- one step, by the first pairs of what is left

module _ (a b merged left right : List Pair) (d : Pair) (m : IsMerged a b merged left right) (some_left : 0 < length left) (some_right : 0 < length right) where
  abbrev p : Pair
  p = get_or left 0 d

  abbrev q : Pair
  q = get_or right 0 d

  -- what is left of each is its first pair with the rest
  split : (xs : List Pair) → 0 < length xs → xs ≡ get_or xs 0 d ∷ drop 1 xs
  split [] l = absurd (omega arith)
  split (x ∷ xs) l = refl

  both_split : IsMerged a b merged (p ∷ drop 1 left) (q ∷ drop 1 right)
  both_split = subst (λ z. IsMerged a b merged (p ∷ drop 1 left) z) (split right some_right) (subst (λ z. IsMerged a b merged z right) (split left some_left) m)

  pub may_push_left : Lacks p.item merged
  may_push_left = left_lacks a b merged (drop 1 left) (q ∷ drop 1 right) p both_split

  pub may_push_right : Lacks q.item merged
  may_push_right = right_lacks a b merged (p ∷ drop 1 left) (drop 1 right) q both_split

  pub left_first : p.item < q.item → IsMerged a b (merged ++ p ∷ []) (drop 1 left) right
  left_first less = subst (λ z. IsMerged a b (merged ++ p ∷ []) (drop 1 left) z) (sym (split right some_right)) (take_left a b merged (drop 1 left) (drop 1 right) p q both_split less)

  pub right_first : q.item < p.item → IsMerged a b (merged ++ q ∷ []) left (drop 1 right)
  right_first less = subst (λ z. IsMerged a b (merged ++ q ∷ []) z (drop 1 right)) (sym (split left some_left)) (take_right a b merged (drop 1 left) (drop 1 right) p q both_split less)

  pub both_first : p.item ≡ q.item → p.value ≡ q.value → IsMerged a b (merged ++ p ∷ []) (drop 1 left) (drop 1 right)
  both_first item value = take_both a b merged (drop 1 left) (drop 1 right) p q both_split (λ i. record { item = item i; value = value i })

  pub none_over : p.item ≡ q.item → p.value ≢ q.value → (cube : List Pair) → IsOver a b cube → ⊥
  none_over item value = clash a b merged (drop 1 left) (drop 1 right) p q both_split item value
