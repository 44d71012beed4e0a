-- Lists that are determined by their elements and their order.
use Rattle.std.proofs.Common.{◌≡◌, ◌<◌, ◌==◌, ℕ, not, zero, suc, List, [], ◌∷◌, length, All, AllPairs, Contains, filter, inl, inr, refl, sym, ap, subst, ◌∙◌, arith}
use Rattle.std.specs.Ordering.{nat_cmp, ordering_reverse}
use Rattle.std.specs.Cmp.{IsTotalOrder}
use Rattle.std.specs.declared.cmp.Ordering.TheVariants.{Less, Equal, Greater}
use Rattle.std.proofs.lemmas.Bool.{cases_eq}
use Rattle.std.proofs.lemmas.Cmp.{nat_cmp_total, on_total, then_total, lists_total}
use Rattle.std.proofs.lemmas.List.Elements.{All-contains, All-cons, All-head}
use Rattle.std.proofs.lemmas.List.Kept.{AllPairs-cons}
use Rattle.std.proofs.lemmas.Option.{same_Some}
use Rattle.cca_base.specs.Accepted.{CompiledModel, IsCompiled}
use Rattle.std.proofs.lemmas.List.Sorted.{Contains-permutation, IsPermutation-sym}
use Rattle.std.specs.FinMap.{slice_cmp-IsAntisymmetric, nat_cmp-IsAntisymmetric}
use Rattle.list_laws.proofs.Orders.{then_equal, less_greater}
use Rattle.list_laws.proofs.Tests.{not_itself}
use Rattle.cca_base.specs.declared.cube.Pair.{Pair}
use Rattle.list_laws.proofs.Pairwise.{AllPairs-head, AllPairs-tail}
use Rattle.list_laws.proofs.Members.{contains_cases, contains_here, contains_there, contains_none, from_filter, member_at, at_member}
use Rattle.cca_base.specs.PlantModel.{PlantModel}
use Rattle.cca_base.specs.Cube.{IsUnion, pair_cmp, cube_cmp, IsBeforeCube}
use Rattle.cca_base.specs.Orders.{numbers_below, TakesEffectsFirst, AreInOrder, IsSorted}
use Rattle.cca_laws.specs.Laws.{NoneTwice, ComesBefore}

abbrev SameElements : {X : Type 0} → List X → List X → Type 0
SameElements {X} a b = ((x : X) → Contains a x → Contains b x) × ((x : X) → Contains b x → Contains a x)

-- lists in one strict order with the same elements are one list
pub same_by_order : {X : Type 0} (R : X → X → Type 0) → ((x y : X) → R x y → R y x → ⊥) → (a b : List X) → AllPairs R a → AllPairs R b → SameElements a b → a ≡ b
same_by_order R one_way [] [] h k same = refl
same_by_order R one_way [] (y ∷ ys) h k same = absurd (contains_none y (same.1 y (contains_here y y ys refl)))
same_by_order R one_way (x ∷ xs) [] h k same = absurd (contains_none x (same.0 x (contains_here x x xs refl)))
same_by_order {X = X} R one_way (x ∷ xs) (y ∷ ys) h k same =
    let after_x : (p : X) → Contains xs p → R x p = λ p. All-contains (R x) xs p (AllPairs-head R x xs h) in
    let after_y : (p : X) → Contains ys p → R y p = λ p. All-contains (R y) ys p (AllPairs-head R y ys k) in
    let heads : x ≡ y = elim (contains_cases y x ys (same.0 x (contains_here x x xs refl))) [
      | inl e ↦ sym e
      | inr below ↦ elim (contains_cases x y xs (same.1 y (contains_here y y ys refl))) [
        | inl e ↦ e
        | inr above ↦ absurd (one_way x y (after_x y above) (after_y x below))
      ]
    ]
    in
    let tails : xs ≡ ys = same_by_order R one_way xs ys (AllPairs-tail R x xs h) (AllPairs-tail R y ys k) (
      λ p among. elim (contains_cases y p ys (same.0 p (contains_there x p xs among))) [
        | inl e ↦ let back : R x x = subst (R x) (sym e ∙ sym heads) (after_x p among) in absurd (one_way x x back back)
        | inr there ↦ there
      ],
      λ p among. elim (contains_cases x p xs (same.1 p (contains_there y p ys among))) [
        | inl e ↦ let back : R y y = subst (R y) (sym e ∙ heads) (after_y p among) in absurd (one_way y y back back)
        | inr there ↦ there
      ],
    )
    in
    λ i. heads i ∷ tails i

pub one_union : (P Q : Pair → Type 0) (a b : List Pair) → IsUnion P Q a → IsUnion P Q b → a ≡ b
one_union P Q a b h k = same_by_order (λ p q. p.item < q.item) (λ p q below above. omega (arith, below, above)) a b h.rising k.rising (λ p among. (k.each p).1 ((h.each p).0 among), λ p among. (h.each p).1 ((k.each p).0 among))

-- ---- orders

taken : (m : PlantModel) (remaining order : List ℕ) → TakesEffectsFirst m remaining order → (d : ℕ) → Contains order d → Contains remaining d
taken m remaining [] h d among = absurd (contains_none d among)
taken m remaining (c ∷ order) h d among = elim (contains_cases c d order among) [
  | inl e ↦ subst (Contains remaining) e h.0
  | inr there ↦ (from_filter (λ d. not (d == c)) remaining d (taken m (filter (λ d. not (d == c)) remaining) order h.3 d there)).1
]

pub none_twice : (m : PlantModel) (remaining order : List ℕ) → TakesEffectsFirst m remaining order → NoneTwice order
none_twice m remaining [] h = tt
none_twice m remaining (c ∷ order) h = (
  λ again. not_itself c (from_filter (λ d. not (d == c)) remaining c (taken m (filter (λ d. not (d == c)) remaining) order h.3 c again)).0,
  none_twice m (filter (λ d. not (d == c)) remaining) order h.3,
)

-- ---- sorted pairs

items_in : (order : List ℕ) (ps : List Pair) → AreInOrder order ps → (p : Pair) → Contains ps p → Contains order p.item
items_in [] ps h p among = absurd (contains_none p (subst (λ l. Contains l p) h among))
items_in (c ∷ order) ps (inl h) p among = contains_there c p.item order (items_in order ps h p among)
items_in (c ∷ order) ps (inr (mode, others, e, h)) p among = elim (contains_cases (record { item = c; value = mode }) p others (subst (λ l. Contains l p) e among)) [
  | inl here ↦ contains_here c p.item order (ap (λ q. q.item) here)
  | inr there ↦ contains_there c p.item order (items_in order others h p there)
]

-- pairs in one order are determined by which they are
pub ordered_same : (order : List ℕ) (a b : List Pair) → NoneTwice order → AreInOrder order a → AreInOrder order b → SameElements a b → a ≡ b
ordered_same [] a b once h k same = h ∙ sym k
ordered_same (c ∷ order) a b once (inl h) (inl k) same = ordered_same order a b once.1 h k same
ordered_same (c ∷ order) a b once (inl h) (inr (mode, others, e, k)) same =
    let p : Pair = record { item = c; value = mode } in
    absurd (once.0 (items_in order a h p (same.1 p (subst (λ l. Contains l p) (sym e) (contains_here p p others refl)))))
ordered_same (c ∷ order) a b once (inr (mode, others, e, h)) (inl k) same =
    let p : Pair = record { item = c; value = mode } in
    absurd (once.0 (items_in order b k p (same.0 p (subst (λ l. Contains l p) (sym e) (contains_here p p others refl)))))
ordered_same (c ∷ order) a b once (inr (x, xs, e, h)) (inr (y, ys, f, k)) same =
    let p : Pair = record { item = c; value = x } in
    let q : Pair = record { item = c; value = y } in
    let there : (r : Pair) → Contains (p ∷ xs) r → Contains (q ∷ ys) r = λ r among. subst (λ l. Contains l r) f (same.0 r (subst (λ l. Contains l r) (sym e) among)) in
    let back : (r : Pair) → Contains (q ∷ ys) r → Contains (p ∷ xs) r = λ r among. subst (λ l. Contains l r) e (same.1 r (subst (λ l. Contains l r) (sym f) among)) in
    let heads : p ≡ q = elim (contains_cases q p ys (there p (contains_here p p xs refl))) [ inl here ↦ sym here | inr later ↦ absurd (once.0 (items_in order ys k p later)) ] in
    let tails : xs ≡ ys = ordered_same order xs ys once.1 h k (
      λ r among. elim (contains_cases q r ys (there r (contains_there p r xs among))) [
        | inl here ↦ absurd (once.0 (subst (Contains order) (sym (ap (λ z. z.item) here)) (items_in order xs h r among)))
        | inr later ↦ later
      ],
      λ r among. elim (contains_cases p r xs (back r (contains_there q r ys among))) [
        | inl here ↦ absurd (once.0 (subst (Contains order) (sym (ap (λ z. z.item) here)) (items_in order ys k r among)))
        | inr later ↦ later
      ],
    )
    in
    e ∙ (λ i. heads i ∷ tails i) ∙ sym f

pub one_sorted : (order : List ℕ) (pairs a b : List Pair) → NoneTwice order → IsSorted order pairs a → IsSorted order pairs b → a ≡ b
one_sorted order pairs a b once h k = ordered_same order a b once h.in_order k.in_order (
  λ p among. Contains-permutation pairs b p k.same (Contains-permutation a pairs p (IsPermutation-sym pairs a h.same) among),
  λ p among. Contains-permutation pairs a p h.same (Contains-permutation b pairs p (IsPermutation-sym pairs b k.same) among),
)

-- ---- the order by pairs

before_later : (c : ℕ) (order : List ℕ) (x y : ℕ) → ComesBefore order x y → ComesBefore (c ∷ order) x y
before_later c order x y (i, j, at, there, lt) = (suc i, suc j, at, there, omega arith)

before_first : (c : ℕ) (order : List ℕ) (d : ℕ) → Contains order d → ComesBefore (c ∷ order) c d
before_first c order d h = (0, suc h.0, refl, member_at order d h, omega arith)

-- what comes before in the longer list, and is not its head, comes before in the shorter
before_rest : (c : ℕ) (order : List ℕ) (x y : ℕ) → (x ≡ c → ⊥) → ComesBefore (c ∷ order) x y → ComesBefore order x y
before_rest c order x y ne (zero, j, at, there, lt) = absurd (ne (sym (same_Some c x at)))
before_rest c order x y ne (suc i, zero, at, there, lt) = absurd (omega arith)
before_rest c order x y ne (suc i, suc j, at, there, lt) = (i, j, at, there, omega arith)

-- what comes after something in the longer list stands in the shorter
after_there : (c : ℕ) (order : List ℕ) (x y : ℕ) → ComesBefore (c ∷ order) x y → Contains order y
after_there c order x y (i, zero, at, there, lt) = absurd (omega arith)
after_there c order x y (i, suc j, at, there, lt) = at_member order j y there

abbrev Earlier : List ℕ → Pair → Pair → Type 0
Earlier order p q = ComesBefore order p.item q.item

pub pairwise : (order : List ℕ) (ps : List Pair) → AreInOrder order ps → All (λ p. Contains order p.item) ps × AllPairs (Earlier order) ps
pairwise [] ps h = (subst (All (λ p. Contains [] p.item)) (sym h) (λ k d within. absurd (omega arith)), subst (AllPairs (Earlier [])) (sym h) (λ i j d lt within. absurd (omega arith)))
pairwise (c ∷ order) ps (inl h) =
    let rest = pairwise order ps h in (
      λ k d within. contains_there c _ order (rest.0 k d within),
      λ i j d lt within. before_later c order _ _ (rest.1 i j d lt within),
    )
pairwise (c ∷ order) ps (inr (mode, others, e, h)) =
    let rest = pairwise order others h in
    let p : Pair = record { item = c; value = mode } in (
      subst (All (λ q. Contains (c ∷ order) q.item)) (sym e)
          (All-cons (λ q. Contains (c ∷ order) q.item) p others (contains_here c c order refl) (λ k d within. contains_there c _ order (rest.0 k d within))),
      subst (AllPairs (Earlier (c ∷ order))) (sym e)
          (AllPairs-cons (Earlier (c ∷ order)) p others (λ k d within. before_first c order _ (rest.0 k d within)) (λ i j d lt within. before_later c order _ _ (rest.1 i j d lt within))),
    )

-- without the head's component, all is in the rest
along_rest : (c : ℕ) (order : List ℕ) (ps : List Pair) → NoneTwice (c ∷ order) → All (λ p. Contains order p.item) ps → AllPairs (Earlier (c ∷ order)) ps → AllPairs (Earlier order) ps
along_rest c order ps once inside before i j d lt within =
    before_rest c order _ _ (λ e. once.0 (subst (Contains order) e (inside i d (omega arith)))) (before i j d lt within)

pub in_order_from : (order : List ℕ) (ps : List Pair) → NoneTwice order → All (λ p. Contains order p.item) ps → AllPairs (Earlier order) ps → AreInOrder order ps
in_order_from [] [] once inside before = refl
in_order_from [] (p ∷ ps) once inside before = absurd (contains_none p.item (All-head (λ q. Contains [] q.item) p ps inside))
in_order_from (c ∷ order) [] once inside before = inl (in_order_from order [] once.1 (λ k d within. absurd (omega arith)) (λ i j d lt within. absurd (omega arith)))
in_order_from (c ∷ order) (p ∷ ps) once inside before =
    let heads = AllPairs-head (Earlier (c ∷ order)) p ps before in
    let later : All (λ q. Contains order q.item) ps = λ k d within. after_there c order p.item _ (heads k d within) in
    elim (cases_eq p.item c) [
      | inl e ↦ inr (p.value, ps, (λ i. record { item = e i; value = p.value } ∷ ps), in_order_from order ps once.1 later (along_rest c order ps once later (AllPairs-tail (Earlier (c ∷ order)) p ps before)))
      | inr ne ↦
          let own : Contains order p.item = elim (contains_cases c p.item order (All-head (λ q. Contains (c ∷ order) q.item) p ps inside)) [ inl e ↦ absurd (ne (sym e)) | inr there ↦ there ] in
          let all : All (λ q. Contains order q.item) (p ∷ ps) = All-cons (λ q. Contains order q.item) p ps own later in
          inl (in_order_from order (p ∷ ps) once.1 all (along_rest c order (p ∷ ps) once all before))
    ]

pub compiled_none_twice : (b : CompiledModel) → IsCompiled b → NoneTwice b.order
compiled_none_twice b h = none_twice b.model (numbers_below (length b.model.components)) b.order h.order

-- ---- cubes

pair_same : (p q : Pair) → pair_cmp p q ≡ Equal → p ≡ q
pair_same p q h =
    let parts = then_equal (nat_cmp p.item q.item) (nat_cmp p.value q.value) h in
    λ i. record { item = nat_cmp-IsAntisymmetric p.item q.item parts.0 i; value = nat_cmp-IsAntisymmetric p.value q.value parts.1 i }

cube_same : (a b : List Pair) → cube_cmp a b ≡ Equal → a ≡ b
cube_same a b h = slice_cmp-IsAntisymmetric pair_same a b (then_equal _ _ h).1

pub cube_total : IsTotalOrder cube_cmp
cube_total = then_total (on_total (λ (a : List Pair). length a) nat_cmp_total) (lists_total (then_total (on_total (λ (p : Pair). p.item) nat_cmp_total) (on_total (λ (p : Pair). p.value) nat_cmp_total)))

-- of two cubes of which neither comes first there is one
pub neither_cube : (a b : List Pair) → (IsBeforeCube a b → ⊥) → (IsBeforeCube b a → ⊥) → a ≡ b
neither_cube a b h k =
    elim (cube_cmp a b) as (λ o. cube_cmp a b ≡ o → a ≡ b) [
      | Less ↦ λ e. absurd (h e)
      | Equal ↦ λ e. cube_same a b e
      | Greater ↦ λ e. absurd (k (cube_total.antisymm b a ∙ ap ordering_reverse e))
    ] refl

-- no two cubes each come before the other
pub one_way_cubes : (a b : List Pair) → IsBeforeCube a b → IsBeforeCube b a → ⊥
one_way_cubes a b h k = less_greater (sym h ∙ cube_total.antisymm a b ∙ ap ordering_reverse k)
