-- The least costs of failures, and what changes cost.
use Rattle.std.proofs.Common.{◌≡◌, ◌≢◌, ◌+◌, inl, inr, ℕ, zero, suc, ◌<◌, ◌≤◌, ◌==◌, true, false, List, [], ◌∷◌, ◌++◌, length, get_or, set, Contains, Option, Some, None, refl, sym, ap, subst, ◌∙◌, arith}
use Rattle.std.specs.List.{IsDistinct, list_any}
use Rattle.std.specs.List.Sorted.{IsPermutation, IsSorted}
use Rattle.std.specs.Ordering.{nat_cmp, ordering_reverse, is_lt}
use Rattle.std.specs.Cmp.{IsTotalOrder, IsEquivalence, on_total, on_equiv, then_total, nat_cmp_total, nat_eq_equiv}
use Rattle.std.specs.declared.cmp.Ordering.{Ordering}
use Rattle.std.specs.declared.cmp.Ordering.TheVariants.{Less, Equal, Greater}
use Rattle.std.proofs.lemmas.Bool.{cases_eq, cases_lt, both_ways, ne_eqb, eq-eqb, or_from}
use Rattle.std.proofs.lemmas.List.{get_or-set_same, get_or-set_other, length-set, get_or-map}
use Rattle.std.proofs.lemmas.List.Elements.{Contains-append_left, Contains-push, Contains-push_cases, All-contains, All-from_recursion}
use Rattle.std.proofs.lemmas.List.Sorted.{sorted_far, ranks_by, Contains-permutation, All-permutation, IsPermutation-sym}
use Rattle.std.proofs.lemmas.Map.Keys.{IsDistinct-IsPermutation, IsDistinct-push}
use Rattle.std.proofs.lemmas.Map.Lookups.{exact_unsigned}
use Rattle.list_laws.proofs.Orders.{then_equal}
use Rattle.list_laws.proofs.Members.{all_from, contains_here, contains_there, contains_none}
use Rattle.cca_base.specs.declared.model.Failure.{Failure}
use Rattle.cca_base.specs.PlantModel.{PlantModel}
use Rattle.cca_base.specs.declared.model.Component.{Component}
use Rattle.cca_base.specs.Model.{IsFailure, WellFormed, mode_counts}
use Rattle.cca_base.specs.Successors.{ChangeCosts}
use Rattle.cca_base.specs.declared.choice.Choice.{Choice}
use Rattle.cca_base.specs.declared.limits.TheConstants.{MAX_COST}
use Rattle.cca_base.specs.Choices.{IsRow, choice_cmp}
use Rattle.cca_base.proofs.LeastFailures.{least_more, least_same}
use Rattle.cca_base.specs.LeastCosts.{IsLeast, IsChange, failing, lesser_of}
use Rattle.successors.specs.Choices.{AreLeast, AreAllLeast, AreChanges, IsAdded, same_mode}
use Rattle.cca_laws.proofs.CostLaws.{one_change}

pub least_set : (fs : List Failure) (f : Failure) (c from : ℕ) (costs : List (Option ℕ)) (least : ℕ) → AreLeast fs c from costs → f.component ≡ c → f.source ≡ from → f.target < length costs
    → least ≡ lesser_of (get_or costs f.target None) f.cost → AreLeast (fs ++ f ∷ []) c from (set costs f.target (Some least))
least_set fs f c from costs least h e g within is mode inside = elim (cases_eq mode f.target) [
  | inl same ↦ subst (λ z. IsLeast (fs ++ f ∷ []) c from z (get_or (set costs f.target (Some least)) z None)) (sym same)
      (subst (IsLeast (fs ++ f ∷ []) c from f.target) (ap Some (sym is) ∙ sym (get_or-set_same costs f.target (Some least) None within))
      (least_more fs f c from f.target (get_or costs f.target None) e g refl (h f.target within)))
  | inr other ↦ subst (IsLeast (fs ++ f ∷ []) c from mode) (sym (get_or-set_other costs f.target mode (Some least) None other))
      (least_same fs f c from mode (get_or costs mode None) (λ k same. other (sym (ap (λ (x : Failure). x.target) same)))
      (h mode (omega (arith, length-set costs f.target (Some least)))))
]

pub least_keeps : (fs : List Failure) (f : Failure) (c from : ℕ) (costs : List (Option ℕ)) → AreLeast fs c from costs → ((f.component ≡ c) × (f.source ≡ from) → ⊥) → AreLeast (fs ++ f ∷ []) c from costs
least_keeps fs f c from costs h apart mode inside =
    least_same fs f c from mode (get_or costs mode None) (λ k same. apart (ap (λ (x : Failure). x.component) same, ap (λ (x : Failure). x.source) same)) (h mode inside)

-- a failure that is noted at its component is noted at all
pub all_least_set : (fs : List Failure) (f : Failure) (s : List ℕ) (table : List (List (Option ℕ))) (costs : List (Option ℕ)) → f.component < length table
    → (AreLeast fs f.component (get_or s f.component 0) (get_or table f.component []) → AreLeast (fs ++ f ∷ []) f.component (get_or s f.component 0) costs)
    → AreAllLeast fs s table → AreAllLeast (fs ++ f ∷ []) s (set table f.component costs)
all_least_set fs f s table costs within noted h c inside = elim (cases_eq c f.component) [
  | inl same ↦ subst (λ z. AreLeast (fs ++ f ∷ []) z (get_or s z 0) (get_or (set table f.component costs) z [])) (sym same)
      (subst (AreLeast (fs ++ f ∷ []) f.component (get_or s f.component 0)) (sym (get_or-set_same table f.component costs [] within)) (noted (h f.component within)))
  | inr other ↦ subst (AreLeast (fs ++ f ∷ []) c (get_or s c 0)) (sym (get_or-set_other table f.component c costs [] other))
      (least_keeps fs f c (get_or s c 0) (get_or table c []) (h c (omega (arith, length-set table f.component costs))) (λ both. other (sym both.0)))
]

-- ---- rows

-- changes to the modes below this one, each mode once
pub record IsRowTo (m : PlantModel) (c from nominal bound : ℕ) (row : List Choice) : Type 0 where
  pub each : AreChanges m c from nominal bound row
  pub distinct : IsDistinct same_mode row

pub row_none : (m : PlantModel) (c from nominal : ℕ) (row : List Choice) → row ≡ [] → IsRowTo m c from nominal 0 row
unfolding IsDistinct
row_none m c from nominal row e = subst (IsRowTo m c from nominal 0) (sym e) (record {
  each = λ x. ((λ among. absurd (contains_none x among)), (λ h. absurd (omega (arith, h.0))));
  distinct = tt;
})

pub change_is : (m : PlantModel) (c from nominal to : ℕ) (failure r : Option ℕ) → IsLeast m.failures c from to failure → (to ≡ nominal → r ≡ Some 0) → (to ≢ nominal → r ≡ failure)
    → IsChange m c from nominal to r
change_is m c from nominal to failure r h same other = elim (cases_eq to nominal) [
  | inl e ↦ subst (IsChange m c from nominal to) (sym (same e)) (inl (e, refl))
  | inr n ↦ subst (IsChange m c from nominal to) (sym (other n)) (by_failure failure h n)
]
  where
    by_failure : (o : Option ℕ) → IsLeast m.failures c from to o → to ≢ nominal → IsChange m c from nominal to o
    by_failure None h n = λ cost k. elim k [ inl stays ↦ n stays.0 | inr fails ↦ h cost fails.1 ]
    by_failure (Some k) h n = inr (n, h.0, h.1)

same_mode_laws : IsEquivalence same_mode
same_mode_laws = on_equiv (λ (x : Choice). x.mode) nat_eq_equiv

none_same : (y : Choice) (row : List Choice) → ((x : Choice) → Contains row x → x.mode < y.mode) → list_any (same_mode y) row ≡ false
none_same y [] f = refl
none_same y (x ∷ row) f =
    let less : x.mode < y.mode = f x (contains_here x x row refl) in
    let no : (y.mode == x.mode) ≡ false = ne_eqb y.mode x.mode (λ e. absurd (omega arith)) in
    or_from (same_mode y x) (list_any (same_mode y) row) no (none_same y row (λ z among. f z (contains_there x z row among)))

pub row_more : (m : PlantModel) (c from nominal to : ℕ) (old new : List Choice) (o : Option ℕ) → IsChange m c from nominal to o → IsAdded old to o new → IsRowTo m c from nominal to old
    → IsRowTo m c from nominal (to + 1) new
row_more m c from nominal to old new None change added h = subst (IsRowTo m c from nominal (to + 1)) (sym added) (record {
  each = λ x. (
    (λ among. (let its = (h.each x).0 among in (omega (arith, its.0), its.1))),
    (λ its. elim (cases_lt x.mode to) [
      | inl lt ↦ (h.each x).1 (lt, its.1)
      | inr ge ↦ (let e : x.mode ≡ to = omega (arith, its.0) in absurd (change x.cost (subst (λ t. ChangeCosts m c from nominal t x.cost) e its.1)))
    ]),
  );
  distinct = h.distinct;
})
row_more m c from nominal to old new (Some k) change added h =
    let y : Choice = record { mode = to; cost = k } in
    subst (IsRowTo m c from nominal (to + 1)) (sym added) (record {
      each = λ x. (
        (λ among. elim (Contains-push_cases old y x among) [
          | inl there ↦ (let its = (h.each x).0 there in (omega (arith, its.0), its.1))
          | inr e ↦ subst (λ (z : Choice). (z.mode < to + 1) × ChangeCosts m c from nominal z.mode z.cost) e (omega arith, change)
        ]),
        (λ its. elim (cases_lt x.mode to) [
          | inl lt ↦ Contains-append_left old (y ∷ []) x ((h.each x).1 (lt, its.1))
          | inr ge ↦
              let e : x.mode ≡ to = omega (arith, its.0) in
              let cost : x.cost ≡ k = one_change m c from nominal to x.cost k (subst (λ t. ChangeCosts m c from nominal t x.cost) e its.1) change in
              let whole : y ≡ x = (λ d. record { mode = sym e d; cost = sym cost d }) in
              subst (Contains (old ++ y ∷ [])) whole (Contains-push old y)
        ]),
      );
      distinct = IsDistinct-push same_mode_laws old y h.distinct (none_same y old (λ x among. ((h.each x).0 among).0));
    })

distinct_at : (row : List Choice) → IsDistinct same_mode row → (i j : ℕ) (d : Choice) → i < j → j < length row → same_mode (get_or row i d) (get_or row j d) ≡ false
unfolding IsDistinct
distinct_at [] h i j d lt within = absurd (omega arith)
distinct_at (x ∷ row) h i zero d lt within = absurd (omega arith)
distinct_at (x ∷ row) h zero (suc j) d lt within = All-from_recursion (λ y. same_mode x y ≡ false) row h.0 j d (omega arith)
distinct_at (x ∷ row) h (suc i) (suc j) d lt within = distinct_at row h.1 i j d (omega arith) (omega arith)

choice_total : IsTotalOrder choice_cmp
choice_total = then_total (on_total (λ (x : Choice). x.cost) nat_cmp_total) (on_total (λ (x : Choice). x.mode) nat_cmp_total)

strictly : (x y : Choice) (o : Ordering) → choice_cmp y x ≡ o → is_lt o ≡ false → same_mode x y ≡ false → choice_cmp x y ≡ Less
strictly x y Less e f n = absurd (cc)
strictly x y Equal e f n =
    let both = then_equal (nat_cmp y.cost x.cost) (nat_cmp y.mode x.mode) e in
    let mode : x.mode ≡ y.mode = sym (exact_unsigned y.mode x.mode both.1) in
    let yes : same_mode x y ≡ true = eq-eqb x.mode y.mode mode in absurd (cc)
strictly x y Greater e f n = choice_total.antisymm x y ∙ ap ordering_reverse e

-- a row, sorted
pub row_sorted : (m : PlantModel) (c from nominal bound : ℕ) (old new : List Choice) → WellFormed m → IsRowTo m c from nominal bound old → IsPermutation old new → IsSorted choice_cmp new → IsRow new
row_sorted m c from nominal bound old new fits h perm sorted =
    let apart = distinct_at new (IsDistinct-IsPermutation same_mode same_mode_laws.symm old new perm h.distinct) in
    record {
      rising = λ i j d lt within. strictly (get_or new i d) (get_or new j d) (choice_cmp (get_or new j d) (get_or new i d)) refl
          (sorted_far (λ x y. is_lt (choice_cmp x y)) (ranks_by choice_total (λ (x : Choice). x)) new sorted i j d (omega arith) within)
          (apart i j d lt within);
      once = λ i j d lt within e. both_ways (same_mode (get_or new i d) (get_or new j d)) (apart i j d lt within) (eq-eqb (get_or new i d).mode (get_or new j d).mode e);
      cheap = All-permutation (λ x. x.cost ≤ MAX_COST) old new perm (all_from (λ x. x.cost ≤ MAX_COST) old (λ x among. elim ((h.each x).0 among).1 [
        | inl stays ↦ omega (arith, stays.1)
        | inr fails ↦ (All-contains (IsFailure m) m.failures (failing c from x.mode x.cost) fits.failures fails.1).cheap
      ]));
    }

pub sorted_each : (m : PlantModel) (c from nominal bound : ℕ) (old new : List Choice) → AreChanges m c from nominal bound old → IsPermutation old new → AreChanges m c from nominal bound new
sorted_each m c from nominal bound old new h perm x =
    ((λ among. (h x).0 (Contains-permutation new old x (IsPermutation-sym old new perm) among)), (λ its. Contains-permutation old new x perm ((h x).1 its)))

pub mode_count : (m : PlantModel) (c : ℕ) (x : Component) → c < length m.components → x ≡ get_or m.components c x → get_or (mode_counts m) c 0 ≡ length x.modes
mode_count m c x h e = get_or-map (λ (z : Component). length z.modes) m.components c x 0 h ∙ ap (λ (z : Component). length z.modes) (sym e)
