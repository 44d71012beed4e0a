-- A pair of the question, assumed or lost.
use Rattle.std.proofs.Common.{◌≡◌, inl, inr, ℕ, ◌+◌, ◌-◌, ◌*◌, ◌%◌, ◌^◌, ◌<◌, ◌≤◌, true, false, not, eqb, w64, List, ◌∷◌, length, get_or, drop, set, slice_index, bit_and, refl, sym, ap, ◌∙◌, arith, get_or-set_same, get_or-set_other}
use Rattle.std.specs.Int.{bit_at, bit_not}
use Rattle.std.proofs.lemmas.Bool.{and_from, and_parts, both_ways, cases_eq, false_from_ne_true}
use Rattle.std.proofs.lemmas.Bool.Decides.{nat_tests}
use Rattle.std.proofs.lemmas.List.{drop_more}
use Rattle.std.proofs.lemmas.List.Elements.{All-cons, All-same, All-weaker}
use Rattle.std.proofs.lemmas.Nat.Bits.{bit_at-lt, bit_at_not}
use Rattle.std.proofs.Math.Nat.{mod-lt}
use Rattle.std.proofs.lemmas.Nat.{pow_pos}
use Rattle.cca_base.specs.Sets.{has}
use Rattle.cca_base.proofs.SetLaws.{has-and, has-empty}
use Rattle.cca_base.specs.declared.cube.Pair.{Pair}
use Rattle.clash_analysis.specs.declared.entry.Why.{Why}
use Rattle.clash_analysis.specs.Trails.{AreApart}
use Rattle.clash_analysis.proofs.UndoLaws.{narrowed_within}
use Rattle.world_search.specs.Assumed.{AreHeld, IsHeld}
use Rattle.world_search.proofs.ClauseLaws.{none_common}
use Rattle.world_search.proofs.PutLaws.{entry_of}
use Rattle.world_search.proofs.WorkLaws.{one_has, one_none}

not_test : (x b : ℕ) → b < 2 → x ≡ 1 - b → eqb x 1 ≡ not (eqb b 1)
not_test x b h e = grind (arith, nat_tests)

-- all that isn't in a word
pub has_not : (other a : ℕ) → other < 2 ^ 64 → a < 64 → has (2 ^ 64 - 1 - other) a ≡ not (has other a)
has_not other a h k = not_test (bit_at (bit_not w64 other) a) (bit_at other a) (bit_at-lt other a) (bit_at_not w64 other a h k)

module _ (value : ℕ) (small : value < 64) where
  abbrev pub one : ℕ
  one = 1 * 2 ^ value % 2 ^ 64

  pub one_small : 1 * 2 ^ value % 2 ^ 64 < 2 ^ 64
  one_small = mod-lt (1 * 2 ^ value) (pow_pos 64)

  pub one_only : (a : ℕ) → has (1 * 2 ^ value % 2 ^ 64) a ≡ true → a ≡ value
  one_only a is = elim (cases_eq a value) [
    | inl same ↦ same
    | inr other ↦ absurd (both_ways (has (1 * 2 ^ value % 2 ^ 64) a) (one_none value a small other) is)
  ]

  module _ (dom : ℕ) where
    pub not_left : bit_and dom (1 * 2 ^ value % 2 ^ 64) ≡ 0 → has dom value ≡ false
    not_left e = false_from_ne_true (has dom value) (λ is. both_ways (has (1 * 2 ^ value % 2 ^ 64) value) (none_common dom (1 * 2 ^ value % 2 ^ 64) e value is) (one_has value small))

    pub alone_left : ((a : ℕ) → has dom a ≡ true → a < 64) → bit_and dom (2 ^ 64 - 1 - 1 * 2 ^ value % 2 ^ 64) ≡ 0 → (a : ℕ) → has dom a ≡ true → a ≡ value
    alone_left low e a is = elim (cases_eq a value) [
      | inl same ↦ same
      | inr other ↦ absurd (both_ways (has (2 ^ 64 - 1 - 1 * 2 ^ value % 2 ^ 64) a) (none_common dom (2 ^ 64 - 1 - 1 * 2 ^ value % 2 ^ 64) e a is)
          (has_not (1 * 2 ^ value % 2 ^ 64) a one_small (low a is) ∙ ap not (one_none value a small other)))
    ]

-- with the kept values alone
module _ (dom : List ℕ) (u kept : ℕ) (why : Why) (inside : u < length dom) where
  pub fewer_left : (v a : ℕ) → has (slice_index (set dom u (bit_and (slice_index dom u) kept)) v) a ≡ true → has (slice_index dom v) a ≡ true
  fewer_left v a = narrowed_within dom (entry_of dom u kept why) v a inside refl

  pub kept_left : (a : ℕ) → has (slice_index (set dom u (bit_and (slice_index dom u) kept)) u) a ≡ true → has kept a ≡ true
  kept_left a held = (and_parts _ _ (sym (has-and (slice_index dom u) kept a) ∙ ap (λ s. has s a) (sym (get_or-set_same dom u (bit_and (slice_index dom u) kept) 0 inside)) ∙ held)).1

-- a lost pair, learned
module _ (start dom learn : List ℕ) (p : Pair) (small : p.value < 64) (inside : p.item < length learn) (clear : (v : ℕ) → slice_index learn v ≡ 0) where
  abbrev pub lost : ℕ
  lost = bit_and (1 * 2 ^ p.value % 2 ^ 64) (slice_index start p.item)

  pub lost_learned : has (slice_index start p.item) p.value ≡ true → has (slice_index (set learn p.item (bit_and (1 * 2 ^ p.value % 2 ^ 64) (slice_index start p.item))) p.item) p.value ≡ true
  lost_learned is = ap (λ s. has s p.value) (get_or-set_same learn p.item lost 0 inside) ∙ has-and (1 * 2 ^ p.value % 2 ^ 64) (slice_index start p.item) p.value ∙ and_from _ _ (one_has p.value small) is

  pub lost_apart : has (slice_index dom p.item) p.value ≡ false → AreApart dom (set learn p.item (bit_and (1 * 2 ^ p.value % 2 ^ 64) (slice_index start p.item)))
  lost_apart out v a held = false_from_ne_true (has (slice_index (set learn p.item lost) v) a) (λ is. elim (cases_eq v p.item) [
    | inl same ↦
        let one_is = (and_parts _ _ (sym (has-and (1 * 2 ^ p.value % 2 ^ 64) (slice_index start p.item) a) ∙ ap (λ s. has s a) (sym (ap (slice_index (set learn p.item lost)) same ∙ get_or-set_same learn p.item lost 0 inside)) ∙ is)).0 in
        both_ways (has (slice_index dom v) a) (ap (λ u. has (slice_index dom u) a) same ∙ ap (has (slice_index dom p.item)) (one_only p.value small a one_is) ∙ out) held
    | inr other ↦ both_ways (has 0 a) (has-empty a) (ap (λ s. has s a) (sym (get_or-set_other learn p.item v lost 0 other ∙ clear v)) ∙ is)
  ])

-- one pair more is held
pub held_more : (dom new : List ℕ) (pairs : List Pair) (i : ℕ) (d : Pair) → 0 < i → i ≤ length pairs → ((v a : ℕ) → has (slice_index new v) a ≡ true → has (slice_index dom v) a ≡ true) → AreHeld dom (drop i pairs) → IsHeld new (get_or pairs (i - 1) d)
    → AreHeld new (drop (i - 1) pairs)
held_more dom new pairs i d some h fewer before here =
    let next : i ≡ (i - 1) + 1 = omega arith in
    All-same (IsHeld new) (drop (i - 1) pairs) (get_or pairs (i - 1) d ∷ drop i pairs) (drop_more pairs (i - 1) d (omega arith) ∙ ap (λ k. get_or pairs (i - 1) d ∷ drop k pairs) (sym next))
    (All-cons (IsHeld new) (get_or pairs (i - 1) d) (drop i pairs) here (All-weaker (IsHeld dom) (IsHeld new) (λ p old a is. old a (fewer p.item a is)) (drop i pairs) before))
