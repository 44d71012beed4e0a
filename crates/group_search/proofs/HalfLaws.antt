-- The halves of split boxes: what they have together, and what is left of them.
use Rattle.std.proofs.Common.{◌≡◌, ◌≢◌, inl, inr, ℕ, zero, suc, ◌+◌, ◌-◌, ◌*◌, ◌^◌, ◌<◌, ◌≤◌, Bool, eqb, true, false, cond, List, [], ◌∷◌, ◌++◌, length, get_or, set, slice_index, refl, sym, ap, subst, ◌∙◌, arith, get_or-set_same, get_or-set_other}
use Rattle.std.specs.Prelude.{max, All, Contains, count_ones}
use Rattle.std.specs.List.{sum_by}
use Rattle.std.proofs.Math.Nat.{mul-le-mul_left}
use Rattle.std.proofs.lemmas.Nat.{ones_le_self, ones-le, pow_pos}
use Rattle.std.proofs.lemmas.Bool.{cases_lt, ne_eqb, false≢true}
use Rattle.std.proofs.lemmas.List.{get_or_past, length-set, set-get_or}
use Rattle.std.proofs.lemmas.List.Elements.{All-rest}
use Rattle.std.proofs.lemmas.List.Sums.{sum_by-cons, sum_by-set}
use Rattle.std.proofs.lemmas.Nat.Bits.{bit_at-pow_other, bit_at-pow_same, bit_at-zero, bit_at_above}
use Rattle.cca_base.specs.Sets.{has}
use Rattle.cca_base.specs.declared.cube.Pair.{Pair}
use Rattle.group_search.specs.Bounds.{IsOpen}
use Rattle.group_search.specs.Questions.{Question, IsInside, IsWithin}
use Rattle.group_search.specs.Halves.{AreFewer, AreHalves, IsBack, IsSplit, left_of, size, undone, weight}
use Rattle.group_search.specs.declared.halves.Half.{Half}
use Rattle.group_search.proofs.BoxLaws.{same_or_other}
use Rattle.group_search.proofs.ValueLaws.{ones_more, ones_some}

-- ---- sets

pub none_has : (a : ℕ) → has 0 a ≡ false
none_has a = ap (λ b. eqb b 1) (bit_at-zero a)

pub one_has : (value : ℕ) → has (2 ^ value) value ≡ true
one_has value = ap (λ b. eqb b 1) (bit_at-pow_same value)

pub one_alone : (value a : ℕ) → has (2 ^ value) a ≡ true → a ≡ value
one_alone value a held = elim (same_or_other a value) [
  | inl e ↦ e
  | inr other ↦ absurd (false≢true (sym (ap (λ b. eqb b 1) (bit_at-pow_other value a other)) ∙ held))
]

-- a set with a value is not 0
pub has_some : (set a : ℕ) → has set a ≡ true → 1 ≤ set
has_some zero a held = absurd (false≢true (sym (none_has a) ∙ held))
has_some (suc n) a held = omega arith

pub none_within : (set : ℕ) → IsWithin 0 set
none_within set a held = absurd (false≢true (sym (none_has a) ∙ held))

-- ---- lists that are written

pub set_again : {X : Type 0} (xs : List X) (i : ℕ) (a b : X) → set (set xs i a) i b ≡ set xs i b
set_again [] i a b = refl
set_again (x ∷ xs) zero a b = refl
set_again (x ∷ xs) (suc i) a b = ap (λ l. x ∷ l) (set_again xs i a b)

-- what was there is there again
pub set_back : (xs : List ℕ) (i a : ℕ) → set (set xs i a) i (slice_index xs i) ≡ xs
set_back xs i a = set_again xs i a (slice_index xs i) ∙ set-get_or xs i 0

-- ---- sizes

pub size_some : (masks : List ℕ) → 1 ≤ size masks
size_some [] = omega arith
size_some (m ∷ masks) =
    let rest = size_some masks in
    let more = mul-le-mul_left {m = 1} {n = size masks} (max 1 m) rest in
    omega (arith, more)

-- the halves have as much together as the whole
pub size_split : (masks : List ℕ) (i a b : ℕ) → i < length masks → 1 ≤ a → 1 ≤ b → a + b ≡ slice_index masks i → size (set masks i a) + size (set masks i b) ≡ size masks
size_split [] i a b inside one other sum = absurd (omega (arith, inside))
size_split (m ∷ masks) zero a b inside one other sum =
    let left : max 1 a ≡ a = omega (arith, one) in
    let right : max 1 b ≡ b = omega (arith, other) in
    let whole : max 1 m ≡ a + b = omega (arith, sum, one) in
    let made : a * size masks + b * size masks ≡ (a + b) * size masks = omega arith in
    rw (left, right, whole) made
size_split (m ∷ masks) (suc i) a b inside one other sum =
    let rest = size_split masks i a b (omega (arith, inside)) one other sum in
    let made = ap (λ n. max 1 m * n) rest in
    omega (arith, made)

-- ---- what is left

-- a split that is left is on top
pub left_more : (half : Half) (older : List Half) (masks : List ℕ) → half.left ≢ 0 → left_of (half ∷ older) masks ≡ set masks half.item half.left ∷ left_of older (set masks half.item half.before)
left_more half older masks some =
    ap (λ b. cond b [] (set masks half.item half.left ∷ []) ++ left_of older (set masks half.item half.before)) (ne_eqb half.left 0 some)

pub left_none : (half : Half) (older : List Half) (masks : List ℕ) → half.left ≡ 0 → left_of (half ∷ older) masks ≡ left_of older (set masks half.item half.before)
left_none half older masks none =
    ap (λ n. cond (eqb n 0) [] (set masks half.item half.left ∷ []) ++ left_of older (set masks half.item half.before)) none

-- the box is within what it was before the splits
put_within : (masks : List ℕ) (i before place : ℕ) → IsWithin (slice_index masks i) before → IsWithin (slice_index masks place) (slice_index (set masks i before) place)
put_within masks i before place within a held = elim (same_or_other place i) [
  | inr other ↦ ap (λ s. has s a) (get_or-set_other masks i place before 0 other) ∙ held
  | inl e ↦ elim (cases_lt i (length masks)) [
    | inl inside ↦
        let here : slice_index (set masks i before) place ≡ before = ap (λ k. get_or (set masks i before) k 0) e ∙ get_or-set_same masks i before 0 inside in
        ap (λ s. has s a) here ∙ within a (subst (λ k. has (slice_index masks k) a ≡ true) e held)
    | inr past ↦
        let nothing : slice_index masks place ≡ 0 = get_or_past masks place 0 (omega (arith, e, past)) in
        absurd (false≢true (sym (none_has a) ∙ ap (λ s. has s a) (sym nothing) ∙ held))
  ]
]

pub halves_within : (halves : List Half) (masks : List ℕ) (place : ℕ) → AreHalves halves masks → IsWithin (slice_index masks place) (slice_index (undone halves masks) place)
halves_within [] masks place are a held = held
halves_within (half ∷ older) masks place are a held =
    halves_within older (set masks half.item half.before) place are.2 a (put_within masks half.item half.before place are.0 a held)

pub inside_before : (q : Question) (test : ℕ → Bool) (halves : List Half) (masks values : List ℕ) → AreHalves halves masks → IsInside q test masks values → IsInside q test (undone halves masks) values
inside_before q test halves masks values are inside place within own = halves_within halves masks place are (slice_index values place) (inside place within own)

-- ---- a split

module _ (p : Pair) (old new : List ℕ) (before after : List Half) (is : IsSplit p old new before after) where
  some_left : is.half.left ≢ 0
  some_left e = let one : 0 < 2 ^ p.value = pow_pos p.value in omega (arith, e, is.left, one)

  abbrev alone : List ℕ
  alone = set old p.item (2 ^ p.value)

  left_at : set new is.half.item is.half.left ≡ alone
  left_at = ap (λ l. set l is.half.item is.half.left) is.kept ∙ ap (λ i. set (set old p.item is.rest) i is.half.left) is.item
      ∙ ap (set (set old p.item is.rest) p.item) is.left ∙ set_again old p.item is.rest (2 ^ p.value)

  back_at : set new is.half.item is.half.before ≡ old
  back_at = ap (λ l. set l is.half.item is.half.before) is.kept ∙ ap (λ i. set (set old p.item is.rest) i is.half.before) is.item
      ∙ ap (set (set old p.item is.rest) p.item) is.whole ∙ set_back old p.item is.rest

  pub split_left : left_of after new ≡ alone ∷ left_of before old
  split_left = ap (λ l. left_of l new) is.put ∙ left_more is.half before new some_left
      ∙ ap (λ m. m ∷ left_of before (set new is.half.item is.half.before)) left_at ∙ ap (λ m. alone ∷ left_of before m) back_at

  pub split_undone : undone after new ≡ undone before old
  split_undone = ap (λ l. undone l new) is.put ∙ ap (undone before) back_at

  pub split_halved : p.item < length old → has (slice_index old p.item) p.value ≡ true → AreHalves before old → AreHalves after new
  split_halved inside held are =
      let here : slice_index new is.half.item ≡ is.rest =
      ap (λ l. slice_index l is.half.item) is.kept ∙ ap (slice_index (set old p.item is.rest)) is.item ∙ get_or-set_same old p.item is.rest 0 inside in
      subst (λ l. AreHalves l new) (sym is.put) (
        (λ a h. ap (λ s. has s a) is.whole ∙ is.within a (ap (λ s. has s a) (sym here) ∙ h)),
        (λ a h. ap (λ s. has s a) is.whole ∙ ap (has (slice_index old p.item)) (one_alone p.value a (ap (λ s. has s a) (sym is.left) ∙ h)) ∙ held),
        subst (AreHalves before) (sym back_at) are,
      )

  pub split_fewer : p.item < length old → 1 ≤ is.rest → AreFewer before old → AreFewer after new
  split_fewer inside some are =
      let here : slice_index new is.half.item ≡ is.rest =
      ap (λ l. slice_index l is.half.item) is.kept ∙ ap (slice_index (set old p.item is.rest)) is.item ∙ get_or-set_same old p.item is.rest 0 inside in
      let whole = ap count_ones is.whole ∙ ones_more is.rest p.value (slice_index old p.item) is.gone is.sum in
      let one = ap count_ones is.left ∙ ones_more 0 p.value (2 ^ p.value) (none_has p.value) (omega arith) in
      subst (λ l. AreFewer l new) (sym is.put) (
        omega (arith, whole, ap count_ones here),
        omega (arith, whole, one, ones_le_self 0, ones_some is.rest some),
        subst (AreFewer before) (sym back_at) are,
      )

  -- the halves weigh less together
  pub split_weight : p.item < length old → 1 ≤ is.rest → weight (new ∷ left_of after new) < weight (old ∷ left_of before old)
  split_weight inside some =
      let f = λ (b : List ℕ). 2 * size b - 1 in
      let one : 1 ≤ 2 ^ p.value = pow_pos p.value in
      let sum = size_split old p.item is.rest (2 ^ p.value) inside some one is.sum in
      let first : size new ≡ size (set old p.item is.rest) = ap size is.kept in
      let left = ap (sum_by f) split_left in
      let whole = sum_by-cons f old (left_of before old) in
      let top = sum_by-cons f new (left_of after new) in
      let next = sum_by-cons f alone (left_of before old) in
      omega (arith, sum, first, left, whole, top, next, size_some alone, size_some (set old p.item is.rest))

-- the other value is left
pub rest_some : (q : Question) (test : ℕ → Bool) (p : Pair) (old new : List ℕ) (before after : List Half) (is : IsSplit p old new before after) → IsOpen q test old p → 1 ≤ is.rest
rest_some q test p old new before after is open_at = has_some is.rest open_at.other.0 (is.others open_at.other.0 open_at.other.2 open_at.other.1)

-- ---- going back

-- the newest half is the box at hand
abbrev pub taken : Half → Half
taken half = record half { left = 0 }

pub halves_taken : (half : Half) (older : List Half) (masks : List ℕ) → AreHalves (half ∷ older) masks → AreHalves (taken half ∷ older) (set masks half.item half.left)
halves_taken half older masks are = (
  (λ a held. elim (cases_lt half.item (length masks)) [
    | inl inside ↦ are.1 a (ap (λ s. has s a) (sym (get_or-set_same masks half.item half.left 0 inside)) ∙ held)
    | inr past ↦
        let nothing : slice_index (set masks half.item half.left) half.item ≡ 0 =
        get_or_past (set masks half.item half.left) half.item 0 (omega (arith, past, length-set masks half.item half.left)) in
        absurd (false≢true (sym (none_has a) ∙ ap (λ s. has s a) (sym nothing) ∙ held))
  ]),
  none_within half.before,
  subst (AreHalves older) (sym (set_again masks half.item half.left half.before)) are.2,
)

pub fewer_taken : (half : Half) (older : List Half) (masks : List ℕ) → AreFewer (half ∷ older) masks → AreFewer (taken half ∷ older) (set masks half.item half.left)
fewer_taken half older masks are = (
  elim (cases_lt half.item (length masks)) [
    | inl inside ↦ let here = ap count_ones (get_or-set_same masks half.item half.left 0 inside) in omega (arith, here, are.1)
    | inr past ↦
        let nothing : slice_index (set masks half.item half.left) half.item ≡ 0 =
        get_or_past (set masks half.item half.left) half.item 0 (omega (arith, past, length-set masks half.item half.left)) in
        omega (arith, ap count_ones nothing, ones_le_self 0, are.1)
  ],
  omega (arith, ones_le_self 0, are.1),
  subst (AreFewer older) (sym (set_again masks half.item half.left half.before)) are.2,
)

-- each split takes a value away
pub few_halves : (halves : List Half) (masks : List ℕ) (places : ℕ) → length masks ≡ places → All (λ half. half.item < places) halves → AreFewer halves masks
    → sum_by count_ones masks + length halves ≤ sum_by count_ones (undone halves masks)
few_halves [] masks places long own are = omega arith
few_halves (half ∷ older) masks places long own are =
    let before = set masks half.item half.before in
    let inside : half.item < length masks = omega (arith, long, own 0 half (omega arith)) in
    let rest = few_halves older before places (length-set masks half.item half.before ∙ long) (All-rest (λ (h : Half). h.item < places) half older (half ∷ older) refl own) are.2 in
    let whole = sum_by-set count_ones masks half.item half.before 0 inside in
    omega (arith, rest, whole, are.0)

-- what can be split has a value
pub open_some : (q : Question) (test : ℕ → Bool) (masks : List ℕ) (p : Pair) → length masks ≡ length q.of → IsOpen q test masks p → 1 ≤ sum_by count_ones masks
open_some q test masks p long is =
    let mask = slice_index masks p.item in
    let one = ones_some mask (has_some mask p.value is.value) in
    let whole = sum_by-set count_ones masks p.item 0 0 (omega (arith, long, is.place)) in
    omega (arith, one, whole, ones_le_self 0)

-- sets of words have few values together
pub few_values : (masks : List ℕ) → All (λ w. w < 2 ^ 64) masks → sum_by count_ones masks ≤ 64 * length masks
few_values [] words = omega arith
few_values (m ∷ masks) words =
    let first = ones-le 64 m (words 0 m (omega arith)) in
    let rest = few_values masks (All-rest (λ w. w < 2 ^ 64) m masks (m ∷ masks) refl words) in
    let whole = sum_by-cons count_ones m masks in
    omega (arith, first, rest, whole)

-- what going back keeps: what is left, the box before the splits, and their places
pub record IsGoing (start masks : List ℕ) (begun halves : List Half) : Type 0 where
  pub same : left_of begun start ≡ left_of halves masks
  pub undone_same : undone halves masks ≡ undone begun start
  pub halved : AreHalves begun start → AreHalves halves masks
  pub fewer : AreFewer begun start → AreFewer halves masks
  pub items : (half : Half) → Contains halves half → Contains begun half

pub going_begun : (masks : List ℕ) (halves : List Half) → IsGoing masks masks halves halves
going_begun masks halves = record { same = refl; undone_same = refl; halved = λ h. h; fewer = λ h. h; items = λ half h. h }

contains_more : {X : Type 0} (x y : X) (xs : List X) → Contains xs x → Contains (y ∷ xs) x
contains_more x y xs (k, under, is) = (suc k, omega (arith, under), is)

module _ (start masks : List ℕ) (begun halves older : List Half) (half : Half) (is : IsGoing start masks begun halves) (top : halves ≡ half ∷ older) where
  taken_item : (x : Half) → Contains (taken half ∷ older) x → (other : Half) × Contains begun other × (other.item ≡ x.item)
  taken_item x (zero, under, e) = (half, is.items half (subst (λ l. Contains l half) (sym top) (0, omega arith, refl)), ap (λ (h : Half). h.item) e)
  taken_item x (suc k, under, e) = (x, is.items x (subst (λ l. Contains l x) (sym top) (suc k, under, e)), refl)

  -- over a split of which both halves were looked at
  pub going_on : half.left ≡ 0 → IsGoing start (set masks half.item half.before) begun older
  going_on none = record {
    same = is.same ∙ ap (λ l. left_of l masks) top ∙ left_none half older masks none;
    undone_same = ap (λ l. undone l masks) (sym top) ∙ is.undone_same;
    halved = λ h. (subst (λ l. AreHalves l masks) top (is.halved h)).2;
    fewer = λ h. (subst (λ l. AreFewer l masks) top (is.fewer h)).2;
    items = λ x among. is.items x (subst (λ l. Contains l x) (sym top) (contains_more x half older among));
  }

  -- to one with a half that is left
  pub going_back : half.left ≢ 0 → IsBack start (set masks half.item half.left) begun (taken half ∷ older)
  going_back some =
      let after = set masks half.item half.left in
      let again = set_again masks half.item half.left half.before in
      let rest : left_of (taken half ∷ older) after ≡ left_of older (set masks half.item half.before) =
      left_none (taken half) older after refl ∙ ap (left_of older) again in
      record {
        same = is.same ∙ ap (λ l. left_of l masks) top ∙ left_more half older masks some ∙ ap (λ l. after ∷ l) (sym rest);
        undone = ap (undone older) again ∙ ap (λ l. undone l masks) (sym top) ∙ is.undone_same;
        halved = λ h. halves_taken half older masks (subst (λ l. AreHalves l masks) top (is.halved h));
        fewer = λ h. fewer_taken half older masks (subst (λ l. AreFewer l masks) top (is.fewer h));
        items = λ x among. taken_item x among;
      }

-- a word's value is below 64
pub has_small : (word a : ℕ) → word < 2 ^ 64 → has word a ≡ true → a < 64
has_small word a fits held = elim (cases_lt a 64) [
  | inl small ↦ small
  | inr large ↦ absurd (false≢true (sym (ap (λ b. eqb b 1) (bit_at_above word 64 a fits large)) ∙ held))
]

-- the value of a pair of a box is small
pub open_small : (q : Question) (test : ℕ → Bool) (masks : List ℕ) (p : Pair) → All (λ w. w < 2 ^ 64) masks → length masks ≡ length q.of → IsOpen q test masks p → p.value < 64
open_small q test masks p words long is = has_small (slice_index masks p.item) p.value (words p.item 0 (omega (arith, long, is.place))) is.value
