-- Going back along a trail to a place where a clause is learned.
use Rattle.std.proofs.Common.{◌≡◌, inl, inr, ℕ, ◌+◌, ◌-◌, ◌^◌, ◌<◌, ◌≤◌, Bool, true, false, eqb, List, [], ◌∷◌, ◌++◌, length, get_or, take, drop, set, slice_index, bit_and, w64, sym, ap, subst, ◌∙◌, arith, get_or-set_same, get_or-set_other}
use Rattle.std.proofs.lemmas.Bool.{and_from, and_parts, both_ways, cases_eq, cases_order}
use Rattle.std.proofs.lemmas.List.{get_or-take, length-take, length-set, length-take-le, take-take, take_more_set}
use Rattle.std.proofs.lemmas.List.Elements.{All-drop, All-push, All-take}
use Rattle.std.proofs.lemmas.Nat.{and_le_l}
use Rattle.std.proofs.lemmas.Nat.Bits.{bit_at-trailing_zeros}
use Rattle.std.specs.Int.{trailing_zeros}
use Rattle.cca_base.specs.Sets.{has}
use Rattle.cca_base.proofs.SetLaws.{has-and}
use Rattle.cca_base.specs.declared.cube.Pair.{Pair}
use Rattle.clash_analysis.specs.declared.entry.Entry.{Entry}
use Rattle.clash_analysis.specs.declared.entry.Why.{Why}
use Rattle.clash_analysis.specs.declared.entry.Why.TheVariants.{Assumed, Chosen, Because}
use Rattle.clash_analysis.specs.Trails.{undone}
use Rattle.clash_analysis.specs.Laws.{Passes}
use Rattle.clash_analysis.specs.Clashes.{AreInside, AreNoChoices, IsClash, IsNoChoice}
use Rattle.clash_analysis.specs.Levels.{AreLevels, IsDerived, IsLearnedAt}
use Rattle.clash_analysis.proofs.CodeLaws.{take_last}
use Rattle.clash_analysis.proofs.LevelLaws.{back_of}
use Rattle.clash_analysis.proofs.TrailLaws.{popped}

-- ---- entries inside

module _ (n : ℕ) (trail : List Entry) (long : ℕ) (inside : AreInside n (take long trail)) (room : long ≤ length trail) where
  pub front_inside : (left : ℕ) → left ≤ long → AreInside n (take left trail)
  front_inside left h = subst (λ l. AreInside n l) (take-take left long trail h) (All-take (λ (e : Entry). e.subject < n) left (take long trail) inside)

  pub one_inside : (i : ℕ) (d : Entry) → i < long → (get_or trail i d).subject < n
  one_inside i d h = subst (λ (e : Entry). e.subject < n) (get_or-take long trail i d h) (inside i d (omega (arith, length-take-le long trail room)))

  pub part_inside : (from left : ℕ) → from ≤ left → left ≤ long → AreInside n (take (left - from) (drop from trail))
  part_inside from left h k = subst (λ l. AreInside n l) (sym (back_of trail from left h)) (All-drop (λ (e : Entry). e.subject < n) from (take left trail) (front_inside left k))

-- ---- levels

pub no_choice : (why : Why) → IsDerived why → IsNoChoice why
no_choice Assumed derived = absurd derived
no_choice Chosen derived = absurd derived
no_choice (Because set) derived = tt

module _ (marks : List ℕ) (level : ℕ) (trail : List Entry) (left : ℕ) (stands : AreLevels marks level trail left) (some : 0 < level) where
  pub last_below : slice_index marks (level - 1) < left
  last_below = stands.below (level - 1) (omega arith)

  pub marks_low : (k : ℕ) → k < level → slice_index marks k ≤ slice_index marks (level - 1)
  marks_low k h = elim (cases_eq k (level - 1)) [
    | inl same ↦ let equal : slice_index marks k ≡ slice_index marks (level - 1) = ap (slice_index marks) same in omega (arith, equal)
    | inr other ↦ let less : slice_index marks k < slice_index marks (level - 1) = stands.rising k (level - 1) (omega arith) (omega arith) in omega (arith, less)
  ]

  pub stands_same : (slice_index marks (level - 1) ≡ left - 1 → ⊥) → AreLevels marks level trail (left - 1)
  stands_same other = record {
    marks_room = stands.marks_room;
    trail_room = omega (arith, stands.trail_room);
    rising = stands.rising;
    below = λ k h. let least : slice_index marks (level - 1) < left - 1 = omega (arith, last_below, other) in omega (arith, marks_low k h, least);
    first = λ i d h low. stands.first i d (omega arith) low;
    derived = λ i d h. stands.derived i d (omega arith);
  }

  pub stands_less : left - 1 ≡ slice_index marks (level - 1) → AreLevels marks (level - 1) trail (left - 1)
  stands_less same = record {
    marks_room = omega (arith, stands.marks_room);
    trail_room = omega (arith, stands.trail_room);
    rising = λ j k h less. stands.rising j k h (omega arith);
    below = λ k h. let low : slice_index marks k < slice_index marks (level - 1) = stands.rising k (level - 1) (omega arith) (omega arith) in omega (arith, low, same);
    first = λ i d h low. stands.first i d (omega arith) (λ k less. elim (cases_eq k (level - 1)) [
      | inl last ↦ let equal : slice_index marks k ≡ slice_index marks (level - 1) = ap (slice_index marks) last in omega (arith, equal, same, h)
      | inr other ↦ low k (omega arith)
    ]);
    derived = λ i d h k less above none. stands.derived i d (omega arith) k (omega arith) above (λ j small e. elim (cases_eq j (level - 1)) [
      | inl last ↦ let equal : slice_index marks j ≡ slice_index marks (level - 1) = ap (slice_index marks) last in absurd (omega (arith, equal, same, h, e))
      | inr other ↦ none j (omega arith) e
    ]);
  }

  pub is_derived : (d : Entry) → slice_index marks (level - 1) < left - 1 → IsDerived (get_or trail (left - 1) d).why
  is_derived d above = stands.derived (left - 1) d (omega (arith, last_below)) (level - 1) (omega arith) above (λ j small e. absurd (omega (arith, marks_low j small, above, e)))

-- ---- where a clause is learned

pub some_shared : (one other : ℕ) → one < 2 ^ 64 → (bit_and one other ≡ 0 → ⊥) → (a : ℕ) × (has other a ≡ true) × (has one a ≡ true)
some_shared one other h some =
    let positive : 0 < bit_and one other = omega (arith, some) in
    let small : bit_and one other < 2 ^ 64 = omega (arith, h, and_le_l one other) in
    let found = bit_at-trailing_zeros w64 (bit_and one other) positive small in
    let a = trailing_zeros w64 (bit_and one other) in
    let held : has (bit_and one other) a ≡ true = ap (λ b. eqb b 1) found.1 in
    let parts = and_parts (has one a) (has other a) (sym (has-and one other a) ∙ held) in
    (a, parts.1, parts.0)

module _ (want : List ℕ → Bool) (pairs : List Pair) (start : List ℕ) (trail : List Entry) (left : ℕ) (some : 0 < left) (room : left ≤ length trail) (d : Entry) (dom learn : List ℕ) (blamed : ℕ → Bool)
    (clash : IsClash want pairs start (take left trail) dom blamed learn) where
  pub clash_last : IsClash want pairs start (take (left - 1) trail ++ get_or trail (left - 1) d ∷ []) dom blamed learn
  clash_last = subst (λ l. IsClash want pairs start l dom blamed learn) (take_last trail left d some room) clash

  pub learned_at : (e : Entry) → e ≡ get_or trail (left - 1) d → ((v : ℕ) → blamed v ≡ false) → ((a : ℕ) × (has e.before a ≡ true) × (has (slice_index learn e.subject) a ≡ true))
      → IsLearnedAt (Passes want) pairs start (take (left - 1) trail) (undone dom e) learn e.subject
  learned_at e is empty shared =
      let last : IsClash want pairs start (take (left - 1) trail ++ e ∷ []) dom blamed learn = subst (λ (x : Entry). IsClash want pairs start (take (left - 1) trail ++ x ∷ []) dom blamed learn) (sym is) clash_last in
      let p = popped (Passes want) pairs start dom (take (left - 1) trail) e last.right in
      let kept : slice_index dom e.subject ≡ bit_and e.before e.kept = ap (λ l. slice_index l e.subject) p.2 ∙ get_or-set_same (undone dom e) e.subject (bit_and e.before e.kept) 0 p.1.inside in
      let one = p.1.left in
      record {
        right = p.0;
        learned = λ xs w. clash.learned xs (w, λ q among it. absurd (both_ways (blamed q.item) (empty q.item) it));
        apart = λ v a other held. clash.apart v a (ap (λ s. has s a) (sym (get_or-set_other dom e.subject v e.before 0 other)) ∙ held);
        left = (shared.0, ap (λ s. has s shared.0) (sym p.1.before) ∙ shared.1, shared.2);
        less = (
          one.0,
          ap (λ s. has s one.0) (sym p.1.before) ∙ one.1,
          clash.apart e.subject one.0 (ap (λ s. has s one.0) kept ∙ has-and e.before e.kept one.0 ∙ and_from (has e.before one.0) (has e.kept one.0) one.1 one.2),
        );
      }

-- below all marks
pub front_plain : (marks : List ℕ) (level : ℕ) (trail : List Entry) (left : ℕ) → AreLevels marks level trail left → level ≤ 0 → AreNoChoices (take left trail)
front_plain marks level trail left stands none k d h =
    let small : k < left = omega (arith, length-take-le left trail stands.trail_room) in
    subst (λ (e : Entry). IsNoChoice e.why) (sym (get_or-take left trail k d small)) (stands.first k d small (λ j less. absurd (omega arith)))

pub some_between : (trail : List Entry) (from left : ℕ) → 0 < length (take (left - from) (drop from trail)) → from < left
some_between trail from left h = omega (arith, length-take (left - from) (drop from trail))

-- ---- with an entry on a lower level

module _ (marks : List ℕ) (levels : ℕ) (trail : List Entry) (long level : ℕ) (stands : AreLevels marks levels trail long) (less : level < levels) (e : Entry) (derived : IsDerived e.why) where
  place_room : slice_index marks level < length trail
  place_room = omega (arith, stands.below level less, stands.trail_room)

  pub why_written : (P : Why → Type 0) (i : ℕ) (d : Entry) → (i ≡ slice_index marks level → P e.why) → ((i ≡ slice_index marks level → ⊥) → P (get_or trail i d).why) → P (get_or (set trail (slice_index marks level) e) i d).why
  why_written P i d here there = elim (cases_eq i (slice_index marks level)) [
    | inl same ↦ subst (λ (x : Entry). P x.why) (sym (ap (λ k. get_or (set trail (slice_index marks level) e) k d) same ∙ get_or-set_same trail (slice_index marks level) e d place_room)) (here same)
    | inr other ↦ subst (λ (x : Entry). P x.why) (sym (get_or-set_other trail (slice_index marks level) i e d other)) (there other)
  ]

  low_marks : (i : ℕ) → i ≤ slice_index marks level → ((k : ℕ) → k < level → i < slice_index marks k) → (i ≡ slice_index marks level → ⊥) → (k : ℕ) → k < levels → i < slice_index marks k
  low_marks i h low other k small = elim (cases_order k level) [
    | inl same ↦ let equal : slice_index marks k ≡ slice_index marks level = ap (slice_index marks) same in omega (arith, equal, other)
    | inr (inl before) ↦ low k before
    | inr (inr behind) ↦ let higher : slice_index marks level < slice_index marks k = stands.rising level k behind small in omega (arith, higher)
  ]

  no_marks : (i : ℕ) → i ≤ slice_index marks level → ((j : ℕ) → j < level → slice_index marks j ≡ i → ⊥) → (i ≡ slice_index marks level → ⊥) → (j : ℕ) → j < levels → slice_index marks j ≡ i → ⊥
  no_marks i h none other j small e = elim (cases_order j level) [
    | inl same ↦ other (sym e ∙ ap (slice_index marks) same)
    | inr (inl before) ↦ none j before e
    | inr (inr behind) ↦ let higher : slice_index marks level < slice_index marks j = stands.rising level j behind small in absurd (omega (arith, higher, e))
  ]

  pub levels_after : AreLevels marks level (set trail (slice_index marks level) e) (slice_index marks level + 1)
  levels_after = record {
    marks_room = omega (arith, stands.marks_room);
    trail_room = omega (arith, place_room, length-set trail (slice_index marks level) e);
    rising = λ j k h small. stands.rising j k h (omega arith);
    below = λ k small. omega (arith, stands.rising k level small less);
    first = λ i d h low. why_written IsNoChoice i d (λ same. no_choice e.why derived) (λ other. stands.first i d (omega (arith, stands.below level less)) (low_marks i (omega arith) low other));
    derived = λ i d h k small above none. why_written IsDerived i d (λ same. derived)
        (λ other. stands.derived i d (omega (arith, stands.below level less)) k (omega arith) above (no_marks i (omega arith) none other));
  }

  pub inside_after : (n : ℕ) → AreInside n (take long trail) → e.subject < n → AreInside n (take (slice_index marks level + 1) (set trail (slice_index marks level) e))
  inside_after n inside small =
      subst (λ l. AreInside n l) (sym (take_more_set trail (slice_index marks level) e place_room))
      (All-push (λ (x : Entry). x.subject < n) (take (slice_index marks level) trail) e (front_inside n trail long inside stands.trail_room (slice_index marks level) (omega (arith, stands.below level less))) small)
