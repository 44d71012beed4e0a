-- Steps of a search, one after another.
use Rattle.std.proofs.Common.{◌≡◌, ℕ, Bool, true, false, List, ◌++◌, length, take, drop, slice_index, sym, ap, subst, ◌∙◌, arith}
use Rattle.std.proofs.lemmas.Bool.{false≢true}
use Rattle.std.specs.Prelude.{All, Contains}
use Rattle.std.specs.Vec.{with_items}
use Rattle.std.proofs.lemmas.List.{take-append-drop, take-take, with_items_is}
use Rattle.std.proofs.lemmas.List.Elements.{All-append, All-contains}
use Rattle.cca_base.specs.Sets.{has}
use Rattle.cca_base.specs.declared.cube.Pair.{Pair}
use Rattle.clash_analysis.specs.Trails.{AllWithin, AreEntries, left_by}
use Rattle.clash_analysis.specs.Laws.{Passes}
use Rattle.clash_analysis.proofs.TrailLaws.{entries_back, left_both}
use Rattle.clash_analysis.proofs.UndoLaws.{left_within}
use Rattle.world_search.specs.declared.store.Slot.{Slot}
use Rattle.world_search.specs.declared.words.WordClause.{WordClause}
use Rattle.world_search.specs.declared.work.Work.{Work}
use Rattle.world_search.specs.Choices.{IsFoundFalse, IsStep}
use Rattle.world_search.specs.Followed.{IsFollowed}
use Rattle.world_search.specs.declared.store.Store.{Store}
use Rattle.world_search.specs.declared.store.Note.{Note}
use Rattle.world_search.specs.Stores.{AreKept, IsStore, AreSlotsMetIn, IsSlot, KeepsClauses}
use Rattle.world_search.specs.Asked.{AreAllMetIn}
use Rattle.world_search.specs.Words.{AreMetIn, IsClauseInside, IsMetIn}
use Rattle.world_search.specs.Works.{IsClashed, IsReady, IsRight, KeepsBelow, StandsAbove}
use Rattle.world_search.proofs.WorkLaws.{moved_below, moved_weight}

pub below_then : (one two three : Work) → KeepsBelow one two → KeepsBelow two three → KeepsBelow one three
below_then one two three a b n stands = let x = a n stands in let y = b n x.0 in (y.0, y.1 ∙ x.1)

module _ (holds : (List ℕ → Bool) → Type 0) where
  pub followed_step : (old new : Work) (found : Bool) → IsReady old → IsFollowed holds old new found → IsStep holds old new
  followed_step old new found ready f = record {
    ready = f.ready;
    start = f.moved.longer.start;
    room = f.moved.longer.room;
    below = moved_below old new f.moved;
    weight = moved_weight old new ready f.ready f.moved;
    right = f.right;
  }

  -- a step by part of what holds after another
  pub step_then : (part : (List ℕ → Bool) → Type 0) → ((want : List ℕ → Bool) → holds want → part want) → (one two three : Work) → IsStep holds one two → IsStep part two three → IsStep holds one three
  step_then part of one two three a b = record {
    ready = b.ready;
    start = b.start ∙ a.start;
    room = b.room ∙ a.room;
    below = below_then one two three a.below b.below;
    weight = omega (arith, a.weight, b.weight);
    right = λ want pairs is t. b.right want pairs (of want is) (a.right want pairs is t);
  }

  -- what is learned of a false clause is a clash
  pub found_clash : (w : Work) (want : List ℕ → Bool) (pairs : List Pair) → IsReady w → IsFoundFalse holds w → holds want → AllWithin (Passes want) w.start.items → IsRight want pairs w → IsClashed want pairs w
  found_clash w want pairs ready found is all t =
      let what = found want is all in
      record {
        within = all;
        right = t;
        long = ready.shape.learn;
        learned = λ xs x. what.0 xs x.0;
        apart = what.1;
      }

-- no list passes
abbrev pub none : List ℕ → Bool
none xs = false

pub none_within : (sets : List ℕ) → AllWithin (Passes none) sets
none_within sets xs w v h = absurd (false≢true w)

pub none_met : (clauses : List WordClause) → AreMetIn clauses none
none_met clauses k d h xs w = absurd (false≢true w)

pub none_kept : (slots : List Slot) → AreSlotsMetIn slots none
none_kept slots k d h xs w = absurd (false≢true w)

pub none_looked_at : (clauses : List WordClause) (slots : List Slot) → AreAllMetIn clauses slots none
none_looked_at clauses slots = record { met = none_met clauses; learned = none_kept slots }

-- what is left is within what was left below all levels
pub within_before : (old new : Work) (pairs : List Pair) → IsRight none pairs old → IsRight none pairs new → new.start.items ≡ old.start.items → old.levels ≡ 0 → KeepsBelow old new
    → (v a : ℕ) → has (slice_index new.dom.items v) a ≡ true → has (slice_index old.dom.items v) a ≡ true
within_before old new pairs t u start zero below v a held =
    let stands : StandsAbove old.long old = record { room = omega arith; marks = λ k h. absurd (omega (arith, h, zero)) } in
    let kept = below old.long stands in
    let front = take old.long old.trail.items in
    let whole = take new.long new.trail.items in
    let back = drop old.long whole in
    let split : whole ≡ front ++ back = sym (take-append-drop old.long whole) ∙ ap (λ l. l ++ back) (take-take old.long new.long new.trail.items kept.0.room ∙ kept.1) in
    let leads : new.dom.items ≡ left_by (left_by old.start.items front) back =
    u.leads ∙ ap (λ s. left_by s whole) start ∙ ap (left_by old.start.items) split ∙ left_both (Passes none) pairs old.start.items front back in
    let entries = entries_back (Passes none) pairs old.start.items front back (subst (λ l. AreEntries (Passes none) pairs old.start.items l) split (subst (λ s. AreEntries (Passes none) pairs s whole) start u.entries)) in
    ap (λ d. has (slice_index d v) a) t.leads
    ∙ left_within (Passes none) pairs (left_by old.start.items front) back v a entries (ap (λ d. has (slice_index d v) a) (sym leads) ∙ held)

-- there are as many sets as there were
pub dom_same : (old new : Work) → IsReady old → IsReady new → new.start.items ≡ old.start.items → length new.dom.items ≡ length old.dom.items
dom_same old new a b start = b.shape.dom ∙ ap length start ∙ sym a.shape.dom

-- a clause of these, or of those beside
module _ (front back : List WordClause) (x : WordClause) (among : Contains (front ++ back) x) where
  pub one_inside : (n : ℕ) → All (IsClauseInside n) front → All (IsClauseInside n) back → IsClauseInside n x
  one_inside n some others = All-contains (IsClauseInside n) (front ++ back) x (All-append (IsClauseInside n) front back some others) among

  pub one_of : (slots : List Slot) (want : List ℕ → Bool) → AreAllMetIn (front ++ back) slots want → IsMetIn x.literals.items want
  one_of slots want is = All-contains (λ (c : WordClause). IsMetIn c.literals.items want) (front ++ back) x is.met among

-- other notes
pub store_noted : (n m : ℕ) (l : Store) (notes : List Note) → n ≡ m → length notes ≡ length l.notes.items → IsStore n l → IsStore m (record l { notes = with_items l.notes notes })
store_noted n m l notes same long ok = record {
  room = ok.room;
  slots = subst (λ k. All (IsSlot k) l.slots.items) same ok.slots;
  marks = ap length (with_items_is l.notes notes (long ∙ sym l.notes.ok.0)) ∙ long ∙ ok.marks;
  counts = ok.counts ∙ same;
}

-- the same clauses
module _ (old new : Store) (same : KeepsClauses old new) where
  pub kept_same : (want : List ℕ → Bool) → AreKept old want → AreKept new want
  kept_same want learned = rw (same.slots, same.kept) learned

  pub store_same : (n m : ℕ) → n ≡ m → IsStore n old → IsStore m new
  store_same n m is ok = record {
    room = rw (same.slots, same.kept) ok.room;
    slots = rw same.slots (subst (λ k. All (IsSlot k) old.slots.items) is ok.slots);
    marks = same.marks ∙ ok.marks ∙ sym (ap length same.slots);
    counts = same.counts ∙ ok.counts ∙ is;
  }
