-- What always holds of a search's buffers holds with one entry more.
use Rattle.std.proofs.Common.{◌≡◌, ◌≢◌, inl, inr, ℕ, ◌+◌, ◌*◌, ◌%◌, ◌^◌, ◌<◌, ◌≤◌, Bool, eqb, true, false, List, [], ◌∷◌, ◌++◌, length, take, set, slice_index, bit_and, sym, ap, subst, ◌∙◌, arith, get_or-set_same, get_or-set_other}
use Rattle.std.proofs.lemmas.List.{length-append, length-set, length-take-le, take-take, take_more_set, with_items_is}
use Rattle.std.specs.Vec.{with_items}
use Rattle.std.proofs.lemmas.Bool.{cases_eq}
use Rattle.std.proofs.lemmas.Nat.Bits.{bit_at-pow_other, bit_at-pow_same}
use Rattle.cca_base.specs.Sets.{has}
use Rattle.std.proofs.Math.Nat.{mod-eq_of_lt}
use Rattle.std.proofs.Math.Pow.{pow-lt}
use Rattle.clash_analysis.specs.Ends.{weight}
use Rattle.clash_analysis.proofs.EndLaws.{marks_few, weight_later, weight_level}
use Rattle.cca_base.specs.declared.cube.Pair.{Pair}
use Rattle.cca_base.specs.declared.limits.TheConstants.{MAX_CHOICES}
use Rattle.clash_analysis.specs.declared.entry.Entry.{Entry}
use Rattle.clash_analysis.specs.declared.entry.Why.{Why}
use Rattle.clash_analysis.specs.Trails.{IsWhy}
use Rattle.clash_analysis.specs.Levels.{AreLevels}
use Rattle.clash_analysis.specs.Ends.{AreSets}
use Rattle.clash_analysis.specs.Laws.{Passes}
use Rattle.world_search.specs.declared.work.Work.{Work}
use Rattle.world_search.specs.Works.{HasMore, KeepsBelow, StandsAbove, weight_of, IsMoved, IsPut, IsReady, IsRight, IsRoomy, IsShaped, ShareSome}
use Rattle.world_search.proofs.PutLaws.{entry_of, inside_put, right_after, room_after, room_for, sets_after}

module _ (old new : Work) (u kept : ℕ) (why : Why) (ready : IsReady old) (inside : u < length old.dom.items) (some : ShareSome (slice_index old.dom.items u) kept) (more : HasMore (slice_index old.dom.items u) kept) where
  pub room_here : old.long < length old.trail.items
  room_here = room_for old.dom.items u kept inside some more ready.sets old.long (length old.trail.items) ready.room

  module _ (put : IsPut old u kept why new) where
    abbrev pub e : Entry
    e = entry_of old.dom.items u kept why

    pub shape_put : length new.marks.items ≡ length old.marks.items → IsShaped new
    shape_put same = record {
      dom = ap length put.dom ∙ length-set old.dom.items u (bit_and (slice_index old.dom.items u) kept) ∙ ready.shape.dom ∙ sym (ap length put.start);
      learn = ap length put.learn ∙ ready.shape.learn ∙ sym (ap length put.start);
      small = rw put.start ready.shape.small;
      marks = same ∙ ready.shape.marks ∙ sym (ap length put.trail ∙ length-set old.trail.items old.long e);
      short = rw (put.trail, length-set old.trail.items old.long e) ready.shape.short;
    }

    pub roomy_put : IsRoomy new
    roomy_put = record {
      sets = subst (AreSets MAX_CHOICES) (sym put.start) ready.roomy.sets;
      room = rw (put.start, put.trail, length-set old.trail.items old.long e) ready.roomy.room;
    }

    pub ready_put : length new.marks.items ≡ length old.marks.items → AreLevels new.marks.items new.levels (set old.trail.items old.long e) (old.long + 1) → IsReady new
    ready_put same stands = record {
      shape = shape_put same;
      roomy = roomy_put;
      sets = subst (AreSets MAX_CHOICES) (sym put.dom) (sets_after old.dom.items u kept inside some more ready.sets);
      room = rw (put.long, put.dom, put.trail, length-set old.trail.items old.long e) (room_after old.dom.items u kept inside some more ready.sets old.long (length old.trail.items) ready.room);
      levels = rw (put.long, put.trail) stands;
      inside = rw (put.long, put.dom, put.trail, length-set old.dom.items u (bit_and (slice_index old.dom.items u) kept)) (inside_put (length old.dom.items) old.trail.items old.long e room_here inside ready.inside);
    }

    pub right_put : (want : List ℕ → Bool) (pairs : List Pair) → IsWhy (Passes want) pairs old.dom.items u kept why → IsRight want pairs old → IsRight want pairs new
    right_put want pairs is t = rw (put.start, put.long, put.dom, put.trail) (right_after old.dom.items u kept inside some more (Passes want) pairs old.start.items old.trail.items old.long why room_here is t)

-- ---- a value that is tried

one_bit : (w n : ℕ) → n < w → 1 * 2 ^ n % 2 ^ w ≡ 2 ^ n
one_bit w n h = let small : 2 ^ n < 2 ^ w = pow-lt h in let one : 1 * 2 ^ n ≡ 2 ^ n = omega arith in rw one (mod-eq_of_lt small)

pub one_has : (value : ℕ) → value < 64 → has (1 * 2 ^ value % 2 ^ 64) value ≡ true
one_has value h = ap (λ s. has s value) (one_bit 64 value h) ∙ ap (λ b. eqb b 1) (bit_at-pow_same value)

pub one_none : (value a : ℕ) → value < 64 → a ≢ value → has (1 * 2 ^ value % 2 ^ 64) a ≡ false
one_none value a h other = ap (λ s. has s a) (one_bit 64 value h) ∙ ap (λ b. eqb b 1) (bit_at-pow_other value a other)

-- there are as many marks as there is room
pub mark_room : (old : Work) → IsReady old → old.long < length old.trail.items → old.levels < length old.marks.items
mark_room old ready room = omega (arith, ready.shape.marks, marks_few old.marks.items old.levels old.long ready.levels.rising ready.levels.below)

-- a level more weighs less
pub weight_tried : (room : ℕ) (marks : List ℕ) (levels long : ℕ) → levels < length marks → length marks ≡ room
    → weight room (room + 1) (take (levels + 1) (set marks levels long) ++ (long + 1) ∷ []) < weight room (room + 1) (take levels marks ++ long ∷ [])
weight_tried room marks levels long few same =
    rw (take_more_set marks levels long few) (weight_level room (room + 1) (take levels marks ++ long ∷ []) [] (long + 1) (omega (arith, length-append (take levels marks) (long ∷ []), length-take-le levels marks (omega arith))))

-- ---- another clause is learned

abbrev pub relearned : Work → List ℕ → Work
relearned old ws = record old { learn = with_items old.learn ws }

module _ (old : Work) (ws : List ℕ) (long : length ws ≡ length old.learn.items) where
  pub learn_is : (with_items old.learn ws).items ≡ ws
  learn_is = with_items_is old.learn ws (long ∙ sym old.learn.ok.0)

  pub ready_learn : IsReady old → IsReady (relearned old ws)
  ready_learn ready = record {
    shape = record {
      dom = ready.shape.dom;
      learn = ap length learn_is ∙ long ∙ ready.shape.learn;
      small = ready.shape.small;
      marks = ready.shape.marks;
      short = ready.shape.short;
    };
    roomy = record { sets = ready.roomy.sets; room = ready.roomy.room };
    sets = ready.sets;
    room = ready.room;
    levels = ready.levels;
    inside = ready.inside;
  }

-- nothing has moved
pub moved_not : (old new : Work) → new.start.items ≡ old.start.items → new.long ≡ old.long → new.trail.items ≡ old.trail.items → new.marks.items ≡ old.marks.items → new.levels ≡ old.levels → IsMoved old new
moved_not old new start long trail marks levels = record {
  levels = record { marks = marks; levels = levels };
  longer = record { start = start; longer = omega (arith, long); room = ap length trail; kept = ap (take old.long) trail };
}

-- what stands below all levels stays where entries come on the same levels
pub moved_below : (old new : Work) → IsMoved old new → KeepsBelow old new
moved_below old new moved n stands = (
  record {
    room = omega (arith, stands.room, moved.longer.longer);
    marks = λ k h. subst (λ ms. n ≤ slice_index ms k) (sym moved.levels.marks) (stands.marks k (subst (λ m. k < m) moved.levels.levels h));
  },
  sym (take-take n old.long new.trail.items stands.room) ∙ ap (take n) moved.longer.kept ∙ take-take n old.long old.trail.items stands.room,
)

-- and weighs no more
pub moved_weight : (old new : Work) → IsReady old → IsReady new → IsMoved old new → weight_of new ≤ weight_of old
moved_weight old new ready ready_new moved =
    let T = length old.trail.items in
    let front = take old.levels old.marks.items in
    let few : length front < T + 1 = omega (arith, length-take-le old.levels old.marks.items ready.levels.marks_room, marks_few old.marks.items old.levels old.long ready.levels.rising ready.levels.below, ready.levels.trail_room) in
    let high : new.long ≤ T = subst (λ m. new.long ≤ m) moved.longer.room ready_new.levels.trail_room in
    let same : weight_of new ≡ weight T (T + 1) (front ++ new.long ∷ []) =
    ap (λ m. weight m (m + 1) (take new.levels new.marks.items ++ new.long ∷ [])) moved.longer.room
    ∙ ap (λ l. weight T (T + 1) (take new.levels l ++ new.long ∷ [])) moved.levels.marks
    ∙ ap (λ k. weight T (T + 1) (take k old.marks.items ++ new.long ∷ [])) moved.levels.levels in
    elim (cases_eq old.long new.long) [
      | inl equal ↦ let at : weight T (T + 1) (front ++ new.long ∷ []) ≡ weight_of old = ap (λ m. weight T (T + 1) (front ++ m ∷ [])) (sym equal) in omega (arith, same, at)
      | inr other ↦ omega (arith, same, weight_later T (T + 1) front [] [] old.long new.long (omega (arith, other, moved.longer.longer)) high few)
    ]

-- a new mark stands above all that stood below the levels
pub marks_tried : (n : ℕ) (old : Work) → old.levels < length old.marks.items → StandsAbove n old → (k : ℕ) → k < old.levels + 1 → n ≤ slice_index (set old.marks.items old.levels old.long) k
marks_tried n old few stands k h = elim (cases_eq k old.levels) [
  | inl same ↦ let at : slice_index (set old.marks.items old.levels old.long) k ≡ old.long = ap (slice_index (set old.marks.items old.levels old.long)) same ∙ get_or-set_same old.marks.items old.levels old.long 0 few in omega (arith, at, stands.room)
  | inr other ↦ let at : slice_index (set old.marks.items old.levels old.long) k ≡ slice_index old.marks.items k = get_or-set_other old.marks.items old.levels k old.long 0 other in omega (arith, at, stands.marks k (omega arith))
]
