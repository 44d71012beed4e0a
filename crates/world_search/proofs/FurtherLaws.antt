-- What holds of a search's buffers once a clause is learned on a lower level.
use Rattle.std.proofs.Common.{◌≡◌, ℕ, ◌+◌, ◌<◌, ◌≤◌, Bool, true, false, List, length, take, slice_index, slice_index_or, refl, sym, ap, subst, ◌∙◌, arith}
use Rattle.std.proofs.lemmas.Bool.{both_ways}
use Rattle.std.proofs.lemmas.List.{get_or_read, length-take-le, take-take, with_items_is}
use Rattle.std.specs.Vec.{with_items}
use Rattle.cca_base.specs.declared.cube.Pair.{Pair}
use Rattle.cca_base.specs.declared.limits.TheConstants.{MAX_CHOICES}
use Rattle.clash_analysis.specs.declared.entry.Entry.{Entry}
use Rattle.clash_analysis.specs.Trails.{IsTrail, left_by}
use Rattle.clash_analysis.specs.Clashes.{AreInside, IsClash}
use Rattle.clash_analysis.specs.Levels.{AreLevels}
use Rattle.clash_analysis.specs.Ends.{AreSets, count_all}
use Rattle.clash_analysis.specs.Laws.{Passes}
use Rattle.clash_analysis.proofs.EndLaws.{marks_few, weight_learned}
use Rattle.clash_analysis.proofs.RoomLaws.{sets_left, taken}
use Rattle.world_search.specs.declared.work.Work.{Work}
use Rattle.world_search.specs.Works.{IsClashed, IsFurther, IsReady, IsRight, IsRoomy, IsShaped, KeepsBelow, weight_of}

-- with more subjects to blame it is a clash too
pub clash_more : (want : List ℕ → Bool) (pairs : List Pair) (start : List ℕ) (trail : List Entry) (dom learn : List ℕ) (blamed more : ℕ → Bool) → ((v : ℕ) → blamed v ≡ true → more v ≡ true)
    → IsClash want pairs start trail dom blamed learn → IsClash want pairs start trail dom more learn
clash_more want pairs start trail dom learn blamed more grows clash = record {
  within = clash.within;
  right = clash.right;
  long = clash.long;
  learned = λ xs w. clash.learned xs (w.0, λ p among is. w.1 p among (grows p.item is));
  apart = clash.apart;
}

-- a search's clash is one with some blamed too
pub clash_on : (w : Work) (want : List ℕ → Bool) (pairs : List Pair) (more : ℕ → Bool) → IsClashed want pairs w → IsClash want pairs w.start.items (take w.long w.trail.items) w.dom.items more w.learn.items
clash_on w want pairs more clashed = clash_more want pairs w.start.items (take w.long w.trail.items) w.dom.items w.learn.items (λ _. false) more (λ v is. absurd (both_ways false refl is)) clashed

-- what a trail leaves has values, and the room for all others is on it
module _ (w : Work) (want : List ℕ → Bool) (pairs : List Pair) (roomy : IsRoomy w) (t : IsRight want pairs w) where
  pub sets_of : AreSets MAX_CHOICES w.dom.items
  sets_of = subst (AreSets MAX_CHOICES) (sym t.leads) (sets_left (Passes want) pairs MAX_CHOICES w.start.items (take w.long w.trail.items) roomy.sets t.entries)

  pub room_of : length w.dom.items ≡ length w.start.items → w.long ≤ length w.trail.items → w.long + count_all MAX_CHOICES w.dom.items ≤ length w.trail.items + length w.dom.items
  room_of same h =
      let all = taken (Passes want) pairs MAX_CHOICES w.start.items (take w.long w.trail.items) roomy.sets t.entries in
      let left : count_all MAX_CHOICES w.dom.items ≡ count_all MAX_CHOICES (left_by w.start.items (take w.long w.trail.items)) = ap (count_all MAX_CHOICES) t.leads in
      omega (arith, all, left, length-take-le w.long w.trail.items h, roomy.room, same)

module _ (old new : Work) (ready : IsReady old) (further : IsFurther old new) where
  pub further_weight : length new.trail.items ≡ length old.trail.items → weight_of new < weight_of old
  further_weight same =
      let T = length old.trail.items in
      let few : old.levels ≤ T = omega (arith, marks_few old.marks.items old.levels old.long ready.levels.rising ready.levels.below, ready.levels.trail_room) in
      let low : slice_index old.marks.items new.levels < T = omega (arith, ready.levels.below new.levels further.fewer, ready.levels.trail_room) in
      rw (same, further.marks, further.long) (weight_learned T old.marks.items old.levels new.levels old.long further.fewer ready.levels.marks_room few low)

  pub further_below : KeepsBelow old new
  further_below n stands =
      let low : n ≤ slice_index old.marks.items new.levels = stands.marks new.levels further.fewer in (
        record {
          room = omega (arith, low, further.long);
          marks = λ k h. rw further.marks (stands.marks k (omega (arith, further.fewer)));
        },
        sym (take-take n (slice_index old.marks.items new.levels) new.trail.items low) ∙ ap (take n) further.kept ∙ take-take n (slice_index old.marks.items new.levels) old.trail.items low,
      )

  pub further_ready : (want : List ℕ → Bool) (pairs : List Pair) → new.start.items ≡ old.start.items → length new.dom.items ≡ length old.dom.items → length new.learn.items ≡ length old.learn.items → length new.trail.items ≡ length old.trail.items
      → IsRight want pairs new → AreLevels new.marks.items new.levels new.trail.items new.long → AreInside (length new.dom.items) (take new.long new.trail.items) → IsReady new
  further_ready want pairs start dom learn trail t stands inside =
      let shape : IsShaped new = record {
        dom = dom ∙ ready.shape.dom ∙ sym (ap length start);
        learn = learn ∙ ready.shape.learn ∙ sym (ap length start);
        small = subst (λ l. length l ≤ 512) (sym start) ready.shape.small;
        marks = ap length further.marks ∙ ready.shape.marks ∙ sym trail;
        short = subst (λ n. n ≤ 65535) (sym trail) ready.shape.short;
      } in
      let roomy : IsRoomy new = record {
        sets = subst (AreSets MAX_CHOICES) (sym start) ready.roomy.sets;
        room = rw (start, trail) ready.roomy.room;
      } in
      record {
        shape = shape;
        roomy = roomy;
        sets = sets_of new want pairs roomy t;
        room = room_of new want pairs roomy t shape.dom stands.trail_room;
        levels = stands;
        inside = inside;
      }

-- the buffers after an analysis whose learned sets are cleared
abbrev pub analysed : Work → List ℕ → List ℕ → List ℕ → List Entry → ℕ → ℕ → Work
analysed old d l n t level mark = record old { dom = with_items old.dom d; learn = with_items (with_items old.learn l) n; trail = with_items old.trail t; long = mark + 1; levels = level; head = mark }

-- the learned sets, before they are cleared
pub learn_is : (old : Work) (l : List ℕ) → length l ≡ length old.learn.items → (with_items old.learn l).items ≡ l
learn_is old l learn = with_items_is old.learn l (learn ∙ sym old.learn.ok.0)

-- a level's mark is read
pub mark_at : (old : Work) (level mark : ℕ) → IsReady old → level < old.levels → mark ≡ slice_index_or old.marks.items level mark → mark ≡ slice_index old.marks.items level
mark_at old level mark ready less read = get_or_read old.marks.items level mark (omega (arith, less, ready.levels.marks_room)) read 0

-- the search is ready on a lower level, below which all stays
pub record IsLowered (old new : Work) : Type 0 where
  pub ready : IsReady new
  pub below : KeepsBelow old new
  pub weight : weight_of new < weight_of old

module _ (old : Work) (d l n : List ℕ) (t : List Entry) (level mark : ℕ) (ready : IsReady old) (less : level < old.levels) (read : mark ≡ slice_index_or old.marks.items level mark)
    (dom : length d ≡ length old.dom.items) (trail : length t ≡ length old.trail.items) where
  pub dom_is : (with_items old.dom d).items ≡ d
  dom_is = with_items_is old.dom d (dom ∙ sym old.dom.ok.0)

  pub trail_is : (with_items old.trail t).items ≡ t
  trail_is = with_items_is old.trail t (trail ∙ sym old.trail.ok.0)

  pub right_again : (want : List ℕ → Bool) (pairs : List Pair) → IsTrail (Passes want) pairs old.start.items (take (slice_index old.marks.items level + 1) t) d → IsRight want pairs (analysed old d l n t level mark)
  right_again want pairs right = rw (dom_is, trail_is, mark_at old level mark ready less read) right

  pub lowered : length l ≡ length old.learn.items → length n ≡ length (with_items old.learn l).items → take (slice_index old.marks.items level) t ≡ take (slice_index old.marks.items level) old.trail.items
      → AreLevels old.marks.items level t (slice_index old.marks.items level + 1) → AreInside (length old.dom.items) (take (slice_index old.marks.items level + 1) t)
      → (want : List ℕ → Bool) (pairs : List Pair) → IsTrail (Passes want) pairs old.start.items (take (slice_index old.marks.items level + 1) t) d
      → IsLowered old (analysed old d l n t level mark)
  lowered learn none kept stands inside want pairs right =
      let new = analysed old d l n t level mark in
      let at : mark ≡ slice_index old.marks.items level = mark_at old level mark ready less read in
      let learned : length n ≡ length old.learn.items = none ∙ ap length (learn_is old l learn) ∙ learn in
      let empty : new.learn.items ≡ n = with_items_is (with_items old.learn l) n (learned ∙ sym old.learn.ok.0) in
      let same : length new.trail.items ≡ length old.trail.items = ap length trail_is ∙ trail in
      let further : IsFurther old new = record {
        marks = refl;
        fewer = less;
        long = ap (λ k. k + 1) at;
        kept = ap (take (slice_index old.marks.items level)) trail_is ∙ kept;
      } in
      record {
        ready =
            further_ready old new ready further want pairs refl (ap length dom_is ∙ dom) (ap length empty ∙ learned) same
            (right_again want pairs right) (rw (trail_is, at) stands) (rw (dom_is, trail_is, at, dom) inside);
        below = further_below old new ready further;
        weight = further_weight old new ready further same;
      }
