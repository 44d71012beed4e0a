use Rattle.std.proofs.Common.{◌≡◌, ◌<◌, ◌-◌, ◌∙◌, ℕ, List, Some, slice_get, length, sym, ap, subst, arith, length-append, ◌++◌, ◌∷◌, [], inr}
use Rattle.std.specs.Cmp.Lexicographic.{same_text}
use Rattle.std.proofs.lemmas.Option.{same_Some}
use Rattle.reversibility.specs.Levels.{Edges, MoveLeads, AreLevels, IsLevel, IsExpanded, AreMovesWithin}
use Rattle.reversibility.proofs.Near.{levels_more, move_within}
use Rattle.reversibility.proofs.level.write_levels.Goals as goal

pub expand-requires-clause-within : goal.expand-requires-clause-within
expand-requires-clause-within c =
    let level : IsLevel (MoveLeads c.args.model.now c.args.numbers.now (length c.args.numbers.now)) c.args.modes c.loop-k.k c.get-level.result.now = c.loop-k.invariant.levels c.loop-k.k c.get-level.result.now c.get-level.ensures.value in
    subst (λ n. AreMovesWithin c.args.model.now n c.args.numbers.now) (sym level.full) c.requires.within

pub returns-then-eq-clause-enough : goal.returns-then-eq-clause-enough
returns-then-eq-clause-enough c =
    let edge : Edges = MoveLeads c.args.model.now c.args.numbers.now (length c.args.numbers.now) in
    let level : List ℕ = c.get-level.result.now in
    let equal : c.as_slice-in-loop-k.result.now ≡ level = same_text c.as_slice-in-loop-k.result.now level (sym c.if-eq.true ∙ c.eq.ensures) in
    let same : c.expand.new.next.items ≡ level = sym c.as_slice-in-loop-k.ensures.items ∙ equal in
    let here : length c.loop-k.levels.rows - 1 ≡ c.loop-k.k = omega (arith, c.loop-k.invariant.count) in
    inr (λ last at. (let is_last : level ≡ last = same_Some level last (sym c.get-level.ensures.value ∙ subst (λ k. slice_get c.loop-k.levels.rows k ≡ Some last) here at) in
    subst (λ l. IsExpanded edge l l) is_last (subst (IsExpanded edge level) same c.expand.ensures.expanded)))

pub loop-k-preserved : goal.loop-k-preserved
loop-k-preserved c =
    let edge : Edges = MoveLeads c.args.model.now c.args.numbers.now (length c.args.numbers.now) in
    let level : IsLevel edge c.args.modes c.loop-k.k c.get-level.result.now = c.loop-k.invariant.levels c.loop-k.k c.get-level.result.now c.get-level.ensures.value in
    let pushed = c.push-in-loop-k.ensures.rows ∙ ap (λ l. c.loop-k.levels.rows ++ l ∷ []) c.as_slice-in-loop-k-2.ensures.items in
    let stay : (a x : ℕ) → edge a x → x < c.args.modes =
    λ a x h. (let moved : (h.move.source < c.args.modes) × (h.move.target < c.args.modes) = move_within c.args.model.now c.args.modes c.args.numbers.now c.requires.within h.place h.below h.move h.move_at in
    subst (λ z. z < c.args.modes) h.target moved.1) in record {
      levels = subst (AreLevels edge c.args.modes) (sym pushed)
          (levels_more edge c.args.modes stay c.loop-k.levels.rows c.loop-k.k c.get-level.result.now c.expand.new.next.items c.loop-k.invariant.levels c.loop-k.invariant.count c.get-level.ensures.value c.expand.ensures.expanded);
      count = omega (arith, ap length pushed, length-append c.loop-k.levels.rows (c.expand.new.next.items ∷ []), c.loop-k.invariant.count);
      used = omega (arith, c.push-in-loop-k.ensures.used, c.loop-k.invariant.used, ap length c.as_slice-in-loop-k-2.ensures.items, c.expand.ensures.expanded.full, level.full);
      next = c.expand.ensures.room ∙ c.loop-k.invariant.next;
      room = c.push-in-loop-k.ensures.room ∙ c.loop-k.invariant.room;
      most = c.push-in-loop-k.ensures.most ∙ c.loop-k.invariant.most;
    }
