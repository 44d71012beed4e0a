use Rattle.std.proofs.Common.{◌≡◌, ◌∙◌, ℕ, List, Bool, Option, true, false, length, ap, sym, subst, length-set, replicate, MatchOption, Some, None}
use Rattle.std.proofs.lemmas.List.{length-replicate}
use Rattle.cca_base.proofs.FlagLaws.{none_set}
use Rattle.clause_form.specs.Clauses.{AllBelow}
use Rattle.elimination.specs.Projection.{AreAllDone, IsLeft, IsProjectedSoFar}
use Rattle.elimination.proofs.Projecting.{none_projected, one_more, above_still, gone_still, all_below}
use Rattle.elimination.proofs.projection.project_each.Goals as goal

is_left : (c : goal.After-marks-in-Some-2-1) → IsLeft c.args.clauses.now.sizes c.args.keep c.subjects.marks.items c.from.result
is_left c =
    let sizes = c.args.clauses.now.sizes in
    let keep = c.args.keep in
    let of_some : (o : Option ℕ) (x : ℕ) → o ≡ Some x → MatchOption o (AreAllDone keep c.deref-in-subjects.result.now c.deref.result.now) (IsLeft sizes keep c.deref-in-subjects.result.now) → IsLeft sizes keep c.deref-in-subjects.result.now x =
    λ o x is h. subst (λ z. MatchOption z (AreAllDone keep c.deref-in-subjects.result.now c.deref.result.now) (IsLeft sizes keep c.deref-in-subjects.result.now)) is h in
    subst (λ z. IsLeft sizes keep c.subjects.marks.items z) (sym c.from.ensures)
    (subst (λ (z : List Bool). IsLeft sizes keep z c.in-Some.subject) c.deref-in-subjects.ensures.value (of_some c.in_ok-subject.field-0 c.in-Some.subject c.in-Some.is c.in_ok-subject.ensures))

pub subjects-init : goal.subjects-init
subjects-init c =
    let n = length c.args.clauses.now.sizes in
    let made : c.in_ok-marks.marks.items ≡ replicate n false = c.in_ok-marks.ensures ∙ ap (λ k. replicate k false) c.len.ensures in
    let given : c.in_ok-all.all.items ≡ c.args.clauses.now.clauses = c.in_ok-all.ensures ∙ c.as_slice.ensures in
    record {
      full = ap length made ∙ length-replicate n false;
      above = λ x h. absurd (none_set n x (rw made at h));
      gone = λ x h. absurd (none_set n x (rw made at h));
      exact = subst (IsProjectedSoFar c.args.clauses.now.sizes c.in_ok-marks.marks.items c.args.clauses.now.clauses) (sym given) (rw made (none_projected c.args.clauses.now.sizes n c.args.clauses.now.clauses));
      below = subst (AllBelow n) (sym given) c.requires;
    }

pub subjects-preserved : goal.subjects-preserved
subjects-preserved c =
    let sizes = c.args.clauses.now.sizes in
    let keep = c.args.keep in
    let x = c.from.result in
    let marks = c.subjects.marks.items in
    let left = c.subjects.left.items in
    let new = c.in_ok-left.left.items in
    let inv = c.subjects.invariant in
    let without = rw (sym c.from.ensures) at c.in_ok-left.ensures in
    record {
      full = length-set marks x true ∙ inv.full;
      above = above_still sizes keep x marks c.args.clauses.now.clauses left new inv.full (is_left c) inv.exact without.met inv.above;
      gone = gone_still sizes keep x marks c.args.clauses.now.clauses left new inv.full (is_left c) inv.exact without.met inv.gone without.names without.gone;
      exact = one_more sizes keep x marks c.args.clauses.now.clauses left new inv.full (is_left c) inv.exact without.met;
      below = without.below;
    }

pub returns : goal.returns
returns c =
    let none : (o : Option ℕ) → o ≡ None → MatchOption o (AreAllDone c.args.keep c.deref-in-subjects.result.now c.deref.result.now) (IsLeft c.args.clauses.now.sizes c.args.keep c.deref-in-subjects.result.now)
    → AreAllDone c.args.keep c.deref-in-subjects.result.now c.deref.result.now =
    λ o is h. subst (λ z. MatchOption z (AreAllDone c.args.keep c.deref-in-subjects.result.now c.deref.result.now) (IsLeft c.args.clauses.now.sizes c.args.keep c.deref-in-subjects.result.now)) is h in
    let done : AreAllDone c.args.keep c.subjects.marks.items c.subjects.left.items =
    rw (c.deref-in-subjects.ensures.value, c.deref.ensures.value) at (none c.in_ok-subject.field-0 c.in_default.is c.in_ok-subject.ensures) in
    record {
      marks = c.subjects.marks.items;
      above = c.subjects.invariant.above;
      exact = c.subjects.invariant.exact;
      below = all_below c.args.keep c.subjects.marks.items c.subjects.left.items done c.subjects.invariant.gone;
    }
