-- Each entry takes a value of a subject and leaves one, so a trail is no longer than the values are many.
use Rattle.std.proofs.Common.{◌≡◌, inl, inr, ℕ, suc, ◌+◌, ◌<◌, ◌≤◌, true, List, [], ◌∷◌, length, slice_index, bit_and, sym, ap, subst, ◌∙◌, arith, get_or-set_same, get_or-set_other}
use Rattle.std.proofs.lemmas.Bool.{and_from, and_parts, and_right, cases_eq}
use Rattle.std.proofs.lemmas.List.{length-set}
use Rattle.cca_base.specs.Sets.{has}
use Rattle.cca_base.proofs.SetLaws.{has-and}
use Rattle.cca_base.specs.declared.cube.Pair.{Pair}
use Rattle.clash_analysis.specs.declared.entry.Entry.{Entry}
use Rattle.clash_analysis.specs.Trails.{AreEntries, IsEntry, left_by, narrowed}
use Rattle.clash_analysis.specs.Ends.{AreSets, count_all, count_in}
use Rattle.clash_analysis.proofs.EndLaws.{count_less, count_set, count_some}
use Rattle.clash_analysis.proofs.UndoLaws.{left_long, narrowed_within}

pub length_below : (width : ℕ) (sets : List ℕ) → ((v : ℕ) → v < length sets → (a : ℕ) × (a < width) × (has (slice_index sets v) a ≡ true)) → length sets ≤ count_all width sets
length_below width [] some = omega arith
length_below width (s ∷ sets) some =
    let (a, small, is) = some 0 (omega arith) in
    omega (arith, count_some width s a small is, length_below width sets (λ v h. some (suc v) (omega arith)))

module _ (W : List ℕ → Type 0) (pairs : List Pair) (width : ℕ) where
  pub sets_narrowed : (dom : List ℕ) (e : Entry) → AreSets width dom → IsEntry W pairs dom e → AreSets width (narrowed dom e)
  sets_narrowed dom e are right = record {
    some = λ v h. elim (cases_eq v e.subject) [
      | inl same ↦ (
        right.left.0,
        ap (λ s. has s right.left.0) (ap (slice_index (narrowed dom e)) same ∙ get_or-set_same dom e.subject (bit_and e.before e.kept) 0 right.inside)
            ∙ has-and e.before e.kept right.left.0
            ∙ and_from _ _ right.left.1 right.left.2,
      )
      | inr other ↦
          let old = are.some v (subst (λ n. v < n) (length-set dom e.subject (bit_and e.before e.kept)) h) in
          (old.0, ap (λ s. has s old.0) (get_or-set_other dom e.subject v (bit_and e.before e.kept) 0 other) ∙ old.1)
    ];
    small = λ v a held. are.small v a (narrowed_within dom e v a right.inside right.before held);
  }

  pub sets_left : (start : List ℕ) (trail : List Entry) → AreSets width start → AreEntries W pairs start trail → AreSets width (left_by start trail)
  sets_left start [] are right = are
  sets_left start (e ∷ trail) are right = sets_left (narrowed start e) trail (sets_narrowed start e are right.0) right.1

  pub taken : (start : List ℕ) (trail : List Entry) → AreSets width start → AreEntries W pairs start trail → length trail + count_all width (left_by start trail) ≤ count_all width start
  taken start [] are right = omega arith
  taken start (e ∷ trail) are right =
      let here = right.0 in
      let held : has (slice_index start e.subject) here.less.0 ≡ true = ap (λ s. has s here.less.0) (sym here.before) ∙ here.less.1 in
      let fewer : count_in width (bit_and e.before e.kept) < count_in width e.before = count_less width (bit_and e.before e.kept) e.before here.less.0
      (λ a h. (and_parts _ _ (sym (has-and e.before e.kept a) ∙ h)).0)
      (are.small e.subject here.less.0 held) (has-and e.before e.kept here.less.0 ∙ and_right _ _ here.less.2) here.less.1 in
      let same : count_in width e.before ≡ count_in width (slice_index start e.subject) = ap (count_in width) here.before in
      omega (arith, fewer, same, count_set width start e.subject (bit_and e.before e.kept) here.inside, taken (narrowed start e) trail (sets_narrowed start e are here) right.1)

  -- there is an entry for each value of the subjects, but one of each, at most
  pub trail_fits : (start : List ℕ) (trail : List Entry) → AreSets width start → AreEntries W pairs start trail → length trail + length start ≤ count_all width start
  trail_fits start trail are right =
      let left = sets_left start trail are right in
      omega (
        arith,
        taken start trail are right,
        left_long W pairs start trail,
        length_below width (left_by start trail) (λ v h. let some = left.some v h in (some.0, left.small v some.0 some.1, some.1)),
      )
