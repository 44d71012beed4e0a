-- Trails that grow and shrink at their end.
use Rattle.std.proofs.Common.{◌≡◌, ℕ, List, [], ◌∷◌, ◌++◌, set, slice_index, bit_and, refl, sym, ap, subst, ◌∙◌}
use Rattle.std.proofs.lemmas.List.{set-set, set-get_or}
use Rattle.cca_base.specs.declared.cube.Pair.{Pair}
use Rattle.clash_analysis.specs.declared.entry.Entry.{Entry}
use Rattle.clash_analysis.specs.Trails.{AreEntries, IsEntry, IsTrail, left_by, narrowed, undone}

module _ (W : List ℕ → Type 0) (pairs : List Pair) where
  pub left_both : (start : List ℕ) (front back : List Entry) → left_by start (front ++ back) ≡ left_by (left_by start front) back
  left_both start [] back = refl
  left_both start (e ∷ front) back = left_both (narrowed start e) front back

  pub entries_front : (start : List ℕ) (front back : List Entry) → AreEntries W pairs start (front ++ back) → AreEntries W pairs start front
  entries_front start [] back right = tt
  entries_front start (e ∷ front) back right = (right.0, entries_front (narrowed start e) front back right.1)

  pub entries_back : (start : List ℕ) (front back : List Entry) → AreEntries W pairs start (front ++ back) → AreEntries W pairs (left_by start front) back
  entries_back start [] back right = right
  entries_back start (e ∷ front) back right = entries_back (narrowed start e) front back right.1

  pub entries_both : (start : List ℕ) (front back : List Entry) → AreEntries W pairs start front → AreEntries W pairs (left_by start front) back → AreEntries W pairs start (front ++ back)
  entries_both start [] back right more = more
  entries_both start (e ∷ front) back right more = (right.0, entries_both (narrowed start e) front back right.1 more)

  -- what was taken is put back
  pub back_again : (dom : List ℕ) (e : Entry) → e.before ≡ slice_index dom e.subject → undone (narrowed dom e) e ≡ dom
  back_again dom e was = set-set dom e.subject (bit_and e.before e.kept) e.before ∙ ap (set dom e.subject) was ∙ set-get_or dom e.subject 0

  pub pushed : (start dom : List ℕ) (trail : List Entry) (e : Entry) → IsTrail W pairs start trail dom → IsEntry W pairs dom e → IsTrail W pairs start (trail ++ e ∷ []) (narrowed dom e)
  pushed start dom trail e t right = record {
    entries = entries_both start trail (e ∷ []) t.entries (subst (λ d. IsEntry W pairs d e) t.leads right, tt);
    leads = ap (λ d. narrowed d e) t.leads ∙ sym (left_both start trail (e ∷ []));
  }

  pub popped : (start dom : List ℕ) (trail : List Entry) (e : Entry) → IsTrail W pairs start (trail ++ e ∷ []) dom
      → IsTrail W pairs start trail (undone dom e) × IsEntry W pairs (undone dom e) e × (dom ≡ narrowed (undone dom e) e)
  popped start dom trail e t =
      let last = entries_back start trail (e ∷ []) t.entries in
      let was : undone dom e ≡ left_by start trail = ap (λ d. undone d e) (t.leads ∙ left_both start trail (e ∷ [])) ∙ back_again (left_by start trail) e last.0.before in (
        record { entries = entries_front start trail (e ∷ []) t.entries; leads = was },
        subst (λ d. IsEntry W pairs d e) (sym was) last.0,
        t.leads ∙ left_both start trail (e ∷ []) ∙ ap (λ d. narrowed d e) (sym was),
      )
