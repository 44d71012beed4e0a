-- Rows of one list: how many there are, where each one lies, and one more behind them.
use Rattle.std.proofs.Common.{◌≡◌, ℕ, zero, suc, ◌-◌, ◌<◌, ◌≤◌, List, [], ◌∷◌, ◌++◌, length, take, drop, get_or, slice_get, slice_index, Some, refl, sym, ap, subst, ◌∙◌, arith, length-append, length-drop}
use Rattle.std.proofs.lemmas.List.{take-append-le, drop-append-le, take_all}
use Rattle.std.proofs.lemmas.Option.{get_or_from_slice_get, slice_get-get_or}
use Rattle.std.proofs.Math.Seq.{drop-append_seam}
use Rattle.bounded_list.specs.Rows.{AreEnds, rows_by}

pub AreEnds-within : (start : ℕ) (ends : List ℕ) (count : ℕ) → AreEnds start ends count → start ≤ count
AreEnds-within start [] count are = omega (arith, are)
AreEnds-within start (end ∷ ends) count are = omega (arith, are.0, AreEnds-within end ends count are.1)

-- where the row at a place starts and ends
pub AreEnds-at : (start : ℕ) (ends : List ℕ) (count at : ℕ) → AreEnds start ends count → at < length ends → (get_or (start ∷ ends) at 0 ≤ get_or ends at 0) × (get_or ends at 0 ≤ count)
AreEnds-at start [] count at are less = absurd (omega (arith, less))
AreEnds-at start (end ∷ ends) count zero are less = (are.0, AreEnds-within end ends count are.1)
AreEnds-at start (end ∷ ends) count (suc at) are less = AreEnds-at end ends count at are.1 (omega (arith, less))

pub AreEnds-push : (start : ℕ) (ends : List ℕ) (count more : ℕ) → AreEnds start ends count → count ≤ more → AreEnds start (ends ++ more ∷ []) more
AreEnds-push start [] count more are less = (omega (arith, are, less), refl)
AreEnds-push start (end ∷ ends) count more are less = (are.0, AreEnds-push end ends count more are.1 less)

module _ {X : Type 0} where
  pub rows_length : (start : ℕ) (ends : List ℕ) (items : List X) → length (rows_by start ends items) ≡ length ends
  rows_length start [] items = refl
  rows_length start (end ∷ ends) items = ap suc (rows_length end ends items)

  pub rows_within : (ends : List ℕ) (items : List X) (rows : List (List X)) (at : ℕ) → rows_by 0 ends items ≡ rows → at < length rows → at < length ends
  rows_within ends items rows at are less = let long = rows_length 0 ends items in let same = ap length are in omega (arith, long, same, less)

  pub rows_at : (start : ℕ) (ends : List ℕ) (items : List X) (at : ℕ) → at < length ends
      → get_or (rows_by start ends items) at [] ≡ take (get_or ends at 0 - get_or (start ∷ ends) at 0) (drop (get_or (start ∷ ends) at 0) items)
  rows_at start [] items at less = absurd (omega (arith, less))
  rows_at start (end ∷ ends) items zero less = refl
  rows_at start (end ∷ ends) items (suc at) less = rows_at end ends items at (omega (arith, less))

  -- the row at a place, by what a call was told of its start and its end
  pub span_here : (ends : List ℕ) (items seen : List X) (rows : List (List X)) (at start end : ℕ) → AreEnds 0 ends (length items) → rows_by 0 ends items ≡ rows → at < length rows
      → start ≡ slice_index (0 ∷ ends) at → slice_get ends at ≡ Some end → seen ≡ items → (start ≤ end) × (end ≤ length seen)
  span_here ends items seen rows at start end are same less starts ends_at all =
      let span = AreEnds-at 0 ends (length items) at are (rows_within ends items rows at same less) in
      let there = get_or_from_slice_get ends at end 0 ends_at in
      let long = ap length all in
      (omega (arith, span.0, starts, there), omega (arith, span.1, there, long))

  pub row_here : (ends : List ℕ) (items seen : List X) (rows : List (List X)) (at start end : ℕ) → rows_by 0 ends items ≡ rows → at < length rows
      → start ≡ slice_index (0 ∷ ends) at → slice_get ends at ≡ Some end → seen ≡ items → take (end - start) (drop start seen) ≡ get_or rows at []
  row_here ends items seen rows at start end same less starts ends_at all =
      let there = get_or_from_slice_get ends at end 0 ends_at in
      ap (λ l. take (end - start) (drop start l)) all ∙ ap (λ s. take (end - s) (drop s items)) starts ∙ ap (λ e. take (e - slice_index (0 ∷ ends) at) (drop (slice_index (0 ∷ ends) at) items)) (sym there)
      ∙ sym (rows_at 0 ends items at (rows_within ends items rows at same less)) ∙ ap (λ l. get_or l at []) same

  pub row_got : (ends : List ℕ) (items seen : List X) (rows : List (List X)) (at start end : ℕ) → rows_by 0 ends items ≡ rows → at < length rows
      → start ≡ slice_index (0 ∷ ends) at → slice_get ends at ≡ Some end → seen ≡ items → slice_get rows at ≡ Some (take (end - start) (drop start seen))
  row_got ends items seen rows at start end same less starts ends_at all = slice_get-get_or rows at [] less ∙ ap Some (sym (row_here ends items seen rows at start end same less starts ends_at all))

  -- a row keeps its items when more stand behind them all
  row_before : (start end : ℕ) (items row : List X) → start ≤ end → end ≤ length items → take (end - start) (drop start (items ++ row)) ≡ take (end - start) (drop start items)
  row_before start end items row rises within =
      ap (take (end - start)) (drop-append-le start items row (omega (arith, rises, within)))
      ∙ take-append-le (end - start) (drop start items) row (let long = length-drop start items in omega (arith, long, rises, within))

  row_behind : (start : ℕ) (items row : List X) → start ≡ length items → take (length (items ++ row) - start) (drop start (items ++ row)) ≡ row
  row_behind start items row at =
      let long = length-append items row in
      ap (λ n. take (length (items ++ row) - start) (drop n (items ++ row))) at ∙ ap (take (length (items ++ row) - start)) (drop-append_seam items row)
      ∙ take_all (length (items ++ row) - start) row (omega (arith, long, at))

  pub rows_by-push : (start : ℕ) (ends : List ℕ) (items row : List X) → AreEnds start ends (length items)
      → rows_by start (ends ++ length (items ++ row) ∷ []) (items ++ row) ≡ rows_by start ends items ++ row ∷ []
  rows_by-push start [] items row are = ap (λ r. r ∷ []) (row_behind start items row are)
  rows_by-push start (end ∷ ends) items row are =
      ap (λ r. r ∷ rows_by end (ends ++ length (items ++ row) ∷ []) (items ++ row)) (row_before start end items row are.0 (AreEnds-within end ends (length items) are.1))
      ∙ ap (λ rows. take (end - start) (drop start items) ∷ rows) (rows_by-push end ends items row are.1)

  -- the same, by what calls wrote
  pub pushed_ends : (ends new_ends : List ℕ) (items new_items row : List X) (end : ℕ) → AreEnds 0 ends (length items) → new_items ≡ items ++ row → end ≡ length new_items → new_ends ≡ ends ++ end ∷ []
      → AreEnds 0 new_ends (length new_items)
  pushed_ends ends new_ends items new_items row end are wrote at put =
      let long = ap length wrote ∙ length-append items row in
      subst (λ l. AreEnds 0 l (length new_items)) (sym (put ∙ ap (λ e. ends ++ e ∷ []) at)) (AreEnds-push 0 ends (length items) (length new_items) are (omega (arith, long)))

  pub pushed_rows : (ends new_ends : List ℕ) (items new_items row : List X) (end : ℕ) → AreEnds 0 ends (length items) → new_items ≡ items ++ row → end ≡ length new_items → new_ends ≡ ends ++ end ∷ []
      → rows_by 0 new_ends new_items ≡ rows_by 0 ends items ++ row ∷ []
  pushed_rows ends new_ends items new_items row end are wrote at put =
      ap (λ l. rows_by 0 l new_items) (put ∙ ap (λ e. ends ++ e ∷ []) at) ∙ ap (λ l. rows_by 0 (ends ++ length l ∷ []) l) wrote ∙ rows_by-push 0 ends items row are
