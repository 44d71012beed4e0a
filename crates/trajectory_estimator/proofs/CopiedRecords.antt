-- Records copied one by one.
use Rattle.std.proofs.Common.{◌≡◌, ◌<◌, ◌+◌, ◌++◌, ◌∷◌, [], ℕ, List, length, map, get_or, take, sym, ap, ◌∙◌, arith}
use Rattle.std.proofs.lemmas.List.{get_or-map, length-map, map-append, take_more}
use Rattle.trajectory_estimator.specs.Asked.{entry_of}
use Rattle.trajectory_estimator.specs.declared.record.Record.{Record}

-- one more copy
pub copied_further : (items kept : List Record) (i : ℕ) (x y : Record) → i < length items → map entry_of kept ≡ take i (map entry_of items) → entry_of y ≡ entry_of (get_or items i x)
    → map entry_of (kept ++ y ∷ []) ≡ take (i + 1) (map entry_of items)
copied_further items kept i x y within so_far copied =
    map-append entry_of kept (y ∷ []) ∙ ap (λ l. l ++ entry_of y ∷ []) so_far
    ∙ ap (λ e. take i (map entry_of items) ++ e ∷ []) (copied ∙ sym (get_or-map entry_of items i x (entry_of x) within))
    ∙ sym (take_more (map entry_of items) i (entry_of x) (omega (arith, within, length-map items entry_of)))
