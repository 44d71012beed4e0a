-- The text of some lines grows by a line, or by the lines of an item.
use Rattle.std.proofs.Common.{◌≡◌, ℕ, ◌+◌, ◌<◌, ◌++◌, List, [], ◌∷◌, length, get_or, take, map, ap, sym, ◌∙◌, append_assoc}
use Rattle.std.proofs.lemmas.Grind.{flat_map-append}
use Rattle.std.proofs.lemmas.List.{flat_map_more, map_more}
use Rattle.trial_maker.specs.Documents.{ended, text_of}
use Rattle.trial_maker.specs.Draws.{Drawing, each}

-- behind the lines of the items so far comes that of the next one
pub line_more : {X : Type 0} (f : X → List ℕ) (before : List ℕ) (xs : List X) (i : ℕ) (d : X) → i < length xs → (before ++ text_of (map f (take i xs))) ++ ended (f (get_or xs i d)) ≡ before ++ text_of (map f (take (i + 1) xs))
line_more f before xs i d within = flat_map_more ended before (map f (take i xs)) (f (get_or xs i d)) ∙ ap (λ (lines : List (List ℕ)). before ++ text_of lines) (sym (map_more f xs i d within))

-- the text of four lines comes line by line
pub four_lines : (before a b c d : List ℕ) → (((before ++ ended a) ++ ended b) ++ ended c) ++ ended d ≡ before ++ text_of (a ∷ b ∷ c ∷ d ∷ [])
four_lines before a b c d = simp append_assoc

-- behind what was drawn for an item comes what is drawn for those behind it
pub drawn_more : {X : Type 0} (drawing : X → Drawing (List (List ℕ))) (before : List ℕ) (item : X) (items : List X) (x : ℕ)
    → (before ++ text_of (drawing item x).0) ++ text_of (each drawing items (drawing item x).1).0 ≡ before ++ text_of (each drawing (item ∷ items) x).0
drawn_more drawing before item items x =
    append_assoc before (text_of (drawing item x).0) (text_of (each drawing items (drawing item x).1).0)
    ∙ ap (λ (text : List ℕ). before ++ text) (sym (flat_map-append ended (drawing item x).0 (each drawing items (drawing item x).1).0))
