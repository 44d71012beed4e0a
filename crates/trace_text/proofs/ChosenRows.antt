-- Choices are read from words with the rows of a model in their order.
use Rattle.std.proofs.Common.{◌≡◌, ◌≢◌, ◌<◌, ◌≤◌, ◌+◌, ℕ, zero, suc, List, [], ◌∷◌, ◌++◌, All, length, map, drop, slice_get, slice_index, Some, refl, sym, ap, ◌∙◌, subst, arith, add-one, append_assoc}
use Rattle.std.proofs.lemmas.List.{append_cancel_left, append-nil, drop_all}
use Rattle.std.proofs.lemmas.List.Elements.{All-head, All-tail}
use Rattle.cca_base.specs.Names.{AreNames}
use Rattle.model_syntax.proofs.PrintedLines.{name_there}
use Rattle.formula_syntax.specs.Lookups.{place_of}
use Rattle.trace_text.specs.Names.{Row, name_at, choice_text}
use Rattle.trace_text.specs.LineWords.{AreChosen, choice_words}

-- ---- different names at different places

pub name_at_injective : (names : List (List ℕ)) (j k : ℕ) → AreNames names → j < length names → k < length names → name_at names j ≡ name_at names k → j ≡ k
name_at_injective names j k h p q e =
    let one : place_of names (name_at names j) ≡ Some j = (name_there names j h p).found in
    let two : place_of names (name_at names k) ≡ Some k = (name_there names k h q).found in
    let same : place_of names (name_at names j) ≡ place_of names (name_at names k) = ap (place_of names) e in
    cc

choice_text_injective : (name : List ℕ) (choices : List (List ℕ)) (j k : ℕ) → AreNames choices → j < length choices → k < length choices → choice_text name choices j ≡ choice_text name choices k → j ≡ k
choice_text_injective name choices j k h p q e =
    let rest : 61 ∷ name_at choices j ≡ 61 ∷ name_at choices k = append_cancel_left name (61 ∷ name_at choices j) (61 ∷ name_at choices k) e in
    let same : name_at choices j ≡ name_at choices k = cc in
    name_at_injective choices j k h p q same

-- ---- choices of rows

pub choice_words_injective : (rows : List Row) (js ks : List ℕ) → All (λ row. AreNames row.choices) rows → AreChosen rows js → AreChosen rows ks → choice_words rows js ≡ choice_words rows ks → js ≡ ks
choice_words_injective [] [] [] h p q e = refl
choice_words_injective [] [] (k ∷ ks) h p q e = absurd q
choice_words_injective [] (j ∷ js) ks h p q e = absurd p
choice_words_injective (r ∷ rs) [] ks h p q e = absurd p
choice_words_injective (r ∷ rs) (j ∷ js) [] h p q e = absurd q
choice_words_injective (r ∷ rs) (j ∷ js) (k ∷ ks) h p q e =
    let first : choice_text r.name r.choices j ≡ choice_text r.name r.choices k = cc in
    let rest : choice_words rs js ≡ choice_words rs ks = cc in
    let tails : js ≡ ks = choice_words_injective rs js ks (All-tail (λ row. AreNames row.choices) r rs h) p.1 q.1 rest in
    let heads : j ≡ k = choice_text_injective r.name r.choices j k (All-head (λ row. AreNames row.choices) r rs h) p.0 q.0 first in
    cc

pub length-choice_words : (rows : List Row) (ks : List ℕ) → AreChosen rows ks → length (choice_words rows ks) ≡ length rows
length-choice_words [] [] h = refl
length-choice_words [] (k ∷ ks) h = absurd h
length-choice_words (r ∷ rs) [] h = absurd h
length-choice_words (r ∷ rs) (k ∷ ks) h = ap suc (length-choice_words rs ks h.1)

-- ---- a word that is no choice of its row

pub no_choices : (rows : List Row) (words : List (List ℕ)) (i : ℕ) (row : Row) (word : List ℕ) → slice_get rows i ≡ Some row → slice_get words i ≡ Some word
    → ((k : ℕ) → k < length row.choices → choice_text row.name row.choices k ≢ word) → (ks : List ℕ) → AreChosen rows ks → choice_words rows ks ≢ words
no_choices [] words i row word at there none ks h e = absurd cc
no_choices (r ∷ rs) words i row word at there none [] h e = absurd h
no_choices (r ∷ rs) [] i row word at there none (k ∷ ks) h e = absurd cc
no_choices (r ∷ rs) (w ∷ ws) zero row word at there none (k ∷ ks) h e =
    let is : r ≡ row = cc in
    let inside : k < length row.choices = subst (λ (x : Row). k < length x.choices) is h.0 in
    let text : choice_text r.name r.choices k ≡ word = cc in
    none k inside (ap (λ (x : Row). choice_text x.name x.choices k) (sym is) ∙ text)
no_choices (r ∷ rs) (w ∷ ws) (suc i) row word at there none (k ∷ ks) h e =
    let rest : choice_words rs ks ≡ ws = cc in no_choices rs ws i row word at there none ks h.1 rest

-- ---- choices read one by one

-- before these rows have been read: what is chosen for the others completes what is read
pub record AreReadTo (rows : List Row) (words : List (List ℕ)) (ks : List ℕ) (i : ℕ) : Type 0 where
  pub chosen : (rest : List ℕ) → AreChosen (drop i rows) rest → AreChosen rows (ks ++ rest)
  pub same : (rest : List ℕ) → choice_words (drop i rows) rest ≡ drop i words → choice_words rows (ks ++ rest) ≡ words

pub drop_next : {X : Type 0} (xs : List X) (i : ℕ) (x : X) → slice_get xs i ≡ Some x → drop i xs ≡ x ∷ drop (i + 1) xs
drop_next [] i x e = absurd cc
drop_next (y ∷ ys) zero x e = let is : y ≡ x = cc in ap (λ z. z ∷ ys) is
drop_next (y ∷ ys) (suc i) x e = drop_next ys i x e ∙ ap (λ n. x ∷ drop n ys) (add-one i) ∙ ap (λ n. x ∷ drop n (y ∷ ys)) (sym (add-one (suc i)))

pub reading_goes_on : (rows : List Row) (words : List (List ℕ)) (ks : List ℕ) (i k : ℕ) (row : Row) (word : List ℕ) → AreReadTo rows words ks i → slice_get rows i ≡ Some row
    → slice_get words i ≡ Some word → k < length row.choices → choice_text row.name row.choices k ≡ word → AreReadTo rows words (ks ++ k ∷ []) (i + 1)
reading_goes_on rows words ks i k row word read at there inside text =
    let left : drop i rows ≡ row ∷ drop (i + 1) rows = drop_next rows i row at in
    let behind : drop i words ≡ word ∷ drop (i + 1) words = drop_next words i word there in
    record {
      chosen = λ rest h. rw append_assoc (read.chosen (k ∷ rest) (rw left (inside, h)));
      same = λ rest e. rw append_assoc (read.same (k ∷ rest) (rw (left, behind) (let w : choice_text row.name row.choices k ≡ word = text in let t : choice_words (drop (i + 1) rows) rest ≡ drop (i + 1) words = e in cc)));
    }

pub reading_ends : (rows : List Row) (words : List (List ℕ)) (ks : List ℕ) (i : ℕ) → length rows ≤ i → length words ≤ i → AreReadTo rows words ks i
    → AreChosen rows ks × (choice_words rows ks ≡ words)
reading_ends rows words ks i p q read =
    let no_rows : drop i rows ≡ [] = drop_all i rows p in
    let no_words : drop i words ≡ [] = drop_all i words q in
    let chosen : AreChosen rows (ks ++ []) = read.chosen [] (rw no_rows tt) in
    let same : choice_words rows (ks ++ []) ≡ words = read.same [] (rw (no_rows, no_words) refl) in
    let plain : ks ++ [] ≡ ks = append-nil ks in
    (subst (AreChosen rows) plain chosen, sym (ap (choice_words rows) plain) ∙ same)

-- ---- what is chosen, by place

-- each choice is below its row's count
abbrev AreBelow : List Row → List ℕ → Type 0
AreBelow rows ks = (i : ℕ) → i < length rows → slice_index ks i < slice_index (map (λ (row : Row). length row.choices) rows) i

below_next : (r : Row) (rs : List Row) (k : ℕ) (ks : List ℕ) → k < length r.choices → AreBelow rs ks → AreBelow (r ∷ rs) (k ∷ ks)
below_next r rs k ks here more zero lt = here
below_next r rs k ks here more (suc i) lt = more i (omega arith)

pub chosen_at_places : (rows : List Row) (ks : List ℕ) → AreChosen rows ks
    → (length ks ≡ length rows) × ((i : ℕ) → i < length rows → slice_index ks i < slice_index (map (λ (row : Row). length row.choices) rows) i)
chosen_at_places [] [] h = (refl, λ i lt. absurd (omega arith))
chosen_at_places [] (k ∷ ks) h = absurd h
chosen_at_places (r ∷ rs) [] h = absurd h
chosen_at_places (r ∷ rs) (k ∷ ks) h = let more = chosen_at_places rs ks h.1 in (ap suc more.0, below_next r rs k ks h.0 more.1)

pub chosen_from_places : (rows : List Row) (ks : List ℕ) → length ks ≡ length rows
    → ((i : ℕ) → i < length rows → slice_index ks i < slice_index (map (λ (row : Row). length row.choices) rows) i) → AreChosen rows ks
chosen_from_places [] [] e h = tt
chosen_from_places [] (k ∷ ks) e h = absurd (omega arith)
chosen_from_places (r ∷ rs) [] e h = absurd (omega arith)
chosen_from_places (r ∷ rs) (k ∷ ks) e h = (h 0 (omega arith), chosen_from_places rs ks (omega arith) (λ i lt. h (suc i) (omega arith)))

-- ---- as many words as rows

pub too_many_or_few : (rows : List Row) (words : List (List ℕ)) → (length words ≡ length rows → ⊥) → (ks : List ℕ) → AreChosen rows ks → choice_words rows ks ≢ words
too_many_or_few rows words differ ks h e = differ (sym (ap length e) ∙ length-choice_words rows ks h)
