-- A line is cut into words at its spaces.
use Rattle.std.proofs.Common.{◌≡◌, ◌≢◌, ◌<◌, ◌≤◌, ◌+◌, ◌-◌, ℕ, List, [], ◌∷◌, ◌++◌, All, length, map, take, drop, get_or, Bor, inl, inr, subst, sym, ap, ◌∙◌, arith, append_assoc}
use Rattle.std.specs.List.{slice_range}
use Rattle.std.proofs.lemmas.Bool.{cases_lt}
use Rattle.std.proofs.lemmas.List.{append-nil, map-append, drop_all, drop_more, get_or-drop, get_or-take, length-take}
use Rattle.std.proofs.lemmas.List.Concat.{flat_map-append}
use Rattle.std.proofs.lemmas.List.Elements.{All-from_get_or, All-push}
use Rattle.std.proofs.lemmas.List.Folds.{drop_split}
use Rattle.list_laws.proofs.WordsByPlace.{Words}
use Rattle.trace_text.specs.Words.{behind_spaces, HasNoSpace, AreWords}

-- words are cut from the line up to a start, and no space stands from there to i
pub record IsCutTo (line : List ℕ) (words : List (List ℕ)) (start i : ℕ) : Type 0 where
  pub within : start ≤ i
  pub cut : behind_spaces words ++ 32 ∷ drop start line ≡ 32 ∷ line
  pub apart : All HasNoSpace words
  pub begun : (k : ℕ) → start ≤ k → k < i → get_or line k 0 ≢ 32

one_more_word : (words : List (List ℕ)) (word rest : List ℕ) → behind_spaces (words ++ word ∷ []) ++ rest ≡ behind_spaces words ++ 32 ∷ (word ++ rest)
one_more_word words word rest =
    let e : behind_spaces (words ++ word ∷ []) ≡ behind_spaces words ++ (32 ∷ word ++ []) = flat_map-append (λ (w : List ℕ). 32 ∷ w) words (word ∷ []) in
    rw e (simp (append-nil, append_assoc))

-- what stands from the start to i is a word
range_apart : (line : List ℕ) (words : List (List ℕ)) (start i : ℕ) → IsCutTo line words start i → i ≤ length line → HasNoSpace (slice_range line start i)
range_apart line words start i h inside =
    All-from_get_or (λ b. b ≢ 32) (take (i - start) (drop start line)) 0 (λ k lt e.
    let low : k < i - start = omega (arith, length-take (i - start) (drop start line), lt) in
    let is : get_or (take (i - start) (drop start line)) k 0 ≡ get_or line (start + k) 0 = get_or-take (i - start) (drop start line) k 0 low ∙ get_or-drop start line k 0 in
    h.begun (start + k) (omega arith) (omega (arith, h.within)) (sym is ∙ e))

cut_at_space : (line : List ℕ) (words : List (List ℕ)) (start i : ℕ) → IsCutTo line words start i → i < length line → get_or line i 0 ≡ 32
    → IsCutTo line (words ++ slice_range line start i ∷ []) (i + 1) (i + 1)
cut_at_space line words start i h inside space =
    let word = slice_range line start i in
    let next : drop i line ≡ 32 ∷ drop (i + 1) line = drop_more line i 0 inside ∙ ap (λ b. b ∷ drop (i + 1) line) space in
    let whole : word ++ 32 ∷ drop (i + 1) line ≡ drop start line = ap (λ t. word ++ t) (sym next) ∙ sym (drop_split line start i h.within) in
    record {
      within = omega arith;
      cut = one_more_word words word (32 ∷ drop (i + 1) line) ∙ ap (λ t. behind_spaces words ++ 32 ∷ t) whole ∙ h.cut;
      apart = All-push HasNoSpace words word h.apart (range_apart line words start i h (omega arith));
      begun = λ k low high. absurd (omega arith);
    }

pub cut_goes_on : (line : List ℕ) (words : List (List ℕ)) (start i : ℕ) → IsCutTo line words start i → get_or line i 0 ≢ 32 → IsCutTo line words start (i + 1)
cut_goes_on line words start i h other =
    record { within = omega (arith, h.within); cut = h.cut; apart = h.apart; begun = λ k low high. below_here k low high }
  where
    below_here : (k : ℕ) → start ≤ k → k < i + 1 → get_or line k 0 ≢ 32
    below_here k low high e = elim (cases_lt k i) [ inl under ↦ h.begun k low under e | inr past ↦ let same : k ≡ i = omega arith in other (ap (λ n. get_or line n 0) (sym same) ∙ e) ]

cut_ends : (line : List ℕ) (words : List (List ℕ)) (start i : ℕ) → IsCutTo line words start i → i ≡ length line → AreWords line (words ++ slice_range line start (length line) ∷ [])
cut_ends line words start i h e =
    let none : drop (length line) line ≡ [] = drop_all (length line) line (omega arith) in
    let within : start ≤ length line = omega (arith, h.within) in
    let word = slice_range line start (length line) in
    let last : word ≡ drop start line = sym (append-nil word) ∙ ap (λ t. word ++ t) (sym none) ∙ sym (drop_split line start (length line) within) in
    record {
      spaced = sym (append-nil (behind_spaces (words ++ word ∷ []))) ∙ one_more_word words word [] ∙ ap (λ t. behind_spaces words ++ 32 ∷ t) (append-nil word ∙ last) ∙ h.cut;
      apart = All-push HasNoSpace words word h.apart (subst (λ n. HasNoSpace (slice_range line start n)) e (range_apart line words start i h (omega arith)));
    }

-- ---- the same of words that are referred to

now_push : (old new : Words) (part : Bor (List ℕ)) (word : List ℕ) → new ≡ old ++ part ∷ [] → part.now ≡ word → map (λ (w : Bor (List ℕ)). w.now) new ≡ map (λ (w : Bor (List ℕ)). w.now) old ++ word ∷ []
now_push old new part word is same =
    ap (map (λ (w : Bor (List ℕ)). w.now)) is ∙ map-append (λ (w : Bor (List ℕ)). w.now) old (part ∷ []) ∙ ap (λ t. map (λ (w : Bor (List ℕ)). w.now) old ++ t ∷ []) same

pub word_cut : (line : List ℕ) (old new : Words) (part : Bor (List ℕ)) (start i : ℕ) → IsCutTo line (map (λ (w : Bor (List ℕ)). w.now) old) start i → i < length line → get_or line i 0 ≡ 32
    → new ≡ old ++ part ∷ [] → part.now ≡ slice_range line start i → IsCutTo line (map (λ (w : Bor (List ℕ)). w.now) new) (i + 1) (i + 1)
word_cut line old new part start i h inside space is same =
    let words = now_push old new part (slice_range line start i) is same in
    subst (λ (ws : List (List ℕ)). IsCutTo line ws (i + 1) (i + 1)) (sym words) (cut_at_space line (map (λ (w : Bor (List ℕ)). w.now) old) start i h inside space)

pub last_word_cut : (line : List ℕ) (old new : Words) (part : Bor (List ℕ)) (start i : ℕ) → IsCutTo line (map (λ (w : Bor (List ℕ)). w.now) old) start i → i ≡ length line
    → new ≡ old ++ part ∷ [] → part.now ≡ slice_range line start (length line) → AreWords line (map (λ (w : Bor (List ℕ)). w.now) new)
last_word_cut line old new part start i h all is same =
    let words = now_push old new part (slice_range line start (length line)) is same in
    subst (AreWords line) (sym words) (cut_ends line (map (λ (w : Bor (List ℕ)). w.now) old) start i h all)
