-- Boxes of choices: one choice of each row.
use Rattle.std.proofs.Common.{◌≡◌, ◌⊎◌, inl, inr, ℕ, zero, suc, ◌+◌, ◌-◌, ◌*◌, ◌<◌, ◌≤◌, List, [], ◌∷◌, length, map, take, drop, get_or, set, All, Contains, refl, sym, ap, subst, ◌∙◌, add-zero, arith}
use native.Mathlib.Nat.{mul-add, zero-mul, one-mul, suc-mul}
use Rattle.std.specs.List.{AllZip, sum_by, slice_range}
use Rattle.std.proofs.lemmas.List.{get_or_default, get_or-map, drop-take, drop-drop, take-take, get_or-take, get_or-drop, map-set, length-take, length-take-le, length-drop, length-map}
use Rattle.std.proofs.lemmas.List.Sums.{sum_by-le, sum_by-set}
use Rattle.std.proofs.lemmas.List.Elements.{All-nil, All-cons, All-head, All-tail}
use Rattle.std.proofs.lemmas.Slice.Zip.{AllZip-long}
use Rattle.list_laws.proofs.Members.{contains_cases, contains_here, contains_none}
use Rattle.cca_base.specs.declared.limits.TheConstants.{MAX_ROWS, MAX_COST}
use Rattle.cca_base.specs.declared.choice.Choice.{Choice}
use Rattle.cost_search.specs.declared.part.Span.{Span}
use Rattle.cca_base.specs.Choices.{IsRow, AreRows}
use Rattle.cost_search.specs.SearchParts.{nothing, box, head_of, heads, size, row_at, IsSpan, AreSpans}

pub spans-long : (rows : List (List Choice)) (spans : List Span) → AllZip IsSpan rows spans → length rows ≡ length spans
spans-long rows spans h = sym (AllZip-long IsSpan rows spans h)

box-set : (rows : List (List Choice)) (spans : List Span) (i : ℕ) (s : Span) → length rows ≡ length spans
    → box rows (set spans i s) ≡ set (box rows spans) i (slice_range (get_or rows i []) s.from s.to)
box-set [] [] i s e = refl
box-set [] (x ∷ spans) i s e = absurd (omega arith)
box-set (row ∷ rows) [] i s e = absurd (omega arith)
box-set (row ∷ rows) (x ∷ spans) zero s e = refl
box-set (row ∷ rows) (x ∷ spans) (suc i) s e = ap (λ b. slice_range row x.from x.to ∷ b) (box-set rows spans i s (omega arith))

box-at : (rows : List (List Choice)) (spans : List Span) (i : ℕ) (d : Span) → length rows ≡ length spans → i < length rows
    → row_at (box rows spans) i ≡ slice_range (get_or rows i []) (get_or spans i d).from (get_or spans i d).to
box-at [] [] i d e h = absurd (omega arith)
box-at [] (x ∷ spans) i d e h = absurd (omega arith)
box-at (row ∷ rows) [] i d e h = absurd (omega arith)
box-at (row ∷ rows) (x ∷ spans) zero d e h = refl
box-at (row ∷ rows) (x ∷ spans) (suc i) d e h = box-at rows spans i d (omega arith) (omega arith)

pub length-box : (rows : List (List Choice)) (spans : List Span) → length rows ≡ length spans → length (box rows spans) ≡ length rows
length-box [] [] e = refl
length-box [] (x ∷ spans) e = absurd (omega arith)
length-box (row ∷ rows) [] e = absurd (omega arith)
length-box (row ∷ rows) (x ∷ spans) e = let l : length rows ≡ length spans = omega arith in ap suc (length-box rows spans l)

heads-set : (b : List (List Choice)) (i : ℕ) (row : List Choice) → heads (set b i row) ≡ set (heads b) i (head_of row)
heads-set b i row = map-set head_of b i row

-- what a span of a row begins with
pub head_of-range : (row : List Choice) (from to : ℕ) → from < to → head_of (slice_range row from to) ≡ get_or row from nothing
head_of-range row from to h = get_or-take (to - from) (drop from row) 0 nothing (omega arith) ∙ get_or-drop from row 0 nothing ∙ ap (λ n. get_or row n nothing) (add-zero from)

rest_of-range : (row : List Choice) (from to : ℕ) → from < to → slice_range row (from + 1) to ≡ drop 1 (slice_range row from to)
rest_of-range row from to h =
    let m = to - (from + 1) in
    let k : to - from ≡ 1 + m = omega arith in
    ap (take m) (sym (drop-drop 1 from row)) ∙ sym (drop-take 1 m (drop from row)) ∙ ap (λ n. drop 1 (take n (drop from row))) (sym k)

first_of-range : (row : List Choice) (from to : ℕ) → from < to → slice_range row from (from + 1) ≡ take 1 (slice_range row from to)
first_of-range row from to h =
    let k : (from + 1) - from ≡ 1 = omega arith in
    ap (λ n. take n (drop from row)) k ∙ sym (take-take 1 (to - from) (drop from row) (omega arith))

spans-set : (rows : List (List Choice)) (spans : List Span) (i : ℕ) (s : Span) → AllZip IsSpan rows spans → IsSpan (get_or rows i []) s → AllZip IsSpan rows (set spans i s)
spans-set [] [] i s h k = h
spans-set [] (x ∷ spans) i s h k = absurd h
spans-set (row ∷ rows) [] i s h k = absurd h
spans-set (row ∷ rows) (x ∷ spans) zero s h k = (k, h.1)
spans-set (row ∷ rows) (x ∷ spans) (suc i) s h k = (h.0, spans-set rows spans i s h.1 k)

span-at : (rows : List (List Choice)) (spans : List Span) (i : ℕ) (d : Span) → AllZip IsSpan rows spans → i < length rows → IsSpan (get_or rows i []) (get_or spans i d)
span-at [] [] i d h k = absurd (omega arith)
span-at [] (x ∷ spans) i d h k = absurd h
span-at (row ∷ rows) [] i d h k = absurd h
span-at (row ∷ rows) (x ∷ spans) zero d h k = h.0
span-at (row ∷ rows) (x ∷ spans) (suc i) d h k = span-at rows spans i d h.1 (omega arith)

-- ---- a box, cut at one row into the states with its first choice and the others

pub size-split : (b : List (List Choice)) (i : ℕ) → i < length b → size (set b i (drop 1 (row_at b i))) + size (set b i (take 1 (row_at b i))) ≡ size b
size-split [] i h = absurd (omega arith)
size-split ([] ∷ b) zero h = let z : 0 * size b ≡ 0 = zero-mul (size b) in omega arith
size-split ((x ∷ row) ∷ b) zero h = ap (λ n. length row * size b + n) (one-mul (size b)) ∙ sym (suc-mul (length row) (size b))
size-split (row ∷ b) (suc i) h = sym (mul-add (length row) (size (set b i (drop 1 (row_at b i)))) (size (set b i (take 1 (row_at b i))))) ∙ ap (λ n. length row * n) (size-split b i (omega arith))

pub picks-split : (b : List (List Choice)) (picks : List Choice) (i : ℕ) → i < length b → AllZip Contains b picks
    → AllZip Contains (set b i (drop 1 (row_at b i))) picks ⊎ (AllZip Contains (set b i (take 1 (row_at b i))) picks × (get_or picks i nothing ≡ get_or (heads b) i nothing))
picks-split [] picks i h k = absurd (omega arith)
picks-split (row ∷ b) [] i h k = absurd k
picks-split ([] ∷ b) (y ∷ picks) zero h k = absurd (contains_none y k.0)
picks-split ((x ∷ row) ∷ b) (y ∷ picks) zero h k = elim (contains_cases x y row k.0) [
  | inl e ↦ inr ((contains_here x y [] e, k.1), sym e)
  | inr there ↦ inl (there, k.1)
]
picks-split (row ∷ b) (y ∷ picks) (suc i) h k = elim (picks-split b picks i (omega arith) k.1) [
  | inl more ↦ inl (k.0, more)
  | inr rest ↦ inr ((k.0, rest.0), rest.1)
]

-- ---- spans

pub span-is : (rows : List (List Choice)) (spans : List Span) (i : ℕ) (s : Span) → AllZip IsSpan rows spans → i < length rows → s ≡ get_or spans i s → IsSpan (get_or rows i []) s
span-is rows spans i s h k e = subst (IsSpan (get_or rows i [])) (sym e) (span-at rows spans i s h k)

pub row-is : (rows : List (List Choice)) (spans : List Span) (i : ℕ) (s : Span) → AllZip IsSpan rows spans → i < length rows → s ≡ get_or spans i s
    → row_at (box rows spans) i ≡ slice_range (get_or rows i []) s.from s.to
row-is rows spans i s h k e = box-at rows spans i s (spans-long rows spans h) k ∙ ap (λ (x : Span). slice_range (get_or rows i []) x.from x.to) (sym e)

-- a state's choices cost at most so much
heads-cheap : (rows : List (List Choice)) (spans : List Span) → All IsRow rows → AllZip IsSpan rows spans → All (λ x. x.cost ≤ MAX_COST) (heads (box rows spans))
heads-cheap [] [] each h = All-nil (λ x. x.cost ≤ MAX_COST)
heads-cheap [] (s ∷ spans) each h = absurd h
heads-cheap (row ∷ rows) [] each h = absurd h
heads-cheap (row ∷ rows) (s ∷ spans) each h =
    let own = All-head IsRow row rows each in
    let some = h.0.some in
    let within = h.0.within in
    let first : (get_or row s.from nothing).cost ≤ MAX_COST = own.cheap s.from nothing (omega arith) in
    All-cons (λ x. x.cost ≤ MAX_COST) (head_of (slice_range row s.from s.to)) (heads (box rows spans))
    (subst (λ (x : Choice). x.cost ≤ MAX_COST) (sym (head_of-range row s.from s.to some)) first)
    (heads-cheap rows spans (All-tail IsRow row rows each) h.1)

length-heads : (rows : List (List Choice)) (spans : List Span) → AllZip IsSpan rows spans → length (heads (box rows spans)) ≡ length rows
length-heads rows spans h = length-map (box rows spans) head_of ∙ length-box rows spans (spans-long rows spans h)

pub cost-small : (rows : List (List Choice)) (cost : ℕ) (modes : List ℕ) (spans : List Span) → AreRows rows → AreSpans rows cost modes spans → cost ≤ MAX_ROWS * MAX_COST
cost-small rows cost modes spans a p =
    let few = a.few in
    let le : sum_by (λ x. x.cost) (heads (box rows spans)) ≤ length (heads (box rows spans)) * MAX_COST = sum_by-le (λ x. x.cost) MAX_COST (heads (box rows spans)) (heads-cheap rows spans a.each p.each) in
    let l = length-heads rows spans p.each in
    let e = p.costs in
    omega arith

-- ---- the two new parts

pub narrowed-box : (rows : List (List Choice)) (spans : List Span) (i : ℕ) (s : Span) → AllZip IsSpan rows spans → i < length rows → s ≡ get_or spans i s
    → box rows (set spans i (record { from = s.from; to = s.from + 1 })) ≡ set (box rows spans) i (take 1 (row_at (box rows spans) i))
narrowed-box rows spans i s h k e =
    let is = span-is rows spans i s h k e in
    box-set rows spans i (record { from = s.from; to = s.from + 1 }) (spans-long rows spans h)
    ∙ ap (λ r. set (box rows spans) i r) (first_of-range (get_or rows i []) s.from s.to is.some ∙ ap (take 1) (sym (row-is rows spans i s h k e)))

-- the first choice alone is as first as before
pub heads-narrowed : (b : List (List Choice)) (i : ℕ) → heads (set b i (take 1 (row_at b i))) ≡ heads b
heads-narrowed [] i = refl
heads-narrowed ([] ∷ b) zero = refl
heads-narrowed ((x ∷ row) ∷ b) zero = refl
heads-narrowed (row ∷ b) (suc i) = ap (λ l. head_of row ∷ l) (heads-narrowed b i)

pub narrowed : (rows : List (List Choice)) (cost : ℕ) (modes : List ℕ) (spans : List Span) (i : ℕ) (s : Span) → AreSpans rows cost modes spans → i < length rows → s ≡ get_or spans i s
    → AreSpans rows cost modes (set spans i (record { from = s.from; to = s.from + 1 }))
narrowed rows cost modes spans i s p k e =
    let is = span-is rows spans i s p.each k e in
    let some = is.some in
    let within = is.within in
    let same : heads (box rows (set spans i (record { from = s.from; to = s.from + 1 }))) ≡ heads (box rows spans) =
    ap heads (narrowed-box rows spans i s p.each k e) ∙ heads-narrowed (box rows spans) i in
    record {
      each = spans-set rows spans i (record { from = s.from; to = s.from + 1 }) p.each (record { some = omega arith; within = omega arith });
      starts = p.starts ∙ ap (map (λ x. x.mode)) (sym same);
      costs = p.costs ∙ ap (sum_by (λ x. x.cost)) (sym same);
    }

pub onward-box : (rows : List (List Choice)) (spans : List Span) (i : ℕ) (s : Span) → AllZip IsSpan rows spans → i < length rows → s ≡ get_or spans i s
    → box rows (set spans i (record { from = s.from + 1; to = s.to })) ≡ set (box rows spans) i (drop 1 (row_at (box rows spans) i))
onward-box rows spans i s h k e =
    let is = span-is rows spans i s h k e in
    box-set rows spans i (record { from = s.from + 1; to = s.to }) (spans-long rows spans h)
    ∙ ap (λ r. set (box rows spans) i r) (rest_of-range (get_or rows i []) s.from s.to is.some ∙ ap (drop 1) (sym (row-is rows spans i s h k e)))

-- what choices x and y stand for, where y is put in the place of x
pub onward-parts : (rows : List (List Choice)) (cost : ℕ) (modes : List ℕ) (spans : List Span) (i : ℕ) (s : Span) (x y : Choice) → AreSpans rows cost modes spans → i < length rows → s ≡ get_or spans i s
    → s.from + 1 < s.to → x ≡ get_or (get_or rows i []) s.from x → y ≡ get_or (get_or rows i []) (s.from + 1) y
    → AreSpans rows ((cost + y.cost) - x.cost) (set modes i y.mode) (set spans i (record { from = s.from + 1; to = s.to })) × (x.cost ≤ cost + y.cost)
onward-parts rows cost modes spans i s x y p k e more is_x is_y =
    let row = get_or rows i [] in
    let is = span-is rows spans i s p.each k e in
    let some = is.some in
    let within = is.within in
    let b = box rows spans in
    let next : Span = record { from = s.from + 1; to = s.to } in
    let long : length (heads b) ≡ length rows = length-heads rows spans p.each in
    let long_box : length b ≡ length rows = length-box rows spans (spans-long rows spans p.each) in
    let from_is : get_or row s.from nothing ≡ x = get_or_default row s.from nothing x (omega arith) ∙ sym is_x in
    let next_is : get_or row (s.from + 1) nothing ≡ y = get_or_default row (s.from + 1) nothing y (omega arith) ∙ sym is_y in
    let head_is : get_or (heads b) i nothing ≡ x = get_or-map head_of b i [] nothing (omega arith) ∙ ap head_of (row-is rows spans i s p.each k e) ∙ head_of-range row s.from s.to some ∙ from_is in
    let new_heads : heads (box rows (set spans i next)) ≡ set (heads b) i y =
    ap heads (box-set rows spans i next (spans-long rows spans p.each)) ∙ heads-set b i (slice_range row (s.from + 1) s.to)
    ∙ ap (λ z. set (heads b) i z) (head_of-range row (s.from + 1) s.to more ∙ next_is) in
    let sums : sum_by (λ z. z.cost) (set (heads b) i y) + x.cost ≡ sum_by (λ z. z.cost) (heads b) + y.cost =
    subst (λ (z : Choice). sum_by (λ u. u.cost) (set (heads b) i y) + z.cost ≡ sum_by (λ u. u.cost) (heads b) + y.cost) head_is (sum_by-set (λ z. z.cost) (heads b) i y nothing (omega arith)) in
    let costs = p.costs in (
      record {
        each = spans-set rows spans i next p.each (record { some = more; within = within });
        starts = ap (λ m. set m i y.mode) p.starts ∙ sym (map-set (λ z. z.mode) (heads b) i y) ∙ ap (map (λ z. z.mode)) (sym new_heads);
        costs = (let cost_is : (cost + y.cost) - x.cost ≡ sum_by (λ z. z.cost) (set (heads b) i y) = omega arith in cost_is ∙ ap (sum_by (λ z. z.cost)) (sym new_heads));
      },
      omega arith,
    )

-- how many choices a component has
pub row_long : (rows : List (List Choice)) (spans : List Span) (i : ℕ) (s : Span) → AllZip IsSpan rows spans → i < length rows → s ≡ get_or spans i s
    → length (row_at (box rows spans) i) ≡ s.to - s.from
row_long rows spans i s h k e =
    let within = (span-is rows spans i s h k e).within in
    ap length (row-is rows spans i s h k e) ∙ length-take-le (s.to - s.from) (drop s.from (get_or rows i [])) (omega (arith, length-drop s.from (get_or rows i [])))

-- a component that has one choice alone
pub one_choice : (rows : List (List Choice)) (spans : List Span) (i : ℕ) (s : Span) → AllZip IsSpan rows spans → i < length rows → s ≡ get_or spans i s → s.from + 1 ≡ s.to
    → length (row_at (box rows spans) i) ≤ 1
one_choice rows spans i s h k e one =
    let l : length (slice_range (get_or rows i []) s.from s.to) ≤ 1 = omega (arith, length-take (s.to - s.from) (drop s.from (get_or rows i []))) in
    subst (λ r. length r ≤ 1) (sym (row-is rows spans i s h k e)) l

pub cheap-at : (rows : List (List Choice)) (i k : ℕ) (x : Choice) → AreRows rows → i < length rows → k < length (get_or rows i []) → x ≡ get_or (get_or rows i []) k x → x.cost ≤ MAX_COST
cheap-at rows i k x a h l e = let own : IsRow (get_or rows i []) = a.each i [] h in subst (λ (z : Choice). z.cost ≤ MAX_COST) (sym e) (own.cheap k x l)

pub row-read : (rows : List (List Choice)) (i : ℕ) (row : List Choice) → i < length rows → row ≡ get_or rows i row → row ≡ get_or rows i []
row-read rows i row h e = e ∙ get_or_default rows i row [] h

pub choice-read : (rows : List (List Choice)) (i k : ℕ) (row : List Choice) (x : Choice) → i < length rows → row ≡ get_or rows i row → x ≡ get_or row k x → x ≡ get_or (get_or rows i []) k x
choice-read rows i k row x h e f = f ∙ ap (λ (r : List Choice). get_or r k x) (row-read rows i row h e)

pub length-modes : (rows : List (List Choice)) (cost : ℕ) (modes : List ℕ) (spans : List Span) → AreSpans rows cost modes spans → length modes ≡ length rows
length-modes rows cost modes spans p = ap length p.starts ∙ length-map (heads (box rows spans)) (λ x. x.mode) ∙ length-heads rows spans p.each

-- each row of a part has some choice
pub rows-some : (rows : List (List Choice)) (spans : List Span) → AllZip IsSpan rows spans → All (λ row. 0 < length row) (box rows spans)
rows-some [] [] h = All-nil (λ row. 0 < length row)
rows-some [] (s ∷ spans) h = absurd h
rows-some (row ∷ rows) [] h = absurd h
rows-some (row ∷ rows) (s ∷ spans) h =
    let some = h.0.some in
    let within = h.0.within in
    All-cons (λ r. 0 < length r) (slice_range row s.from s.to) (box rows spans)
    (omega (arith, length-take (s.to - s.from) (drop s.from row), length-drop s.from row)) (rows-some rows spans h.1)
