-- The part of all states.
use Rattle.std.proofs.Common.{◌≡◌, ◌≢◌, ℕ, zero, suc, ◌+◌, ◌-◌, ◌<◌, ◌≤◌, All, AllPairs, take, List, [], ◌∷◌, ◌++◌, length, map, get_or, Contains, refl, sym, ap, ◌∙◌, arith}
use Rattle.std.specs.List.{AllZip, sum_by, slice_range}
use Rattle.std.proofs.lemmas.Bool.{eqb-true}
use Rattle.std.proofs.lemmas.Bool.Decides.{Decides-eqb}
use Rattle.std.proofs.lemmas.List.{take_all, map_push, get_or_default, get_or-map, length-map, length-take}
use Rattle.std.proofs.lemmas.List.Elements.{All-contains, All-map}
use Rattle.std.proofs.lemmas.Map.Made.{IsDistinct-from_AllPairs}
use Rattle.std.proofs.lemmas.Map.Steps.{length-le_from_distinct_below}
use Rattle.std.proofs.lemmas.Map.Views.{Contains-from_any}
use Rattle.list_laws.proofs.Pairwise.{AllPairs-take}
use Rattle.list_laws.proofs.Members.{contains_none}
use Rattle.std.proofs.lemmas.List.Sums.{sum_by_push}
use Rattle.cca_base.specs.declared.choice.Choice.{Choice}
use Rattle.cost_search.specs.declared.part.Span.{Span}
use Rattle.cost_search.specs.SearchParts.{nothing, box, head_of, heads, IsSpan, AreSpans}

zip_push : {A B : Type 0} (R : A → B → Type 0) (xs : List A) (ys : List B) (x : A) (y : B) → AllZip R xs ys → R x y → AllZip R (xs ++ x ∷ []) (ys ++ y ∷ [])
zip_push R [] [] x y h r = (r, tt)
zip_push R [] (b ∷ ys) x y h r = absurd h
zip_push R (a ∷ xs) [] x y h r = absurd h
zip_push R (a ∷ xs) (b ∷ ys) x y h r = (h.0, zip_push R xs ys x y h.1 r)

-- the first choices of a row have as many modes, so if each is below a number there are no more
pub few_choices : (most : ℕ) (row : List Choice) (i : ℕ) → AllPairs (λ x y. x.mode ≢ y.mode) row → All (λ x. x.mode < most) (take i row) → i ≤ length row → i ≤ most
few_choices most row i once small within =
    let some : List Choice = take i row in
    let mode : Choice → ℕ = λ x. x.mode in
    let long : length (map mode some) ≡ length some = length-map some mode in
    let apart : AllPairs (λ x y. x ≢ y) (map mode some) = λ a b d before inside e.
    AllPairs-take (λ x y. x.mode ≢ y.mode) i row once a b nothing before (omega (arith, inside, long))
    (sym (get_or-map mode some a nothing d (omega (arith, before, inside, long))) ∙ (e ∙ get_or-map mode some b nothing d (omega (arith, inside, long)))) in
    let le = length-le_from_distinct_below (map mode some) most (IsDistinct-from_AllPairs Decides-eqb (map mode some) apart)
    (λ q h. All-contains (λ n. n < most) (map mode some) q (All-map (λ n. n < most) mode some small) (Contains-from_any eqb-true q (map mode some) h)) in
    omega (arith, le, long, length-take i row)

-- spans of whole rows
pub record AreWhole (rows : List (List Choice)) (cost : ℕ) (modes : List ℕ) (spans : List Span) : Type 0 where
  pub fits : AreSpans rows cost modes spans
  pub whole : box rows spans ≡ rows

box-push : (rows : List (List Choice)) (spans : List Span) (row : List Choice) (s : Span) → AllZip IsSpan rows spans
    → box (rows ++ row ∷ []) (spans ++ s ∷ []) ≡ box rows spans ++ slice_range row s.from s.to ∷ []
box-push [] [] row s h = refl
box-push [] (x ∷ spans) row s h = absurd h
box-push (r ∷ rows) [] row s h = absurd h
box-push (r ∷ rows) (x ∷ spans) row s h = ap (λ b. slice_range r x.from x.to ∷ b) (box-push rows spans row s h.1)

pub whole_more : (rows : List (List Choice)) (cost : ℕ) (modes : List ℕ) (spans : List Span) (row : List Choice) (x : Choice) (s : Span) → AreWhole rows cost modes spans → 0 < length row
    → x ≡ get_or row 0 x → s.from ≡ 0 → s.to ≡ length row → AreWhole (rows ++ row ∷ []) (cost + x.cost) (modes ++ x.mode ∷ []) (spans ++ s ∷ [])
whole_more rows cost modes spans row x s w some first from to =
    let all : slice_range row s.from s.to ≡ row = ap (λ i. slice_range row i s.to) from ∙ take_all (s.to - 0) row (omega arith) in
    let boxed : box (rows ++ row ∷ []) (spans ++ s ∷ []) ≡ box rows spans ++ row ∷ [] = box-push rows spans row s w.fits.each ∙ ap (λ (r : List Choice). box rows spans ++ r ∷ []) all in
    let head : head_of row ≡ x = get_or_default row 0 nothing x some ∙ sym first in
    let all_heads : heads (box (rows ++ row ∷ []) (spans ++ s ∷ [])) ≡ heads (box rows spans) ++ x ∷ [] =
    ap heads boxed ∙ map_push head_of (box rows spans) row ∙ ap (λ (z : Choice). heads (box rows spans) ++ z ∷ []) head in
    record {
      fits = record {
        each = zip_push IsSpan rows spans row s w.fits.each (record { some = omega arith; within = omega arith });
        starts = ap (λ (m : List ℕ). m ++ x.mode ∷ []) w.fits.starts ∙ sym (map_push (λ (z : Choice). z.mode) (heads (box rows spans)) x) ∙ ap (map (λ (z : Choice). z.mode)) (sym all_heads);
        costs = ap (λ n. n + x.cost) w.fits.costs ∙ sym (sum_by_push (λ (z : Choice). z.cost) (heads (box rows spans)) x) ∙ ap (sum_by (λ (z : Choice). z.cost)) (sym all_heads);
      };
      whole = boxed ∙ ap (λ (b : List (List Choice)). b ++ row ∷ []) w.whole;
    }

pub no_choice : (rows : List (List Choice)) (picks : List Choice) (i : ℕ) → i < length rows → length (get_or rows i []) ≡ 0 → AllZip Contains rows picks → ⊥
no_choice [] picks i h e k = absurd (omega arith)
no_choice (row ∷ rows) [] i h e k = k
no_choice ([] ∷ rows) (y ∷ picks) zero h e k = contains_none y k.0
no_choice ((x ∷ row) ∷ rows) (y ∷ picks) zero h e k = absurd (omega arith)
no_choice (row ∷ rows) (y ∷ picks) (suc i) h e k = no_choice rows picks i (omega arith) e k.1
