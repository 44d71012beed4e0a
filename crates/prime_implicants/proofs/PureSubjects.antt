-- Consensus on a pure subject adds nothing.
use Rattle.prime_implicants.specs.Partial.{IsWithin}
use Rattle.prime_implicants.specs.DenseClauses.{row_unfalsified, all_unfalsified, is_wide, is_zero, mentions, have_value, is_pure}
use Rattle.clause_form.specs.Clauses.{any_below}
use Rattle.std.proofs.Common.{◌≡◌, ℕ, ◌<◌, Bool, true, false, not, cond, ◌&&◌, ◌||◌, List, [], ◌∷◌, length, Option, Some, refl, sym, ◌∙◌, arith, set, get_or}
use Rattle.std.specs.List.{list_all, filter}
use Rattle.std.proofs.lemmas.Bool.{and_parts}
use Rattle.list_laws.proofs.Tests.{and_with}
use Rattle.cca_base.specs.Sets.{has}
use Rattle.prime_implicants.proofs.DenseClauseLaws.{has_set, length-within, widths}
use Rattle.clause_form.proofs.SomeValue.{any_true, some_below}

kept : (q : List (Option ℕ)) (r : List ℕ) (rows : List (List ℕ)) (unnamed met : Bool) → (unnamed || met) ≡ true → (met ≡ true → row_unfalsified q r ≡ true)
    → all_unfalsified q rows ≡ true → all_unfalsified q (cond (not unnamed) (r ∷ rows) rows) ≡ true
kept q r rows true met e h k = k
kept q r rows false met e h k = rw (h e, k)

-- the value makes true each row that names the subject
named_true : (n x v : ℕ) (q : List (Option ℕ)) (rows : List (List ℕ)) → length q ≡ n → x < n → list_all (is_wide n) rows ≡ true → have_value x v rows ≡ true
    → all_unfalsified (set q x (Some v)) (filter (mentions x) rows) ≡ true
named_true n x v q [] e h w k = refl
named_true n x v q (r ∷ rows) e h w k =
    let wide = and_parts (is_wide n r) (list_all (is_wide n) rows) w in
    let met = and_parts (is_zero x r || has (get_or r x 0) v) (have_value x v rows) k in
    let long : length r ≡ n = widths n r wide.0 in
    let inside : x < length r = omega arith in
    kept (set q x (Some v)) r (filter (mentions x) rows) (is_zero x r) (has (get_or r x 0) v) met.0
    (has_set q r x v (long ∙ sym e) inside) (named_true n x v q rows e h wide.1 met.1)

pub pure_adds_nothing : (sizes : List ℕ) (x : ℕ) (q : List (Option ℕ)) (rows : List (List ℕ)) → IsWithin sizes q → x < length sizes → list_all (is_wide (length sizes)) rows ≡ true
    → is_pure (get_or sizes x 0) x rows ≡ true
    → all_unfalsified q rows ≡ (all_unfalsified q rows && any_below (get_or sizes x 0) (λ v. all_unfalsified (set q x (Some v)) (filter (mentions x) rows)))
pure_adds_nothing sizes x q rows w h wide pure =
    let r = any_true (get_or sizes x 0) (λ v. have_value x v rows) pure in
    and_with (all_unfalsified q rows) _ (some_below (get_or sizes x 0) (λ v. all_unfalsified (set q x (Some v)) (filter (mentions x) rows)) r.0 r.1
    (named_true (length sizes) x r.0 q rows (length-within sizes q w) h wide r.2))
