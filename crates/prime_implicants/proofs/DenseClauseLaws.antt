-- Rows under partial values.
use Rattle.std.proofs.Common.{◌≡◌, ℕ, zero, suc, ◌-◌, ◌^◌, ◌<◌, ◌≤◌, Bool, true, false, not, cond, ◌&&◌, ◌||◌, eqb, List, [], ◌∷◌, ◌++◌, length, Option, Some, None, refl, sym, ◌∙◌, ap, subst, arith, bit_or, set, get_or, eq-eqb, replicate, length-set, lt-ltb}
use Rattle.std.specs.List.{list_all, list_any, filter}
use Rattle.std.specs.Prelude.{MatchOption}
use Rattle.std.proofs.lemmas.Nat.{le_or_l, le_or_r}
use Rattle.std.proofs.lemmas.Nat.Bits.{bit_at-zero}
use Rattle.std.proofs.lemmas.Bool.Decides.{nat_tests}
use Rattle.std.proofs.lemmas.List.Folds.{list_all-append}
use Rattle.std.proofs.lemmas.List.{length-replicate}
use Rattle.std.proofs.lemmas.Bool.{and_parts, eqb-true}
use Rattle.list_laws.proofs.Passing.{all_pass_too}
use mathlib.Core.Bool.{and-true}
use Rattle.cca_base.specs.Sets.{has}
use Rattle.cca_base.proofs.SetLaws.{has-or, has_ones}
use Rattle.prime_implicants.specs.Partial.{IsWithin}
use Rattle.prime_implicants.specs.DenseClauses.{fits, row_unfalsified, all_unfalsified, is_wide, union_rows, is_stronger, is_always, is_in, is_sized, fix_row, is_zero, is_full}

-- ---- bits

or_zero : (x s t : ℕ) → s ≤ x → t ≤ x → (s ≡ 0 → x ≡ t) → not (eqb x 0) ≡ (not (eqb s 0) || not (eqb t 0))
or_zero x s t h k e = grind (arith, nat_tests)

zero_or : (s t : ℕ) → s ≡ 0 → bit_or s t ≡ t
zero_or s t e = subst (λ z. bit_or z t ≡ t) (sym e) refl

fits-or : (o : Option ℕ) (s t : ℕ) → fits o (bit_or s t) ≡ (fits o s || fits o t)
fits-or None s t = or_zero (bit_or s t) s t (le_or_l s t) (le_or_r s t) (zero_or s t)
fits-or (Some v) s t = has-or s t v

-- ---- rows

swapped : (a b c d : Bool) → ((a || b) || (c || d)) ≡ ((a || c) || (b || d))
swapped true true c d = refl
swapped true false true d = refl
swapped true false false d = refl
swapped false true true d = refl
swapped false true false true = refl
swapped false true false false = refl
swapped false false c d = refl

row_unfalsified-union : (q : List (Option ℕ)) (a b : List ℕ) → length a ≡ length b → row_unfalsified q (union_rows a b) ≡ (row_unfalsified q a || row_unfalsified q b)
row_unfalsified-union [] a b e = refl
row_unfalsified-union (o ∷ q) [] [] e = refl
row_unfalsified-union (o ∷ q) [] (t ∷ b) e = absurd (omega arith)
row_unfalsified-union (o ∷ q) (s ∷ a) [] e = absurd (omega arith)
row_unfalsified-union (o ∷ q) (s ∷ a) (t ∷ b) e =
    let h : length a ≡ length b = omega arith in
    rw (fits-or o s t, row_unfalsified-union q a b h) (swapped (fits o s) (fits o t) (row_unfalsified q a) (row_unfalsified q b))

union-stronger : (a b : List ℕ) → length a ≡ length b → is_stronger a b ≡ true → union_rows a b ≡ b
union-stronger [] [] e h = refl
union-stronger [] (t ∷ b) e h = absurd (omega arith)
union-stronger (s ∷ a) [] e h = absurd (omega arith)
union-stronger (s ∷ a) (t ∷ b) e h =
    let both = and_parts (eqb (bit_or s t) t) (is_stronger a b) h in
    let k : length a ≡ length b = omega arith in
    rw (eqb-true (bit_or s t) t both.0, union-stronger a b k both.1)

row_unfalsified-stronger : (q : List (Option ℕ)) (a b : List ℕ) → length a ≡ length b → is_stronger a b ≡ true → row_unfalsified q b ≡ (row_unfalsified q a || row_unfalsified q b)
row_unfalsified-stronger q a b e h = ap (row_unfalsified q) (sym (union-stronger a b e h)) ∙ row_unfalsified-union q a b e

-- ---- adding a row

pub widths : (n : ℕ) (r : List ℕ) → is_wide n r ≡ true → length r ≡ n
widths n r h = eqb-true (length r) n h

known : (a b c s t : Bool) → (s ≡ true → c ≡ (a || c)) → (t ≡ true → b ≡ (b && c)) → (s || t) ≡ true → (a && b) ≡ ((a && b) && c)
known false b c s t h k e = refl
known true false c s t h k e = refl
known true true true s t h k e = refl
known true true false true t h k e = let f = h refl in cc
known true true false false true h k e = let f = k refl in cc
known true true false false false h k e = cc

-- a row that an old one implies changes nothing
pub all_unfalsified-known : (q : List (Option ℕ)) (row : List ℕ) (rows : List (List ℕ)) → list_all (is_wide (length row)) rows ≡ true
    → list_any (λ old. is_stronger old row) rows ≡ true → all_unfalsified q rows ≡ (all_unfalsified q rows && row_unfalsified q row)
all_unfalsified-known q row [] w h = absurd (cc)
all_unfalsified-known q row (r ∷ rows) w h =
    let wide = and_parts (is_wide (length row) r) (list_all (is_wide (length row)) rows) w in
    known (row_unfalsified q r) (all_unfalsified q rows) (row_unfalsified q row) (is_stronger r row) (list_any (λ old. is_stronger old row) rows)
    (row_unfalsified-stronger q r row (widths (length row) r wide.0)) (all_unfalsified-known q row rows wide.1) h

drop_same : (a c k x : Bool) → a ≡ (c || a) → (k && c) ≡ (x && c) → (k && c) ≡ ((a && x) && c)
drop_same true c k x h e = e
drop_same false true k x h e = cc
drop_same false false false x h e = refl
drop_same false false true x h e = refl

keep_same : (a c k x : Bool) → (k && c) ≡ (x && c) → ((a && k) && c) ≡ ((a && x) && c)
keep_same true c k x e = e
keep_same false c k x e = refl

drop_one : (q : List (Option ℕ)) (r : List ℕ) (ks : List (List ℕ)) (s c x : Bool) → (s ≡ true → row_unfalsified q r ≡ (c || row_unfalsified q r))
    → (all_unfalsified q ks && c) ≡ (x && c) → (all_unfalsified q (cond (not s) (r ∷ ks) ks) && c) ≡ ((row_unfalsified q r && x) && c)
drop_one q r ks true c x h e = drop_same (row_unfalsified q r) c (all_unfalsified q ks) x (h refl) e
drop_one q r ks false c x h e = keep_same (row_unfalsified q r) c (all_unfalsified q ks) x e

-- the rows that a new one implies may go
pub all_unfalsified-kept : (q : List (Option ℕ)) (row : List ℕ) (rows : List (List ℕ)) → list_all (is_wide (length row)) rows ≡ true
    → (all_unfalsified q (filter (λ old. not (is_stronger row old)) rows) && row_unfalsified q row) ≡ (all_unfalsified q rows && row_unfalsified q row)
all_unfalsified-kept q row [] w = refl
all_unfalsified-kept q row (r ∷ rows) w =
    let wide = and_parts (is_wide (length row) r) (list_all (is_wide (length row)) rows) w in
    drop_one q r (filter (λ old. not (is_stronger row old)) rows) (is_stronger row r) (row_unfalsified q row) (all_unfalsified q rows)
    (row_unfalsified-stronger q row r (sym (widths (length row) r wide.0))) (all_unfalsified-kept q row rows wide.1)

pub list_all-filter : {X : Type 0} (p t : X → Bool) (xs : List X) → list_all p xs ≡ true → list_all p (filter t xs) ≡ true
list_all-filter p t [] h = refl
list_all-filter p t (x ∷ xs) h =
    let both = and_parts (p x) (list_all p xs) h in
    let rest : list_all p (filter t xs) ≡ true = list_all-filter p t xs both.1 in
    elim (t x) as (λ b. list_all p (cond b (x ∷ filter t xs) (filter t xs)) ≡ true) [ true ↦ rw (both.0, rest) | false ↦ rest ]

pub all_unfalsified-push : (q : List (Option ℕ)) (row : List ℕ) (rows : List (List ℕ)) → all_unfalsified q (rows ++ row ∷ []) ≡ (all_unfalsified q rows && row_unfalsified q row)
all_unfalsified-push q row rows = list_all-append (row_unfalsified q) rows (row ∷ []) ∙ ap (λ b. all_unfalsified q rows && b) (and-true (row_unfalsified q row))

pub list_all-push : {X : Type 0} (p : X → Bool) (xs : List X) (x : X) → list_all p xs ≡ true → p x ≡ true → list_all p (xs ++ x ∷ []) ≡ true
list_all-push p xs x h k = list_all-append p xs (x ∷ []) ∙ rw (h, k)

-- ---- a subject fixed

shifted : (a b c d : Bool) → (b ≡ (c || d)) → (a || b) ≡ (c || (a || d))
shifted true b true d e = refl
shifted true b false d e = refl
shifted false b c d e = e

fits_empty : (o : Option ℕ) → fits o 0 ≡ false
fits_empty None = refl
fits_empty (Some v) = ap (λ b. eqb b 1) (bit_at-zero v)

row_unfalsified-set : (q : List (Option ℕ)) (row : List ℕ) (x v : ℕ) → length row ≡ length q → x < length row
    → row_unfalsified (set q x (Some v)) row ≡ (has (get_or row x 0) v || row_unfalsified q (set row x 0))
row_unfalsified-set [] [] x v e h = absurd (omega arith)
row_unfalsified-set [] (s ∷ row) x v e h = absurd (omega arith)
row_unfalsified-set (o ∷ q) [] x v e h = absurd (omega arith)
row_unfalsified-set (o ∷ q) (s ∷ row) zero v e h = rw (fits_empty o)
row_unfalsified-set (o ∷ q) (s ∷ row) (suc x) v e h =
    let k : length row ≡ length q = omega arith in
    let l : x < length row = omega arith in
    shifted (fits o s) (row_unfalsified (set q x (Some v)) row) (has (get_or row x 0) v) (row_unfalsified q (set row x 0)) (row_unfalsified-set q row x v k l)

-- ---- what is always true

fits_full : (o : Option ℕ) (n s : ℕ) → MatchOption o (Unit {0}) (λ v. v < n) → is_full n s ≡ true → fits o s ≡ true
fits_full None n s h k = (and_parts (not (eqb s 0)) (eqb (bit_or (2 ^ n - 1) s) s) k).0
fits_full (Some v) n s h k =
    let same = eqb-true (bit_or (2 ^ n - 1) s) s (and_parts (not (eqb s 0)) (eqb (bit_or (2 ^ n - 1) s) s) k).1 in
    ap (λ z. has z v) (sym same) ∙ has-or (2 ^ n - 1) s v ∙ ap (λ b. b || has s v) (has_ones n v ∙ lt-ltb v n h)

pub either_so : (a b f r : Bool) → (a ≡ true → f ≡ true) → (b ≡ true → r ≡ true) → (a || b) ≡ true → (f || r) ≡ true
either_so true b f r h k e = rw (h refl)
either_so false b true r h k e = refl
either_so false b false r h k e = k e

pub row_unfalsified-always : (sizes : List ℕ) (q : List (Option ℕ)) (row : List ℕ) → IsWithin sizes q → is_always sizes row ≡ true → row_unfalsified q row ≡ true
row_unfalsified-always [] q row w h = absurd (cc)
row_unfalsified-always (n ∷ sizes) [] row w h = absurd w
row_unfalsified-always (n ∷ sizes) (o ∷ q) [] w h = absurd (cc)
row_unfalsified-always (n ∷ sizes) (o ∷ q) (s ∷ row) w h =
    either_so (is_full n s) (is_always sizes row) (fits o s) (row_unfalsified q row) (fits_full o n s w.0) (row_unfalsified-always sizes q row w.1) h

-- ---- loops over rows

pub list_all_get : {X : Type 0} (p : X → Bool) (xs : List X) (i : ℕ) (d : X) → i < length xs → list_all p xs ≡ true → p (get_or xs i d) ≡ true
list_all_get p [] i d h k = absurd (omega arith)
list_all_get p (x ∷ xs) zero d h k = (and_parts (p x) (list_all p xs) k).0
list_all_get p (x ∷ xs) (suc i) d h k = let l : i < length xs = omega arith in list_all_get p xs i d l (and_parts (p x) (list_all p xs) k).1

length-union : (a b : List ℕ) → length a ≡ length b → length (union_rows a b) ≡ length b
length-union [] b e = e
length-union (s ∷ a) [] e = absurd (omega arith)
length-union (s ∷ a) (t ∷ b) e = let h : length a ≡ length b = omega arith in ap suc (length-union a b h)

pub wide-union : (n : ℕ) (a b : List ℕ) → is_wide n a ≡ true → is_wide n b ≡ true → is_wide n (union_rows a b) ≡ true
wide-union n a b h k = eq-eqb (length (union_rows a b)) n (length-union a b (widths n a h ∙ sym (widths n b k)) ∙ widths n b k)

pub wide-unions : (n : ℕ) (a : List ℕ) (bs : List (List ℕ)) → is_wide n a ≡ true → list_all (is_wide n) bs ≡ true → list_all (λ b. is_wide n (union_rows a b)) bs ≡ true
wide-unions n a [] h k = refl
wide-unions n a (b ∷ bs) h k = let both = and_parts (is_wide n b) (list_all (is_wide n) bs) k in rw (wide-union n a b h both.0, wide-unions n a bs h both.1)

pub union_unfalsified : (n : ℕ) (q : List (Option ℕ)) (a b : List ℕ) → is_wide n a ≡ true → is_wide n b ≡ true → row_unfalsified q (union_rows a b) ≡ (row_unfalsified q a || row_unfalsified q b)
union_unfalsified n q a b h k = row_unfalsified-union q a b (widths n a h ∙ sym (widths n b k))

pub has_set : (q : List (Option ℕ)) (row : List ℕ) (x v : ℕ) → length row ≡ length q → x < length row → has (get_or row x 0) v ≡ true → row_unfalsified (set q x (Some v)) row ≡ true
has_set q row x v e h k = row_unfalsified-set q row x v e h ∙ ap (λ b. b || row_unfalsified q (set row x 0)) k

pub lacks_set : (q : List (Option ℕ)) (row : List ℕ) (x v : ℕ) → length row ≡ length q → x < length row → has (get_or row x 0) v ≡ false → row_unfalsified (set q x (Some v)) row ≡ row_unfalsified q (set row x 0)
lacks_set q row x v e h k = row_unfalsified-set q row x v e h ∙ ap (λ b. b || row_unfalsified q (set row x 0)) k

-- every union with each row of the left
pub wide-all : (n : ℕ) (ls bs : List (List ℕ)) → list_all (is_wide n) ls ≡ true → list_all (is_wide n) bs ≡ true → list_all (λ a. list_all (λ b. is_wide n (union_rows a b)) bs) ls ≡ true
wide-all n [] bs h k = refl
wide-all n (a ∷ ls) bs h k = let both = and_parts (is_wide n a) (list_all (is_wide n) ls) h in rw (wide-unions n a bs both.0 k, wide-all n ls bs both.1 k)

-- ---- all values of a subject

pub rows_in : (n x : ℕ) (rows : List (List ℕ)) → x < n → list_all (is_wide n) rows ≡ true → list_all (is_in x) rows ≡ true
rows_in n x rows h = all_pass_too (is_wide n) (is_in x) (λ r k. let e = widths n r k in let l : x < length r = omega arith in lt-ltb x (length r) l) rows

pub rows_sized : (n : ℕ) (q : List (Option ℕ)) (rows : List (List ℕ)) → length q ≡ n → list_all (is_wide n) rows ≡ true → list_all (is_sized q) rows ≡ true
rows_sized n q rows e = all_pass_too (is_wide n) (is_sized q) (λ r k. eq-eqb (length r) (length q) (widths n r k ∙ sym e)) rows

pub wide-fixed : (n x : ℕ) (rows : List (List ℕ)) → list_all (is_wide n) rows ≡ true → list_all (λ r. is_wide n (fix_row x r)) rows ≡ true
wide-fixed n x rows = all_pass_too (is_wide n) (λ r. is_wide n (fix_row x r)) (λ r k. eq-eqb (length (set r x 0)) n (length-set r x 0 ∙ widths n r k)) rows

pub length-within : (sizes : List ℕ) (q : List (Option ℕ)) → IsWithin sizes q → length q ≡ length sizes
length-within [] [] w = refl
length-within [] (o ∷ q) w = absurd w
length-within (n ∷ sizes) [] w = absurd w
length-within (n ∷ sizes) (o ∷ q) w = ap suc (length-within sizes q w.1)

pub row_unfalsified-never : (q : List (Option ℕ)) (n : ℕ) → row_unfalsified q (replicate n 0) ≡ false
row_unfalsified-never [] n = refl
row_unfalsified-never (o ∷ q) zero = refl
row_unfalsified-never (o ∷ q) (suc n) = rw (fits_empty o, row_unfalsified-never q n)

pub wide-never : (n : ℕ) → is_wide n (replicate n 0) ≡ true
wide-never n = eq-eqb (length (replicate n 0)) n (length-replicate n 0)

-- ---- subjects that no row names

zero_get : (n y : ℕ) → let none : List ℕ = replicate n 0 in get_or none y 0 ≡ 0
zero_get zero y = refl
zero_get (suc n) zero = refl
zero_get (suc n) (suc y) = zero_get n y

pub zero-never : (y n : ℕ) → is_zero y (replicate n 0) ≡ true
zero-never y n = eq-eqb (get_or (replicate n 0) y 0) 0 (zero_get n y)

get-union : (a b : List ℕ) (y : ℕ) → length a ≡ length b → get_or (union_rows a b) y 0 ≡ bit_or (get_or a y 0) (get_or b y 0)
get-union [] [] y e = refl
get-union [] (t ∷ b) y e = absurd (omega arith)
get-union (s ∷ a) [] y e = absurd (omega arith)
get-union (s ∷ a) (t ∷ b) zero e = refl
get-union (s ∷ a) (t ∷ b) (suc y) e = let h : length a ≡ length b = omega arith in get-union a b y h

zero-union : (y n : ℕ) (a b : List ℕ) → is_wide n a ≡ true → is_wide n b ≡ true → is_zero y a ≡ true → is_zero y b ≡ true → is_zero y (union_rows a b) ≡ true
zero-union y n a b wa wb h k =
    let za = eqb-true (get_or a y 0) 0 h in let zb = eqb-true (get_or b y 0) 0 k in
    eq-eqb (get_or (union_rows a b) y 0) 0 (get-union a b y (widths n a wa ∙ sym (widths n b wb)) ∙ zero_or (get_or a y 0) (get_or b y 0) za ∙ zb)

zero-unions : (y n : ℕ) (a : List ℕ) (bs : List (List ℕ)) → is_wide n a ≡ true → list_all (is_wide n) bs ≡ true → is_zero y a ≡ true → list_all (is_zero y) bs ≡ true
    → list_all (λ b. is_zero y (union_rows a b)) bs ≡ true
zero-unions y n a [] wa wb h k = refl
zero-unions y n a (b ∷ bs) wa wb h k =
    let w = and_parts (is_wide n b) (list_all (is_wide n) bs) wb in let z = and_parts (is_zero y b) (list_all (is_zero y) bs) k in
    rw (zero-union y n a b wa w.0 h z.0, zero-unions y n a bs wa w.1 h z.1)

pub zero-all : (y n : ℕ) (ls bs : List (List ℕ)) → list_all (is_wide n) ls ≡ true → list_all (is_wide n) bs ≡ true → list_all (is_zero y) ls ≡ true → list_all (is_zero y) bs ≡ true
    → list_all (λ a. list_all (λ b. is_zero y (union_rows a b)) bs) ls ≡ true
zero-all y n [] bs wa wb h k = refl
zero-all y n (a ∷ ls) bs wa wb h k =
    let w = and_parts (is_wide n a) (list_all (is_wide n) ls) wa in let z = and_parts (is_zero y a) (list_all (is_zero y) ls) h in
    rw (zero-unions y n a bs w.0 wb z.0 k, zero-all y n ls bs w.1 wb z.1 k)

-- a zero stays where a subject is fixed
zero_stays : (x y : ℕ) (row : List ℕ) → is_zero y row ≡ true → is_zero y (fix_row x row) ≡ true
zero_stays x y [] z = refl
zero_stays zero zero (s ∷ row) z = refl
zero_stays zero (suc y) (s ∷ row) z = z
zero_stays (suc x) zero (s ∷ row) z = z
zero_stays (suc x) (suc y) (s ∷ row) z = zero_stays x y row z

pub zeros_stay : (x y : ℕ) (rows : List (List ℕ)) → list_all (is_zero y) rows ≡ true → list_all (λ r. is_zero y (fix_row x r)) rows ≡ true
zeros_stay x y = all_pass_too (is_zero y) (λ r. is_zero y (fix_row x r)) (zero_stays x y)
