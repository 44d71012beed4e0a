-- Numbers of at most 128 bits and their texts.
use Rattle.std.proofs.Common.{◌≡◌, ◌≢◌, ℕ, ◌+◌, ◌*◌, ◌/◌, ◌%◌, ◌^◌, ◌<◌, ◌≤◌, Bool, true, false, cond, ◌&&◌, nat_eq, List, [], ◌∷◌, ◌++◌, length, get_or, Option, Result, Ok, Err, refl, sym, ap, subst, ◌∙◌, append_assoc, arith, length-append, rules, zero, suc, eqb-true, false-eqb, eq-eqb}
use Rattle.std.specs.List.{list_all}
use Rattle.std.specs.Char.{is_ascii_digit, digit_value}
use Rattle.std.specs.Fmt.{decimal}
use Rattle.std.specs.Prelude.{IfSome, IfNone}
use Rattle.std.specs.Result.{result_ok}
use Rattle.std.specs.Str.{IsUtf8}
use Rattle.std.specs.Str.Parse.{AllDigits, digits_value, digits_value_after, ParsesUnsigned}
use Rattle.std.proofs.lemmas.List.{append-nil}
use Rattle.std.proofs.Math.ListN.{get_or-append}
use Rattle.std.proofs.lemmas.Str.{digit_value_digit, IsUtf8-from_ascii}
use Rattle.std.proofs.lemmas.Str.Parse.{IsDigitsTest, digit_from_value, tells_digits, numerals_by_value, parse_plain}
use Rattle.std.proofs.lemmas.Fmt.{decimal_is_IsNumeral_wide, decimal_digit, decimal_step_wide, decimal_by_steps_wide, parse-decimal_wide, IsAscii-from_digits}
use Rattle.std.proofs.lemmas.Bool.{true≢false}
use Rattle.text_base.specs.Numerals.{is_numeral}

le_value_after : (n : ℕ) (ds : List ℕ) → n ≤ digits_value_after 10 n ds
le_value_after n [] = omega arith
le_value_after n (c ∷ cs) = omega (arith, le_value_after (n * 10 + digit_value c) cs)

-- digits behind a number above 0 are the last digits of what they make of it
decimal_value_after : (n : ℕ) (ds : List ℕ) → 0 < n → AllDigits 10 ds → digits_value_after 10 n ds < 2 ^ 128 → decimal (digits_value_after 10 n ds) ≡ decimal n ++ ds
decimal_value_after n [] some d small = sym (append-nil (decimal n))
decimal_value_after n (c ∷ cs) some d small =
    let m : ℕ = n * 10 + digit_value c in
    let k = digit_value_digit c (digit_from_value c d.0) in
    let front : m / 10 ≡ n = omega (arith, d.0) in
    let end : 48 + m % 10 ≡ c = omega (arith, d.0) in
    decimal_value_after m cs (omega arith) d.1 small
    ∙ ap (λ x. x ++ cs) (decimal_step_wide m (omega arith) (omega (arith, le_value_after m cs)) ∙ (λ i. decimal (front i) ++ (end i ∷ [])))
    ∙ append_assoc (decimal n) (c ∷ []) cs

-- what a numeral is, digit by digit
pub record IsPlain (ds : List ℕ) : Type 0 where
  pub some : 0 < length ds
  pub digits : AllDigits 10 ds
  pub lead : get_or ds 0 0 ≡ 48 → length ds ≡ 1

decimal_value : (ds : List ℕ) → IsPlain ds → digits_value 10 ds < 2 ^ 128 → decimal (digits_value 10 ds) ≡ ds
decimal_value [] p small = absurd (omega (arith, p.some))
decimal_value (c ∷ []) p small =
    let k = digit_value_digit c (digit_from_value c p.digits.0) in
    decimal_digit (0 * 10 + digit_value c) (omega (arith, p.digits.0)) ∙ ap (λ x. x ∷ []) (omega arith)
decimal_value (c ∷ e ∷ cs) p small =
    let k = digit_value_digit c (digit_from_value c p.digits.0) in
    let no : c ≡ 48 → ⊥ = λ z. omega (arith, p.lead z) in
    let is : 48 + (0 * 10 + digit_value c) ≡ c = omega arith in
    decimal_value_after (0 * 10 + digit_value c) (e ∷ cs) (omega arith) p.digits.1 small
    ∙ ap (λ x. x ++ (e ∷ cs)) (decimal_digit (0 * 10 + digit_value c) (omega (arith, p.digits.0)) ∙ ap (λ x. x ∷ []) is)

-- a test of digits by `list_all`
pub tells_list_all : IsDigitsTest (λ ds. list_all is_ascii_digit ds ≡ true)
tells_list_all = search rules

from_list_all : (ds : List ℕ) → list_all is_ascii_digit ds ≡ true → AllDigits 10 ds
from_list_all ds h = (numerals_by_value _ tells_list_all).to ds h

to_list_all : (ds : List ℕ) → AllDigits 10 ds → list_all is_ascii_digit ds ≡ true
to_list_all ds d = (numerals_by_value _ tells_list_all).from ds d

-- by the first digit
by_lead : (t : Bool) (b : ℕ) (bs : List ℕ) → nat_eq b 48 ≡ t → cond t (nat_eq (length bs) 0) (is_ascii_digit b && list_all is_ascii_digit bs) ≡ true → IsPlain (b ∷ bs)
by_lead true b [] e h = record { some = omega arith; digits = (rw (eqb-true b 48 e) (omega arith), tt); lead = λ _. omega arith }
by_lead true b (c ∷ cs) e h = absurd (omega (arith, eqb-true _ 0 h))
by_lead false b bs e h = record { some = omega arith; digits = from_list_all (b ∷ bs) h; lead = λ z. absurd (false-eqb b 48 (sym e) z) }

by_plain : (t : Bool) (b : ℕ) (bs : List ℕ) → nat_eq b 48 ≡ t → IsPlain (b ∷ bs) → cond t (nat_eq (length bs) 0) (is_ascii_digit b && list_all is_ascii_digit bs) ≡ true
by_plain true b bs e p = let one = p.lead (eqb-true b 48 e) in eq-eqb (length bs) 0 (omega (arith, one))
by_plain false b bs e p = to_list_all (b ∷ bs) p.digits

numeral_is_plain : (ds : List ℕ) → is_numeral ds ≡ true → IsPlain ds
numeral_is_plain [] h = absurd cc
numeral_is_plain (b ∷ bs) h = by_lead (nat_eq b 48) b bs refl h

plain_is_numeral : (ds : List ℕ) → IsPlain ds → is_numeral ds ≡ true
plain_is_numeral [] p = absurd (omega (arith, p.some))
plain_is_numeral (b ∷ bs) p = by_plain (nat_eq b 48) b bs refl p

-- the first digit is 0 for 0 alone
record LeadsWell (n : ℕ) (ds : List ℕ) : Type 0 where
  some : 0 < length ds
  above : 0 < n → 48 < get_or ds 0 0
  one : n < 10 → length ds ≡ 1

decimal_lead : (n : ℕ) → n < 10 ^ 64 → LeadsWell n (decimal n)
decimal_lead = decimal_by_steps_wide LeadsWell (λ m l. record { some = omega arith; above = λ a. omega arith; one = λ a. refl }) more
  where
    more : (m : ℕ) (ds : List ℕ) → 10 ≤ m → LeadsWell (m / 10) ds → LeadsWell m (ds ++ ((48 + m % 10) ∷ []))
    more m ds l h = record {
      some = omega (arith, length-append ds ((48 + m % 10) ∷ []));
      above = λ a. omega (arith, get_or-append ds ((48 + m % 10) ∷ []) 0 0 h.some, h.above (omega arith));
      one = λ a. absurd (omega arith);
    }

zero_alone : (n : ℕ) (ds : List ℕ) → LeadsWell n ds → get_or ds 0 0 ≡ 48 → length ds ≡ 1
zero_alone zero ds w e = w.one (omega arith)
zero_alone (suc n) ds w e = absurd (omega (arith, w.above (omega arith)))

decimal_is_numeral : (n : ℕ) → n < 2 ^ 128 → is_numeral (decimal n) ≡ true
decimal_is_numeral n small =
    let k = decimal_is_IsNumeral_wide n (omega arith) in
    plain_is_numeral (decimal n) (record { some = k.0.0; digits = k.0.1; lead = zero_alone n (decimal n) (decimal_lead n (omega arith)) })

pub utf8_numeral : (bs : List ℕ) → is_numeral bs ≡ true → IsUtf8 bs
utf8_numeral bs h = IsUtf8-from_ascii bs (IsAscii-from_digits bs (numeral_is_plain bs h).digits)

first_not_plus : (bs : List ℕ) → IsPlain bs → get_or bs 0 0 ≢ 43
first_not_plus [] p = absurd (omega (arith, p.some))
first_not_plus (b ∷ bs) p = λ e. omega (arith, digit_from_value b p.digits.0)

number_read : (E : Type 0) (bs : List ℕ) (n : ℕ) → is_numeral bs ≡ true → (let r : Result ℕ E = Ok n in ParsesUnsigned 128 10 bs r) → bs ≡ decimal n
number_read E bs n h read =
    let p = numeral_is_plain bs h in
    let r : Result ℕ E = Ok n in
    let is : (AllDigits 10 bs × (0 < length bs) × (digits_value 10 bs < 2 ^ 128)) × (n ≡ digits_value 10 bs) = parse_plain (numerals_by_value _ tells_digits) 128 bs r read (first_not_plus bs p) in
    sym (ap decimal is.1 ∙ decimal_value bs p is.0.2)

differ : (E : Type 0) (e : E) (n : ℕ) → (let r : Result ℕ E = Err e in r) ≡ Ok n → ⊥
differ E e n h = absurd cc

not_read : {E : Type 0} (bs : List ℕ) (e : E) → (let r : Result ℕ E = Err e in ParsesUnsigned 128 10 bs r) → (n : ℕ) → n < 2 ^ 128 → bs ≢ decimal n
not_read {E} bs e read n small is = differ E e n (parse-decimal_wide 128 n bs _ small (omega arith) is read)

pub no_numeral : (bs : List ℕ) → is_numeral bs ≡ false → (n : ℕ) → n < 2 ^ 128 → bs ≢ decimal n
no_numeral bs h n small is = true≢false (sym (ap is_numeral is ∙ decimal_is_numeral n small) ∙ h)

-- what `parse` gives, read both ways
pub read_some : (E : Type 0) (bs s : List ℕ) (r : Result ℕ E) (o : Option ℕ) → o ≡ result_ok r → is_numeral bs ≡ true → s ≡ bs → ParsesUnsigned 128 10 s r → IfSome o (λ n. bs ≡ decimal n)
read_some E bs s (Ok n) o e h same read = subst (λ (x : Option ℕ). IfSome x (λ m. bs ≡ decimal m)) (sym e) (number_read E bs n h (subst (λ (l : List ℕ). let r : Result ℕ E = Ok n in ParsesUnsigned 128 10 l r) same read))
read_some E bs s (Err x) o e h same read = subst (λ (x : Option ℕ). IfSome x (λ m. bs ≡ decimal m)) (sym e) tt

pub read_none : (E : Type 0) (bs s : List ℕ) (r : Result ℕ E) (o : Option ℕ) → o ≡ result_ok r → s ≡ bs → ParsesUnsigned 128 10 s r → IfNone o ((n : ℕ) → n < 2 ^ 128 → bs ≢ decimal n)
read_none E bs s (Ok n) o e same read = subst (λ (x : Option ℕ). IfNone x ((n : ℕ) → n < 2 ^ 128 → bs ≢ decimal n)) (sym e) tt
read_none E bs s (Err x) o e same read =
    subst (λ (x : Option ℕ). IfNone x ((n : ℕ) → n < 2 ^ 128 → bs ≢ decimal n)) (sym e) (not_read bs x (subst (λ (l : List ℕ). let r : Result ℕ E = Err x in ParsesUnsigned 128 10 l r) same read))
