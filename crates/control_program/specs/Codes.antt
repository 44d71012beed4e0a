-- What is left of a program has a code: its nodes in preorder give it back.
use Rattle.std.specs.Prelude.{◌≡◌, ◌⊎◌, ◌++◌, ℕ, Bool, true, false, List, [], ◌∷◌, Option, length, take, drop, refl}
use Rattle.std.specs.Coded.{Coded, code_by, coded×, coded⊎, coded_ℕ, coded_bool, coded_list, coded_option}
use Rattle.std.proofs.Common.{ap, ◌∙◌, inl, inr}
use Rattle.std.proofs.Math.Seq.{take-append_seam, drop-append_seam}
use Rattle.cca_base.specs.contracts.cube.Pair as pair
use Rattle.cca_base.specs.declared.cube.Pair.{Pair}
use Rattle.cca_base.specs.declared.formula.Formula.{Formula}
use Rattle.cca_base.specs.Coded.{formula_coded}
use Rattle.control_laws.specs.Rest.{Rest as rest, Rests as rests_type, rests}
use Rattle.control_laws.specs.Turns.{Control}
use Rattle.control_program.specs.Flat.{with_two}
use Rattle.control_program.specs.Marks.{several}

-- the pairs of a `reach`, the formula of an `await`, whether parts come one after the other and how many they are, the formula of a `choose`, the number of a `repeat`
abbrev pub Sign : Type 0
Sign = List Pair ⊎ (Formula ⊎ ((Bool × ℕ) ⊎ (Formula ⊎ ℕ)))

-- a sign has a code
abbrev pub sign_coded : Coded Sign
sign_coded = coded⊎ (coded_list pair.the_row.coded) (coded⊎ formula_coded (coded⊎ (coded× coded_bool coded_ℕ) (coded⊎ formula_coded coded_ℕ)))

-- several as a list
abbrev pub listed : rests_type → List rest
listed rests_type.none = []
listed (rests_type.more x xs) = x ∷ listed xs

unfoldable mutual
  -- the signs of a rest in front of others
  pub written : rest → List Sign → List Sign
  written (rest.Reach g) ss = inl g ∷ ss
  written (rest.Await f) ss = inr (inl f) ∷ ss
  written (rest.Seq xs) ss = inr (inr (inl (true, length (listed xs)))) ∷ all_written xs ss
  written (rest.Both xs) ss = inr (inr (inl (false, length (listed xs)))) ∷ all_written xs ss
  written (rest.Choose f a b) ss = inr (inr (inr (inl f))) ∷ written a (written b ss)
  written (rest.Repeat n body x) ss = inr (inr (inr (inr n))) ∷ written body (written x ss)

  -- the signs of several, one behind the other
  pub all_written : rests_type → List Sign → List Sign
  all_written rests_type.none ss = ss
  all_written (rests_type.more x xs) ss = written x (all_written xs ss)

-- a sign in front of the rests that were read behind it: a `repeat` has its body first, and then what is left of it
abbrev pub read_sign : Sign → List rest → List rest
read_sign (inl g) xs = rest.Reach g ∷ xs
read_sign (inr (inl f)) xs = rest.Await f ∷ xs
read_sign (inr (inr (inl p))) xs = several p.0 (rests (take p.1 xs)) ∷ drop p.1 xs
read_sign (inr (inr (inr (inl f)))) xs = with_two (rest.Choose f) xs
read_sign (inr (inr (inr (inr n)))) xs = with_two (rest.Repeat n) xs

-- the rests that signs stand for
abbrev pub read_signs : List Sign → List rest
read_signs [] = []
read_signs (s ∷ ss) = read_sign s (read_signs ss)

-- the first of them
abbrev pub first_rest : List rest → rest
first_rest [] = rest.Seq rests_type.none
first_rest (x ∷ xs) = x

pub rests-listed : (xs : rests_type) → rests (listed xs) ≡ xs
rests-listed rests_type.none = refl
rests-listed (rests_type.more x xs) = ap (rests_type.more x) (rests-listed xs)

pub read-several : (o : Bool) (xs : rests_type) (l ys : List rest) → l ≡ listed xs ++ ys
    → read_sign (inr (inr (inl (o, length (listed xs))))) l ≡ several o xs ∷ ys
read-several o xs l ys e =
    ap (read_sign (inr (inr (inl (o, length (listed xs)))))) e
    ∙ ap (λ s. several o (rests s) ∷ drop (length (listed xs)) (listed xs ++ ys)) (take-append_seam (listed xs) ys)
    ∙ ap (λ s. several o s ∷ drop (length (listed xs)) (listed xs ++ ys)) (rests-listed xs)
    ∙ ap (λ s. several o xs ∷ s) (drop-append_seam (listed xs) ys)

mutual
  unfolding written

  pub read-written : (x : rest) (ss : List Sign) → read_signs (written x ss) ≡ x ∷ read_signs ss
  read-written (rest.Reach g) ss = refl
  read-written (rest.Await f) ss = refl
  read-written (rest.Seq xs) ss = read-several true xs (read_signs (all_written xs ss)) (read_signs ss) (read-all_written xs ss)
  read-written (rest.Both xs) ss = read-several false xs (read_signs (all_written xs ss)) (read_signs ss) (read-all_written xs ss)
  read-written (rest.Choose f a b) ss = ap (with_two (rest.Choose f)) (read-written a (written b ss) ∙ ap (λ l. a ∷ l) (read-written b ss))
  read-written (rest.Repeat n body x) ss = ap (with_two (rest.Repeat n)) (read-written body (written x ss) ∙ ap (λ l. body ∷ l) (read-written x ss))

  pub read-all_written : (xs : rests_type) (ss : List Sign) → read_signs (all_written xs ss) ≡ listed xs ++ read_signs ss
  read-all_written rests_type.none ss = refl
  read-all_written (rests_type.more x xs) ss = read-written x (all_written xs ss) ∙ ap (λ l. x ∷ l) (read-all_written xs ss)

-- what is left of a program has a code
abbrev pub rest_coded : Coded rest
rest_coded = code_by (List Sign) (coded_list sign_coded) (λ x. written x []) (λ ss. first_rest (read_signs ss)) (λ x. ap first_rest (read-written x []))

-- a program with what is left of it
abbrev pub control_coded : Coded Control
control_coded = code_by (rest × Option rest) (coded× rest_coded (coded_option rest_coded)) (λ c. (c.program, c.left)) (λ p. record { program = p.0; left = p.1 }) (λ _. refl)
