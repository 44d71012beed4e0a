-- The names printed of a set are no longer than those from which it was read.
use Rattle.std.proofs.Common.{◌≡◌, ℕ, zero, suc, ◌+◌, ◌<◌, ◌≤◌, Bool, true, false, cond, ◌||◌, List, [], ◌∷◌, length, Option, Some, None, get_or, refl, ap, ◌∙◌, arith, eqb, eq-eqb}
use Rattle.std.specs.Str.{bytes_eq}
use Rattle.std.proofs.lemmas.Bool.{eqb-true}
use Rattle.std.proofs.lemmas.List.Quantifiers.{position-Some}
use Rattle.std.proofs.lemmas.Slice.Eq.{bytes_eq-Decides}
use Rattle.cca_base.specs.declared.formula.Subject.{Subject}
use Rattle.cca_base.specs.PlantModel.{PlantModel}
use Rattle.cca_base.specs.Sets.{has, with_number}
use Rattle.cca_base.proofs.SetLaws.{has-with_number, has-empty}
use Rattle.formula_syntax.specs.Lookups.{choices_of, value_of}
use Rattle.formula_syntax.specs.Meanings.{with_found, with_numbers}
use Rattle.model_syntax.specs.Printing.{names_in}

-- how long names are, each with a comma
abbrev pub tally : List (List ℕ) → ℕ
tally [] = 0
tally (name ∷ names) = length name + 1 + tally names

-- ---- a set with one number more

apart : (a b : ℕ) → (a ≡ b → ⊥) → eqb a b ≡ false
apart a b h = elim (eqb a b) as (λ t. eqb a b ≡ t → t ≡ false) [ true ↦ (λ e. absurd (h (eqb-true a b e))) | false ↦ (λ e. refl) ] refl

other : (set k j : ℕ) → (j ≡ k → ⊥) → has (with_number set k) j ≡ has set j
other set k j h = has-with_number set k j ∙ ap (λ (b : Bool). b || has set j) (apart j k h)

itself : (set k : ℕ) → has (with_number set k) k ≡ true
itself set k = has-with_number set k k ∙ ap (λ (b : Bool). b || has set k) (eq-eqb k k refl)

names_none : (names : List (List ℕ)) (j : ℕ) → names_in j names 0 ≡ []
names_none [] j = refl
names_none (name ∷ names) j = rw (has-empty j) (names_none names (j + 1))

-- a number below all others adds no name
names_below : (names : List (List ℕ)) (set j k : ℕ) → k < j → names_in j names (with_number set k) ≡ names_in j names set
names_below [] set j k h = refl
names_below (name ∷ names) set j k h =
    let e : has (with_number set k) j ≡ has set j = other set k j (λ s. omega (arith, s)) in
    rw e (ap (λ (x : List (List ℕ)). cond (has set j) (name ∷ x) x) (names_below names set (j + 1) k (omega arith)))

-- the name at a number adds its length
more_tally : (names : List (List ℕ)) (set j i : ℕ) → i < length names
    → tally (names_in j names (with_number set (j + i))) ≤ tally (names_in j names set) + (length (get_or names i []) + 1)
more_tally [] set j i h = absurd (omega arith)
more_tally (name ∷ names) set j zero h =
    let n : j + zero ≡ j = omega arith in
    rw (n, itself set j, names_below names set (j + 1) j (omega arith)) (head (has set j))
  where
    head : (b : Bool) → length name + 1 + tally (names_in (j + 1) names set) ≤ tally (cond b (name ∷ names_in (j + 1) names set) (names_in (j + 1) names set)) + (length name + 1)
    head true = omega arith
    head false = omega arith
more_tally (name ∷ names) set j (suc i) h =
    let n : j + 1 + i ≡ j + suc i = omega arith in
    let ih = more_tally names set (j + 1) i (omega arith) in
    let k = j + suc i in
    rw (other set k j (λ s. omega (arith, s))) (tail (has set j) (names_in (j + 1) names (with_number set k)) (names_in (j + 1) names set) (rw n at ih))
  where
    tail : (b : Bool) (xs ys : List (List ℕ)) → tally xs ≤ tally ys + (length (get_or names i []) + 1) → tally (cond b (name ∷ xs) xs) ≤ tally (cond b (name ∷ ys) ys) + (length (get_or names i []) + 1)
    tail true xs ys g = omega arith
    tail false xs ys g = g

-- the name at a number, alone
only_name : (names : List (List ℕ)) (j i : ℕ) → i < length names → names_in j names (with_number 0 (j + i)) ≡ get_or names i [] ∷ []
only_name [] j i h = absurd (omega arith)
only_name (name ∷ names) j zero h =
    let n : j + zero ≡ j = omega arith in
    rw (n, itself 0 j, names_below names 0 (j + 1) j (omega arith), names_none names (j + 1)) refl
only_name (name ∷ names) j (suc i) h =
    let n : j + 1 + i ≡ j + suc i = omega arith in
    rw (other 0 (j + suc i) j (λ s. omega (arith, s)), has-empty j) (rw n at (only_name names (j + 1) i (omega arith)))

-- ---- sets that are read

module _ (m : PlantModel) (s : Subject) where
  abbrev choices : List (List ℕ)
  choices = choices_of m s

  found : (text : List ℕ) (k : ℕ) → value_of m s text ≡ Some k → (k < length choices) × (get_or choices k [] ≡ text)
  found text k h =
      let none : List ℕ = [] in
      let p = position-Some (λ name. bytes_eq name text) choices k none h in
      (p.0, (bytes_eq-Decides (get_or choices k none) text).0 p.1)

  one_more : (text : List ℕ) (set : ℕ) (o : Option ℕ) → value_of m s text ≡ o → tally (names_in 0 choices (with_found set o)) ≤ tally (names_in 0 choices set) + (length text + 1)
  one_more text set None h = omega arith
  one_more text set (Some k) h =
      let f = found text k h in
      let n : 0 + k ≡ k = omega arith in
      let t = rw n at (more_tally choices set 0 k f.0) in
      omega (arith, t, ap (λ (x : List ℕ). length x) f.1)

  all_more : (texts : List (List ℕ)) (set : ℕ) → tally (names_in 0 choices (with_numbers m s set texts)) ≤ tally (names_in 0 choices set) + tally texts
  all_more [] set = omega arith
  all_more (text ∷ texts) set = omega (arith, one_more text set (value_of m s text) refl, all_more texts (with_found set (value_of m s text)))

  -- the names of the set that some texts make
  pub set_tally : (texts : List (List ℕ)) → tally (names_in 0 choices (with_numbers m s 0 texts)) ≤ tally texts
  set_tally texts = omega (arith, all_more texts 0, ap tally (names_none choices 0))

  -- the name of the set that one text makes
  pub one_text : (text : List ℕ) (k : ℕ) → value_of m s text ≡ Some k → names_in 0 choices (with_numbers m s 0 (text ∷ [])) ≡ text ∷ []
  one_text text k h =
      let f = found text k h in
      let n : 0 + k ≡ k = omega arith in
      let alone : names_in 0 choices (with_number 0 k) ≡ text ∷ [] = rw n at (only_name choices 0 k f.0) ∙ ap (λ (x : List ℕ). x ∷ []) f.1 in
      ap (λ (o : Option ℕ). names_in 0 choices (with_found 0 o)) h ∙ alone
