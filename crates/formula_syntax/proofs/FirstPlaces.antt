-- The first place in a list of views.
use Rattle.std.proofs.Common.{◌≡◌, ℕ, suc, ◌+◌, Bool, true, false, cond, not, List, [], ◌∷◌, ◌++◌, length, map, Option, Some, None, All, inl, inr, refl, sym, ap, ◌∙◌, add-one, arith}
use Rattle.std.specs.Prelude.{position, nat_lt}
use Rattle.std.specs.List.{prefix_len, position_or_len}
use Rattle.std.specs.Option.{option_map}
use Rattle.std.proofs.lemmas.Bool.{lt-ltb, le-ltb, cases_lt}
use Rattle.std.proofs.lemmas.List.{length-map}
use Rattle.std.proofs.lemmas.List.Elements.{All-nil, All-cons}
use Rattle.formula_syntax.specs.Lookups.{or_else}

prefix_map : {X Y : Type 0} (p : Y → Bool) (f : X → Y) (xs : List X) → prefix_len p (map f xs) ≡ prefix_len (λ x. p (f x)) xs
prefix_map p f [] = refl
prefix_map p f (x ∷ xs) = ap (λ n. cond (p (f x)) (1 + n) 0) (prefix_map p f xs)

abbrev found_at : ℕ → ℕ → Option ℕ
found_at n len = cond (nat_lt n len) (Some n) None

pub position_map : {X Y : Type 0} (p : Y → Bool) (f : X → Y) (xs : List X) → position p (map f xs) ≡ position (λ x. p (f x)) xs
position_map p f xs =
    ap (λ n. found_at n (length (map f xs))) (prefix_map (λ y. not (p y)) f xs)
    ∙ ap (found_at (position_or_len (λ x. p (f x)) xs)) (length-map xs f)

-- the first place in a longer list
pub position_cons : {X : Type 0} (p : X → Bool) (x : X) (xs : List X) → position p (x ∷ xs) ≡ cond (p x) (Some 0) (option_map (λ n. n + 1) (position p xs))
position_cons p x xs =
    let n : ℕ = prefix_len (λ y. not (p y)) xs in
    elim (p x) as (λ b. cond (nat_lt (cond (not b) (1 + n) 0) (suc (length xs))) (Some (cond (not b) (1 + n) 0)) None ≡ cond b (Some 0) (option_map (λ k. k + 1) (found_at n (length xs)))) [
      | true ↦ (let e : nat_lt 0 (suc (length xs)) ≡ true = lt-ltb 0 (suc (length xs)) (omega arith) in rw e refl)
      | false ↦ elim (cases_lt n (length xs)) [
        | inl h ↦ (let a : nat_lt (1 + n) (suc (length xs)) ≡ true = lt-ltb (1 + n) (suc (length xs)) (omega arith) in let b : 1 + n ≡ n + 1 = omega arith in rw (a, lt-ltb n (length xs) h) (ap (λ (k : ℕ). Some k) b))
        | inr h ↦ (let a : nat_lt (1 + n) (suc (length xs)) ≡ false = le-ltb (1 + n) (suc (length xs)) (omega arith) in rw (a, le-ltb n (length xs) h) refl)
      ]
    ]

-- the first place, with one more element behind
pub position_push : {X : Type 0} (p : X → Bool) (xs : List X) (x : X) → position p (xs ++ x ∷ []) ≡ or_else (position p xs) (cond (p x) (Some (length xs)) None)
position_push p [] x = position_cons p x []
position_push p (y ∷ xs) x =
    position_cons p y (xs ++ x ∷ [])
    ∙ ap (λ (o : Option ℕ). cond (p y) (Some 0) (option_map (λ n. n + 1) o)) (position_push p xs x)
    ∙ go (p y) (position p xs) (p x)
    ∙ ap (λ (o : Option ℕ). or_else o (cond (p x) (Some (suc (length xs))) None)) (sym (position_cons p y xs))
  where
    go : (b : Bool) (o : Option ℕ) (c : Bool) → cond b (Some 0) (option_map (λ n. n + 1) (or_else o (cond c (Some (length xs)) None))) ≡ or_else (cond b (Some 0) (option_map (λ n. n + 1) o)) (cond c (Some (suc (length xs))) None)
    go true o c = refl
    go false None true = ap (λ (k : ℕ). Some k) (add-one (length xs))
    go false None false = refl
    go false (Some k) c = refl

no_map : (o : Option ℕ) → option_map (λ (n : ℕ). n + 1) o ≡ None → o ≡ None
no_map None f = refl
no_map (Some k) f = absurd cc

first_fails : (b : Bool) (o : Option ℕ) → cond b (Some 0) (option_map (λ (n : ℕ). n + 1) o) ≡ None → (b ≡ false) × (o ≡ None)
first_fails true o e = absurd cc
first_fails false o e = (refl, no_map o e)

-- where there is no first place, no element passes
pub none_passes : {X : Type 0} (p : X → Bool) (xs : List X) → position p xs ≡ None → All (λ x. p x ≡ false) xs
none_passes p [] e = All-nil (λ x. p x ≡ false)
none_passes p (x ∷ xs) e =
    let f = first_fails (p x) (position p xs) (sym (position_cons p x xs) ∙ e) in
    All-cons (λ y. p y ≡ false) x xs f.0 (none_passes p xs f.1)
