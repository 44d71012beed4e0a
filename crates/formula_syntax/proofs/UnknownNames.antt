-- Names that are looked up and aren't there.
use Rattle.std.proofs.Common.{◌≡◌, ℕ, suc, ◌+◌, ◌<◌, ◌≤◌, Bool, true, false, not, ◌&&◌, List, [], ◌∷◌, ◌++◌, length, map, None, IsTrue, All, refl, ap, arith}
use Rattle.std.specs.Prelude.{position, nat_lt, nat_le}
use Rattle.std.specs.List.{prefix_len}
use Rattle.std.specs.Str.{bytes_eq}
use Rattle.std.proofs.lemmas.Bool.{ltb-true, leb-true, and_parts}
use Rattle.std.proofs.lemmas.List.Elements.{All-head, All-tail, All-cons, All-nil}
use Rattle.std.proofs.lemmas.Slice.Eq.{bytes_eq-Decides}
use Rattle.cca_base.specs.declared.limits.TheConstants.{MAX_NAME}
use Rattle.cca_base.specs.PlantModel.{PlantModel}
use Rattle.cca_base.specs.Names.{is_name, is_word, is_reserved}
use Rattle.cca_base.specs.Model.{WellFormed}
use Rattle.formula_syntax.specs.Lookups.{subject_of}

all_fail : {X : Type 0} (p : X → Bool) (xs : List X) → All (λ x. p x ≡ false) xs → prefix_len (λ x. not (p x)) xs ≡ length xs
all_fail p [] h = refl
all_fail p (x ∷ xs) h =
    let e : p x ≡ false = All-head (λ x. p x ≡ false) x xs h in
    let ih = all_fail p xs (All-tail (λ x. p x ≡ false) x xs h) in
    let s : 1 + prefix_len (λ x. not (p x)) xs ≡ suc (length xs) = omega (arith, ih) in
    rw e s

not_below : (n : ℕ) → nat_lt n n ≡ false
not_below n = elim (nat_lt n n) as (λ b. nat_lt n n ≡ b → b ≡ false) [ true ↦ (λ e. absurd (omega (arith, ltb-true n n e))) | false ↦ (λ e. refl) ] refl

pub position_none : {X : Type 0} (p : X → Bool) (xs : List X) → All (λ x. p x ≡ false) xs → position p xs ≡ None
position_none p xs h = rw (all_fail p xs h) (rw (not_below (length xs)) refl)

pub different_text : (a b : List ℕ) → (a ≡ b → ⊥) → bytes_eq a b ≡ false
different_text a b h = elim (bytes_eq a b) as (λ t. bytes_eq a b ≡ t → t ≡ false) [ true ↦ (λ e. absurd (h ((bytes_eq-Decides a b).0 e))) | false ↦ (λ e. refl) ] refl

name_short : (name : List ℕ) → IsTrue (is_name name) → length name ≤ MAX_NAME
name_short name h =
    let p = and_parts (is_word name) (nat_le (length name) MAX_NAME && not (is_reserved name)) h in
    let q = and_parts (nat_le (length name) MAX_NAME) (not (is_reserved name)) p.1 in
    leb-true (length name) MAX_NAME q.0

abbrev pub AllNamed : List (List ℕ) → Type 0
AllNamed names = All (λ name. IsTrue (is_name name)) names

pub not_long : (name text : List ℕ) → IsTrue (is_name name) → MAX_NAME < length text → bytes_eq name text ≡ false
not_long name text h long = different_text name text (λ e. let short = name_short name h in omega (arith, short, ap length e))

none_long : {X : Type 0} (f : X → List ℕ) (text : List ℕ) (xs : List X) (ys : List (List ℕ)) → MAX_NAME < length text → AllNamed (map f xs ++ ys) → All (λ x. bytes_eq (f x) text ≡ false) xs
none_long f text [] ys long h = All-nil (λ x. bytes_eq (f x) text ≡ false)
none_long f text (x ∷ xs) ys long h =
    All-cons (λ x. bytes_eq (f x) text ≡ false) x xs
    (not_long (f x) text (All-head (λ name. IsTrue (is_name name)) (f x) (map f xs ++ ys) h) long)
    (none_long f text xs ys long (All-tail (λ name. IsTrue (is_name name)) (f x) (map f xs ++ ys) h))

behind_named : (xs ys : List (List ℕ)) → AllNamed (xs ++ ys) → AllNamed ys
behind_named [] ys h = h
behind_named (x ∷ xs) ys h = behind_named xs ys (All-tail (λ name. IsTrue (is_name name)) x (xs ++ ys) h)

in_front : (xs : List (List ℕ)) → AllNamed xs → AllNamed (xs ++ [])
in_front [] h = h
in_front (x ∷ xs) h =
    All-cons (λ name. IsTrue (is_name name)) x (xs ++ []) (All-head (λ name. IsTrue (is_name name)) x xs h) (in_front xs (All-tail (λ name. IsTrue (is_name name)) x xs h))

pub long_is_unknown : (m : PlantModel) (text : List ℕ) → WellFormed m → MAX_NAME < length text → subject_of m text ≡ None
long_is_unknown m text h long =
    let a = position_none (λ c. bytes_eq c.name text) m.components (none_long (λ c. c.name) text m.components (map (λ v. v.name) m.variables) long h.names.each) in
    let b = position_none (λ v. bytes_eq v.name text) m.variables
    (none_long (λ v. v.name) text m.variables [] long (in_front (map (λ v. v.name) m.variables) (behind_named (map (λ c. c.name) m.components) (map (λ v. v.name) m.variables) h.names.each))) in
    rw (a, b) refl
