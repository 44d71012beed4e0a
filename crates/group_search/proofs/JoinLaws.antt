-- Names of groups that are given anew, one after another.
use Rattle.std.proofs.Common.{◌≡◌, ℕ, ◌+◌, ◌<◌, ◌≤◌, ◌==◌, cond, eqb, List, [], ◌∷◌, ◌++◌, length, map, take, drop, get_or, set, All, refl, sym, ap, subst, ◌∙◌, arith}
use Rattle.std.proofs.lemmas.Bool.{cond-true, cond-false, eq-eqb, ne_eqb}
use Rattle.std.proofs.lemmas.List.{append-nil, drop_all, get_or_default, length-append, length-drop, length-map, length-take, map-id, set-get_or, take_all}
use Rattle.std.proofs.lemmas.List.Edits.{map_over_more}
use Rattle.std.proofs.lemmas.List.Elements.{All-cons, All-nil, All-same}
use Rattle.group_search.specs.Floors.{AreJoined}

-- the name, or another where it is the one that goes
abbrev pub renamed : ℕ → ℕ → ℕ → ℕ
renamed from to n = cond (n == from) to n

map_twice : (f g : ℕ → ℕ) (xs : List ℕ) → map g (map f xs) ≡ map (λ n. g (f n)) xs
map_twice f g [] = refl
map_twice f g (x ∷ xs) = ap (λ rest. g (f x) ∷ rest) (map_twice f g xs)

pub joined_none : (old : List ℕ) → AreJoined old old
joined_none old = ((λ n. n), sym (map-id old))

pub joined_long : (old new : List ℕ) → AreJoined old new → length new ≡ length old
joined_long old new h = ap length h.1 ∙ length-map old h.0

-- joined once more
pub joined_twice : (old mid new : List ℕ) → AreJoined old mid → AreJoined mid new → AreJoined old new
joined_twice old mid new h k = ((λ n. k.0 (h.0 n)), k.1 ∙ ap (map k.0) h.1 ∙ map_twice h.0 k.0 old)

pub joined_by : (old mid new : List ℕ) (f : ℕ → ℕ) → AreJoined old mid → new ≡ map f mid → AreJoined old new
joined_by old mid new f h e = joined_twice old mid new h (f, e)

-- ---- the turns of the loops

over_long : (f : ℕ → ℕ) (old : List ℕ) (i : ℕ) → i < length old → length (map f (take i old) ++ drop i old) ≡ length old
over_long f old i h = omega (arith, length-append (map f (take i old)) (drop i old), length-map (take i old) f, length-take i old, length-drop i old)

-- the name at the place is the one that goes
pub renames_there : (from to : ℕ) (old names : List ℕ) (i x : ℕ) → i < length old → names ≡ map (renamed from to) (take i old) ++ drop i old → x ≡ get_or names i x → x ≡ from
    → set names i to ≡ map (renamed from to) (take (i + 1) old) ++ drop (i + 1) old
renames_there from to old names i x within before read is =
    subst (λ z. set names i z ≡ map (renamed from to) (take (i + 1) old) ++ drop (i + 1) old) (cond-true (eqb x from) to x (eq-eqb x from is))
    (map_over_more (renamed from to) old names i x within before read)

-- it is another one
pub renames_not : (from to : ℕ) (old names : List ℕ) (i x : ℕ) → i < length old → names ≡ map (renamed from to) (take i old) ++ drop i old → x ≡ get_or names i x → (x ≡ from → ⊥)
    → names ≡ map (renamed from to) (take (i + 1) old) ++ drop (i + 1) old
renames_not from to old names i x within before read other =
    let stays : set names i (renamed from to x) ≡ names = ap (set names i) (cond-false (eqb x from) to x (ne_eqb x from other) ∙ read) ∙ set-get_or names i x in
    sym stays ∙ map_over_more (renamed from to) old names i x within before read

pub zero_there : (old names : List ℕ) (i : ℕ) → i < length old → names ≡ map (λ n. 0) (take i old) ++ drop i old → set names i 0 ≡ map (λ n. 0) (take (i + 1) old) ++ drop (i + 1) old
zero_there old names i within before =
    let inside : i < length names = omega (arith, ap length before, over_long (λ n. 0) old i within) in
    map_over_more (λ n. 0) old names i (get_or names i 0) within before (get_or_default names i 0 (get_or names i 0) inside)

zero_map : (xs : List ℕ) → All (λ (name : ℕ). name ≡ 0) (map (λ (n : ℕ). 0) xs)
zero_map [] = All-nil (λ (name : ℕ). name ≡ 0)
zero_map (x ∷ xs) = All-cons (λ (name : ℕ). name ≡ 0) 0 (map (λ (n : ℕ). 0) xs) refl (zero_map xs)

-- after the last turn each name is 0
pub zero_all : (old names : List ℕ) (n : ℕ) → length old ≤ n → names ≡ map (λ n. 0) (take n old) ++ drop n old → All (λ name. name ≡ 0) names
zero_all old names n end is =
    let all : names ≡ map (λ n. 0) old = is ∙ ap (λ rest. map (λ n. 0) (take n old) ++ rest) (drop_all n old end) ∙ append-nil (map (λ n. 0) (take n old)) ∙ ap (map (λ n. 0)) (take_all n old end) in
    All-same (λ name. name ≡ 0) names (map (λ n. 0) old) all (zero_map old)
