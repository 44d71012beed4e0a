-- A list without repeats is no longer than one that has all its members.
use Rattle.std.proofs.Common.{◌≡◌, ◌≢◌, ℕ, zero, suc, ◌<◌, ◌≤◌, List, [], ◌∷◌, length, refl, sym, ◌∙◌, ap, arith, get_or, All, AllPairs, Contains, inl, inr}
use Rattle.std.proofs.lemmas.List.{get_or_default}
use Rattle.std.proofs.lemmas.List.Elements.{All-contains}
use Rattle.std.specs.Cmp.Lexicographic.{slice_cmp}
use Rattle.std.specs.declared.cmp.Ordering.TheVariants.{Less, Equal}
use Rattle.std.specs.Cmp.{nat_cmp_is}
use Rattle.cca_base.specs.declared.cube.Pair.{Pair}
use Rattle.cca_base.specs.Cube.{cube_cmp, pair_cmp, IsBeforeCube, AreInCubeOrder}
use Rattle.list_laws.proofs.Pairwise.{AllPairs-head, AllPairs-tail}
use Rattle.list_laws.proofs.Members.{all_from, contains_cases, contains_here, contains_there, contains_none}

-- the list without the member at k
abbrev without_at : {X : Type 0} → List X → ℕ → List X
without_at [] k = []
without_at (x ∷ xs) zero = xs
without_at (x ∷ xs) (suc k) = x ∷ without_at xs k

length-without_at : {X : Type 0} (xs : List X) (k : ℕ) → k < length xs → suc (length (without_at xs k)) ≡ length xs
length-without_at [] k h = absurd (omega arith)
length-without_at (x ∷ xs) zero h = refl
length-without_at (x ∷ xs) (suc k) h = ap suc (length-without_at xs k (omega arith))

still_there : {X : Type 0} (xs : List X) (k : ℕ) (y : X) → Contains xs y → get_or xs k y ≢ y → Contains (without_at xs k) y
still_there [] k y m n = absurd (contains_none y m)
still_there (x ∷ xs) zero y m n = elim (contains_cases x y xs m) [ inl e ↦ absurd (n e) | inr there ↦ there ]
still_there (x ∷ xs) (suc k) y m n = elim (contains_cases x y xs m) [
  | inl e ↦ contains_here x y (without_at xs k) e
  | inr there ↦ contains_there x y (without_at xs k) (still_there xs k y there n)
]

no_longer : {X : Type 0} (firsts others : List X) → AllPairs (λ a b. a ≢ b) firsts → All (Contains others) firsts → length firsts ≤ length others
no_longer [] others d m = omega arith
no_longer {X} (a ∷ firsts) others d m =
    let at : Contains others a = m 0 a (omega arith) in
    let rest : All (Contains (without_at others at.0)) firsts =
    all_from (Contains (without_at others at.0)) firsts (λ y h. still_there others at.0 y (All-contains (Contains others) firsts y (λ k e l. m (suc k) e (omega arith)) h)
    (λ e. All-contains (λ y. a ≢ y) firsts y (AllPairs-head (λ a b. a ≢ b) a firsts d) h (sym at.2 ∙ get_or_default others at.0 a y at.1 ∙ e))) in
    omega (arith, no_longer firsts (without_at others at.0) (AllPairs-tail (λ a b. a ≢ b) a firsts d) rest, length-without_at others at.0 at.1)

slice_cmp-self : (ps : List Pair) → slice_cmp pair_cmp ps ps ≡ Equal
slice_cmp-self [] = refl
slice_cmp-self (p ∷ ps) = rw (sym (nat_cmp_is p.item p.item Equal refl), sym (nat_cmp_is p.value p.value Equal refl), slice_cmp-self ps)

cube_cmp-self : (ps : List Pair) → cube_cmp ps ps ≡ Equal
cube_cmp-self ps = rw (sym (nat_cmp_is (length ps) (length ps) Equal refl), slice_cmp-self ps)

differs : (a b : List Pair) → IsBeforeCube a b → a ≢ b
differs a b h e = let same : cube_cmp a a ≡ Less = ap (cube_cmp a) e ∙ h in let self = cube_cmp-self a in cc

-- more cubes in order are not all among fewer
pub not_among_fewer : (firsts others : List (List Pair)) (most : ℕ) → AreInCubeOrder firsts → All (Contains others) firsts → most < length firsts → length others ≤ most → ⊥
not_among_fewer firsts others most up m many few = omega (arith, no_longer firsts others (λ i j d h l. differs _ _ (up i j d h l)) m, many, few)
