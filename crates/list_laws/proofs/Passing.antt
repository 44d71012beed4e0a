-- Elements that pass a test, where some of a list do, all do or none does.
use Rattle.std.proofs.Common.{◌≡◌, true, false, Bool, List, [], ◌∷◌, All, Contains}
use Rattle.std.specs.List.{list_all, list_any}
use Rattle.std.proofs.lemmas.Bool.{or_parts}
use Rattle.std.proofs.lemmas.List.Elements.{All-contains, All-cons, All-nil, All-weaker}
use Rattle.std.proofs.lemmas.List.Folds.{Any-from_list_any, list_any-from_Any}
use Rattle.std.proofs.lemmas.List.Sums.{AllPass-from_list_all, list_all-from_AllPass}

pub some_passes : {X : Type 0} (test : X → Bool) (xs : List X) (x : X) → Contains xs x → test x ≡ true → list_any test xs ≡ true
some_passes test xs x among passes = list_any-from_Any test xs (among.0, x, among.1, among.2, passes)

pub passes_some : {X : Type 0} (test : X → Bool) (xs : List X) → list_any test xs ≡ true → (x : X) × Contains xs x × (test x ≡ true)
passes_some test xs h = let found = Any-from_list_any test xs h in (found.1, (found.0, found.2, found.3), found.4)

pub none_passes : {X : Type 0} (test : X → Bool) (xs : List X) → list_any test xs ≡ false → All (λ x. test x ≡ false) xs
none_passes test [] h = All-nil (λ x. test x ≡ false)
none_passes test (x ∷ xs) h = let both = or_parts (test x) (list_any test xs) h in All-cons (λ y. test y ≡ false) x xs both.0 (none_passes test xs both.1)

pub each_passes : {X : Type 0} (test : X → Bool) (xs : List X) (x : X) → list_all test xs ≡ true → Contains xs x → test x ≡ true
each_passes test xs x h among = All-contains (λ y. test y ≡ true) xs x (AllPass-from_list_all test xs h) among

-- what passes one test passes another, so a list does
pub all_pass_too : {X : Type 0} (test other : X → Bool) → ((x : X) → test x ≡ true → other x ≡ true) → (xs : List X) → list_all test xs ≡ true → list_all other xs ≡ true
all_pass_too test other step xs h = list_all-from_AllPass other xs (All-weaker (λ x. test x ≡ true) (λ x. other x ≡ true) (λ x. step x) xs (AllPass-from_list_all test xs h))
