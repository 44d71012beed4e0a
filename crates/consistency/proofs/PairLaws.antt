-- Lists that have given pairs.
use Rattle.std.proofs.Common.{◌≡◌, inl, inr, ℕ, List, [], ◌∷◌, ◌++◌, slice_index, subst}
use Rattle.std.proofs.lemmas.List.Elements.{Contains-append_cases, Contains-append_left, Contains-append_right}
use Rattle.list_laws.proofs.Members.{contains_cases, contains_here, contains_none}
use Rattle.cca_base.specs.declared.cube.Pair.{Pair}
use Rattle.world_search.specs.Worlds.{HasAll}

-- a list has all of no pairs
pub has_none : (xs : List ℕ) → HasAll [] xs
has_none xs p among = absurd (contains_none p among)

-- what has the pairs and one more has them all with that behind them
pub has_more : (pairs : List Pair) (p : Pair) (xs : List ℕ) → HasAll pairs xs → slice_index xs p.item ≡ p.value → HasAll (pairs ++ p ∷ []) xs
has_more pairs p xs all last q among = elim (Contains-append_cases pairs (p ∷ []) q among) [
  | inl before ↦ all q before
  | inr behind ↦ elim (contains_cases p q [] behind) [
    | inl same ↦ subst (λ (r : Pair). slice_index xs r.item ≡ r.value) same last
    | inr none ↦ absurd (contains_none q none)
  ]
]

-- what has them all has those before the last one
pub has_fewer : (pairs : List Pair) (p : Pair) (xs : List ℕ) → HasAll (pairs ++ p ∷ []) xs → HasAll pairs xs
has_fewer pairs p xs all q among = all q (Contains-append_left pairs (p ∷ []) q among)

-- what has them all has the last one
pub has_last : (pairs : List Pair) (p : Pair) (xs : List ℕ) → HasAll (pairs ++ p ∷ []) xs → slice_index xs p.item ≡ p.value
has_last pairs p xs all = all p (Contains-append_right pairs (p ∷ []) p (contains_here p p [] (λ _. p)))
