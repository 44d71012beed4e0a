-- The goal of a turn, as pairs are asked for one after the other.
use Rattle.std.specs.Prelude.{◌==◌, ◌<◌, List, [], ◌∷◌, ◌++◌, cond, eqb, map, All}
use Rattle.std.specs.List.{IsDistinct, fold, list_any}
use Rattle.bounded_list.specs.Bounded.{Bounded}
use Rattle.cca_base.specs.declared.cube.Pair.{Pair}

-- the goal with a pair that is asked for: it stands behind the others, unless one of them is of its component
abbrev pub with_pair : List Pair → Pair → List Pair
with_pair goal p = cond (list_any (λ q. q.item == p.item) goal) goal (goal ++ p ∷ [])

-- the goal with pairs that are asked for one after the other
abbrev pub with_pairs : List Pair → List Pair → List Pair
with_pairs goal asked = fold with_pair goal asked

-- no component is named twice, and each is one of as many as there is room for: so there is room for one that isn't named
pub record FitsRoom (goal : Bounded Pair) : Type 0 where
  pub distinct : IsDistinct eqb (map (λ p. p.item) goal.items)
  pub among : All (λ p. p.item < goal.room) goal.items
