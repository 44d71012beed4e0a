-- Cubes that have given cubes as parts.
use Rattle.std.specs.Prelude.{◌≡◌, ◌&&◌, ◌==◌, Bool, if◌then◌else◌, List, [], ◌∷◌, length, All, Contains}
use Rattle.cca_base.specs.declared.cube.Pair.{Pair}
use Rattle.cca_base.specs.Cube.{AreInCubeOrder, IsPart, IsRising}

-- the cube is rising, and has the two as parts
pub record IsOver (a b cube : List Pair) : Type 0 where
  pub rising : IsRising cube
  pub first : IsPart a cube
  pub second : IsPart b cube

-- over the two, and a part of each cube that is
pub record IsLeastOver (a b cube : List Pair) : Type 0 where
  pub over : IsOver a b cube
  pub least : (other : List Pair) → IsOver a b other → IsPart cube other

-- one of the cubes is a part of the cube
pub record IsCovered (cubes : List (List Pair)) (cube : List Pair) : Type 0 where
  pub part : List Pair
  pub among : Contains cubes part
  pub is_part : IsPart part cube

-- rising cubes in cube order, of which none is a part of another
pub record AreApart (cubes : List (List Pair)) : Type 0 where
  pub rising : All IsRising cubes
  pub in_order : AreInCubeOrder cubes
  pub apart : (a b : List Pair) → Contains cubes a → Contains cubes b → IsPart a b → a ≡ b

-- whether the two pairs are one
abbrev pub is_same_pair : Pair → Pair → Bool
is_same_pair p q = (p.item == q.item) && (p.value == q.value)

-- the pairs without the first, if that is the pair
abbrev pub without_first : Pair → List Pair → List Pair
without_first p [] = []
without_first p (q ∷ rest) = if is_same_pair p q then rest else q ∷ rest

-- whether the pairs are some of the cube's, in its order
abbrev pub is_subsequence : List Pair → List Pair → Bool
is_subsequence part [] = length part == 0
is_subsequence part (p ∷ cube) = is_subsequence (without_first p part) cube
