-- The least cubes over one cube of each of two lists.
use Rattle.std.specs.Prelude.{◌↔◌, List, Contains}
use Rattle.cca_base.specs.declared.cube.Pair.{Pair}
use Rattle.cca_base.specs.Cube.{AreInCubeOrder, IsPart, IsRising}
use Rattle.guard_compiler.specs.Cover.{IsCovered}

-- the cube is rising, and a cube of each list is a part of it
pub record IsOverBoth (firsts seconds : List (List Pair)) (cube : List Pair) : Type 0 where
  pub rising : IsRising cube
  pub first : IsCovered firsts cube
  pub second : IsCovered seconds cube

-- over both, and each part of it that is over both has all of it
pub record IsLeastOverBoth (firsts seconds : List (List Pair)) (cube : List Pair) : Type 0 where
  pub over : IsOverBoth firsts seconds cube
  pub least : (part : List Pair) → IsPart part cube → IsOverBoth firsts seconds part → IsPart cube part

-- exactly the least cubes over both, in cube order
pub record AreLeastUnions (firsts seconds cubes : List (List Pair)) : Type 0 where
  pub in_order : AreInCubeOrder cubes
  pub each : (cube : List Pair) → Contains cubes cube ↔ IsLeastOverBoth firsts seconds cube
