-- Cubes of which there are more than so many.
use Rattle.std.specs.Prelude.{ℕ, ◌<◌, List, All, length}
use Rattle.cca_base.specs.declared.cube.Pair.{Pair}
use Rattle.cca_base.specs.Cube.{AreInCubeOrder}

-- more than so many cubes of which something is true
pub record AreMoreCubes (most : ℕ) (P : List Pair → Type 0) : Type 0 where
  pub cubes : List (List Pair)
  pub in_order : AreInCubeOrder cubes
  pub each : All P cubes
  pub many : most < length cubes
