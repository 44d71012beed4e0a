-- Classes, as contracts see them.
use Rattle.std.specs.Prelude.{◌≡◌, ◌↔◌, ◌<◌, ℕ, Bool, true, List, length, slice_index}
use Rattle.cca_base.specs.Accepted.{CompiledModel, IsCompiled}
use Rattle.cca_base.specs.Flags.{is_set}
use Rattle.cca_base.specs.Model.{is_broken}
use Rattle.cca_base.specs.Sets.{has}
use Rattle.cca_base.specs.State.{IsState}
use Rattle.reach_laws.specs.Classes.{Test, IsHome, AreClasses, IsOnWay, Covers}

-- the sets of modes, as a test
abbrev pub in_row : List ℕ → Test
in_row rows c x = has (slice_index rows c) x

-- what classes are of, around which state, the set of each component, the broken modes of its open chain, and whether it can be mended
pub record ClassParts : Type 0 where
  pub compiled : CompiledModel
  pub base : List ℕ
  pub rows : List ℕ
  pub chains : List ℕ
  pub mendable : List Bool

-- the sets are the classes around the base, and the broken modes of its open chains; what can be mended is what is broken there and has
-- a home
pub record IsClasses (c : ClassParts) : Type 0 where
  pub compiled : IsCompiled c.compiled
  pub grounded : IsState c.compiled.model c.base
  pub rows_full : length c.rows ≡ length c.compiled.model.components
  pub chains_full : length c.chains ≡ length c.compiled.model.components
  pub chains : (u x : ℕ) → u < length c.compiled.model.components → (in_row c.chains u x ≡ true) ↔ IsOnWay c.compiled.model c.base (in_row c.rows) u x
  pub mendable_full : length c.mendable ≡ length c.compiled.model.components
  pub classes : AreClasses c.compiled.model c.base (in_row c.rows)
  pub mendable : (u : ℕ) → u < length c.compiled.model.components
      → (is_set c.mendable u ≡ true)
      ↔ ((is_broken c.compiled.model.moves u (slice_index c.base u) ≡ true) × ((a : ℕ) × IsHome c.compiled.model c.base (in_row c.rows) u a))

-- the state is of the model, and the classes cover it
pub record CoversState (c : ClassParts) (s : List ℕ) : Type 0 where
  pub state : IsState c.compiled.model s
  pub covers : Covers c.compiled.model c.base (in_row c.rows) s
