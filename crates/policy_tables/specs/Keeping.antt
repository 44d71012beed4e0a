-- What the cells of a component rest on.
use Rattle.std.specs.Prelude.{◌≡◌, ◌↔◌, ◌<◌, ℕ, Bool, List, length, slice_get, slice_index, Some, All, Contains}
use Rattle.cca_base.specs.declared.cube.Pair.{Pair}
use Rattle.cca_base.specs.declared.model.Move.{Move}
use Rattle.cca_base.specs.Flags.{IsSet}
use Rattle.cca_base.specs.Implicants.{PrimeImplicant}
use Rattle.cca_base.specs.PlantModel.{PlantModel}
use Rattle.reach_laws.specs.Classes.{Test, AreInside}
use Rattle.reversibility.specs.ClassParts.{ClassParts, in_row}

-- each of the cubes is inside both classes or inside neither
abbrev pub AgreeOn : Test → Test → List (List Pair) → Type 0
AgreeOn one other cubes = All (λ cube. AreInside one cube ↔ AreInside other cube) cubes

-- the class of the component is the same, and each prime implicant of its moves is inside both classes or inside neither
pub record AgreeFor (m : PlantModel) (one other : Test) (c : ℕ) : Type 0 where
  pub class : (x : ℕ) → one c x ≡ other c x
  pub ways : (move : Move) → Contains m.moves move → move.component ≡ c → (cube : List Pair) → PrimeImplicant m move cube → AreInside one cube ↔ AreInside other cube

-- the class of the component and the broken modes of its open chain are the same
pub record HasSameSets (p q : ClassParts) (c : ℕ) : Type 0 where
  pub class : slice_index p.rows c ≡ slice_index q.rows c
  pub chain : slice_index p.chains c ≡ slice_index q.chains c

-- the component's sets are the same, and its moves are open alike, by the same prime implicants
pub record IsKept (p q : ClassParts) (c : ℕ) : Type 0 where
  pub sets : HasSameSets p q c
  pub agree : AgreeFor q.compiled.model (in_row p.rows) (in_row q.rows) c

-- what is flagged has the same sets, and its moves among the first ones are open alike
pub record AreKeptTo (p q : ClassParts) (flags : List Bool) (n : ℕ) : Type 0 where
  pub full : length flags ≡ length q.compiled.model.components
  pub sets : (c : ℕ) → IsSet flags c → HasSameSets p q c
  pub ways : (c : ℕ) → IsSet flags c → (i : ℕ) → i < n → (move : Move) → slice_get q.compiled.model.moves i ≡ Some move → move.component ≡ c
      → (cubes : List (List Pair)) → slice_get q.compiled.ways i ≡ Some cubes → AgreeOn (in_row p.rows) (in_row q.rows) cubes

-- a flag for each component, and what is flagged is kept
pub record AreKept (p q : ClassParts) (flags : List Bool) : Type 0 where
  pub full : length flags ≡ length q.compiled.model.components
  pub kept : (c : ℕ) → IsSet flags c → IsKept p q c
