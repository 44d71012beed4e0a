-- What was read of a program may be run on the model.
use Rattle.std.specs.Prelude.{◌<◌, ◌≤◌, List, [], ◌∷◌, ◌++◌, length, flat_map, All, IfSome}
use Rattle.cca_base.specs.declared.cube.Pair.{Pair}
use Rattle.cca_base.specs.Cube.{IsCube}
use Rattle.cca_base.specs.Model.{IsFormula}
use Rattle.cca_base.specs.PlantModel.{PlantModel}
use Rattle.control_syntax.specs.declared.block.Block.{Block}
use Rattle.control_syntax.specs.declared.block.Kind.{Kind}
use Rattle.control_syntax.specs.declared.block.Kind.TheVariants as kind
use Rattle.control_syntax.specs.declared.part.Part.{Part}
use Rattle.control_syntax.specs.declared.part.Part.TheOpen.{Part-F}
use Rattle.control_syntax.specs.declared.part.Part.TheFolds.{fold-Part}
use Rattle.control_syntax.specs.Program.{MayRun}
use Rattle.control_syntax.specs.Reading.{Reading}

-- the goals that a part's `reach` lines ask for, of one layer
abbrev pub goals_step : Part-F (List (List Pair)) → List (List Pair)
goals_step (Part-F.Reach pairs) = pairs ∷ []
goals_step (Part-F.Await f) = []
goals_step (Part-F.Seq parts) = flat_map (λ gs. gs) parts
goals_step (Part-F.Both parts) = flat_map (λ gs. gs) parts
goals_step (Part-F.Choose f a b) = a ++ b
goals_step (Part-F.Repeat n a) = a

-- the goals that a program's `reach` lines ask for, one of each, in their order
abbrev pub goals_of : Part → List (List Pair)
goals_of = fold-Part (List (List Pair)) goals_step

-- a goal has a pair at least, and no component twice
abbrev pub IsGoal : List Pair → Type 0
IsGoal pairs = (0 < length pairs) × IsCube pairs

-- the part may be run on the model, and each of its `reach` lines asks for a goal
pub record IsSound (m : PlantModel) (part : Part) : Type 0 where
  pub may_run : MayRun m part
  pub goals : All IsGoal (goals_of part)

-- the words of an open block are sound, and what stands before its `otherwise`
abbrev pub IsSoundKind : PlantModel → Kind → Type 0
IsSoundKind m kind.Seq = Unit {0}
IsSoundKind m kind.Both = Unit {0}
IsSoundKind m (kind.Choose f) = IsFormula m f
IsSoundKind m (kind.Otherwise f first) = IsFormula m f × All (IsSound m) first
IsSoundKind m (kind.Repeat n) = 1 ≤ n

-- an open block is sound, with the parts read so far
abbrev pub IsSoundBlock : PlantModel → Block → Type 0
IsSoundBlock m b = IsSoundKind m b.kind × All (IsSound m) b.parts

-- all that was read of a program may be run on the model
pub record MayRunSoFar (m : PlantModel) (r : Reading) : Type 0 where
  pub parts : All (IsSound m) r.place.parts
  pub blocks : All (IsSoundBlock m) r.place.open_blocks
  pub whole : IfSome r.whole (IsSound m)
