-- What is kept of a program, in the words of the definitions, and that it fits the model.
use Rattle.std.specs.Prelude.{◌≡◌, ℕ, false, List, Option, Some, None, Result, Ok, Err, All, Contains}
use Rattle.cca_base.specs.declared.cube.Pair.{Pair}
use Rattle.cca_base.specs.Model.{HasMode, IsFormula, is_broken}
use Rattle.cca_base.specs.PlantModel.{PlantModel}
use Rattle.control_laws.specs.Asked.{pairs_left, pairs_of_left}
use Rattle.control_laws.specs.Rest.{whole}
use Rattle.control_laws.specs.Turns.{Control, fresh}
use Rattle.control_program.specs.Formulas.{formulas_left}
use Rattle.control_program.specs.Rooms.{IsTurnRoomOf}
use Rattle.control_syntax.specs.Codes.{IsSaid}
use Rattle.control_syntax.specs.Kept.{MayRunSoFar}
use Rattle.control_syntax.specs.Program.{MayRun}
use Rattle.control_syntax.specs.Reading.{Reading, led}
use Rattle.control_syntax.specs.declared.line.Line.{Line}
use Rattle.control_syntax.specs.declared.part.Part.{Part}
use Rattle.program_form.specs.ProgramMachine.{ProgramState, Stage as Where, Reads, Runs}
use Rattle.program_form.specs.declared.programmed.Stage.{Stage}
use Rattle.program_form.specs.declared.programmed.Stage.TheVariants as stages
use Rattle.program_form.specs.declared.running.Running.{Running}

-- the same in the words of the definitions
abbrev pub stage_of : Stage → Where
stage_of (stages.Reading reader) = Reads reader
stage_of (stages.Running running) = Runs running.runner

-- the program asks for pairs of the model that aren't broken, and waits on formulas of the model; what is left of it asks for no others
pub record RunsWell (m : PlantModel) (c : Control) : Type 0 where
  pub modes : All (λ p. HasMode m p.item p.value) (pairs_left c.program)
  pub sound : All (λ p. is_broken m.moves p.item p.value ≡ false) (pairs_left c.program)
  pub formulas : All (IsFormula m) (formulas_left c.program)
  pub left : (p : Pair) → Contains (pairs_of_left c.left) p → Contains (pairs_left c.program) p

-- a program that runs so has room for its turns
pub record RunsInRoom (m : PlantModel) (r : Running) : Type 0 where
  pub well : RunsWell m r.runner
  pub room : IsTurnRoomOf m r.runner.program r.room

-- what runs has room for its turns
abbrev pub HasRoom : PlantModel → Stage → Type 0
HasRoom m (stages.Reading reader) = Unit {0}
HasRoom m (stages.Running running) = IsTurnRoomOf m running.runner.program running.room

-- what is read so far fits the model, or what runs
abbrev pub FitsStage : PlantModel → Where → Type 0
FitsStage m (Reads y) = MayRunSoFar m y
FitsStage m (Runs c) = RunsWell m c

-- what a line of the program leaves: more of it is read; or it is whole, and this runner begins it; or the line's code, and all is as before
abbrev pub ReadsTo : PlantModel → Reading → List ℕ → Result (Option Control) ℕ → Reading → Type 0
ReadsTo m x line (Ok None) y = (said : Option Line) × IsSaid m x line (Ok said) × (y ≡ led x said) × (y.whole ≡ None)
ReadsTo m x line (Ok (Some runner)) y =
    (said : Option Line) × (part : Part) × IsSaid m x line (Ok said) × ((led x said).whole ≡ Some part) × (runner ≡ fresh (whole part)) × MayRun m part
ReadsTo m x line (Err code) y = IsSaid m x line (Err code) × (y ≡ x)

-- the same state, where this runner begins, if there is one
abbrev pub begun : Option Control → ProgramState → ProgramState
begun None x = x
begun (Some runner) x = record { compiled = x.compiled; state = x.state; stage = Runs runner }
