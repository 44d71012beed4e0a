-- What stands ready for the turns of a program.
use Rattle.std.specs.Prelude.{◌≡◌, List, length, map, Option, All}
use Rattle.std.specs.List.{AllZip}
use Rattle.bounded_list.specs.Bounded.{Bounded}
use Rattle.cca_base.specs.declared.cube.Pair.{Pair}
use Rattle.cca_base.specs.PlantModel.{PlantModel}
use Rattle.clause_form.specs.declared.clause.Clauses.{Clauses}
use Rattle.consistency.specs.declared.world_space.WorldSpace.{WorldSpace}
use Rattle.consistency.specs.Spaces.{IsWorldSpace}
use Rattle.consistency.specs.Worlds.{AreWorldsOf}
use Rattle.control_laws.specs.Rest.{Rest as rest}
use Rattle.control_program.specs.declared.asking.Asking.{Asking}
use Rattle.control_program.specs.declared.asking.Course.{Course}
use Rattle.control_program.specs.declared.nodes.Node.{Node}
use Rattle.control_program.specs.declared.turn_room.TurnRoom.{TurnRoom}
use Rattle.control_program.specs.Goals.{FitsRoom}
use Rattle.control_program.specs.Questions.{IsAmong, IsDenied, node_question, questions}

-- memory for questions of the model's worlds, whichever clauses say what its rules say
abbrev pub IsSpaceOf : PlantModel → WorldSpace → Type 0
IsSpaceOf m space = (worlds : Clauses) → AreWorldsOf m worlds → IsWorldSpace worlds space

-- room for the turns of a program with a model: the denial of each formula that it asks, in the order of its lines, and room for its goals, for the modes of an estimate, and for worlds
pub record IsTurnRoomOf (m : PlantModel) (program : rest) (room : TurnRoom) : Type 0 where
  pub denials : AllZip (IsDenied m) (questions program) room.denials.items
  pub goals : All (IsAmong room.course.goal.room) (questions program)
  pub modes : length room.modes.items ≡ length m.components
  pub worlds : IsSpaceOf m room.course.space

-- the goal of the last turn
abbrev pub goal_in : TurnRoom → List Pair
goal_in room = room.course.goal.items

-- the nodes' formulas have their denials, a goal has room for what they ask, and memory is there for questions of worlds
pub record IsRoom (m : PlantModel) (worlds : Clauses) (nodes : List Node) (denials : List (Option Clauses)) (goal : Bounded Pair) (space : WorldSpace) : Type 0 where
  pub denied : AllZip (IsDenied m) (map node_question nodes) denials
  pub among : All (IsAmong goal.room) (map node_question nodes)
  pub fits : FitsRoom goal
  pub memory : IsWorldSpace worlds space

-- the same of a turn
abbrev pub IsReady : Asking → Course → Type 0
IsReady a c = IsRoom a.model.now a.worlds.now a.nodes.now a.denials.now c.goal c.space
