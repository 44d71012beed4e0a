-- The room of a program's turns is ready for its runner's nodes, and a turn leaves it so.
use Rattle.std.proofs.Common.{◌≡◌, ◌<◌, Bool, eqb, List, [], length, map, Option, All, sym, ap, subst, ◌∙◌}
use Rattle.std.specs.List.{AllZip, IsDistinct}
use Rattle.std.proofs.lemmas.List.Elements.{All-nil}
use Rattle.bounded_list.specs.Bounded.{Bounded}
use Rattle.cca_base.specs.declared.cube.Pair.{Pair}
use Rattle.cca_base.specs.PlantModel.{PlantModel}
use Rattle.clause_form.specs.declared.clause.Clauses.{Clauses}
use Rattle.consistency.specs.Worlds.{AreWorldsOf}
use Rattle.control_laws.specs.Turns.{Control}
use Rattle.control_program.specs.declared.nodes.Mark.{Mark}
use Rattle.control_program.specs.declared.nodes.Node.{Node}
use Rattle.control_program.specs.declared.turn_room.TurnRoom.{TurnRoom}
use Rattle.control_program.specs.Goals.{FitsRoom}
use Rattle.control_program.specs.Questions.{IsAmong, IsDenied, node_question, questions}
use Rattle.control_program.specs.Rooms.{IsRoom, IsTurnRoomOf}
use Rattle.control_program.specs.Running.{RunsBy, control_of}
use Rattle.control_program.proofs.AskedParts.{questions_are}
use Rattle.control_program.proofs.SpaceLaws.{space_of_model}

no_goal_fits : (goal : Bounded Pair) → goal.items ≡ [] → FitsRoom goal
unfolding IsDistinct
no_goal_fits goal none = record {
  distinct = subst (λ l. IsDistinct eqb (map (λ p. p.item) l)) (sym none) tt;
  among = subst (All (λ p. p.item < goal.room)) (sym none) (All-nil (λ p. p.item < goal.room));
}

module _ (ns : List Node) (ms : List Mark) (over : Bool) (r : RunsBy ns ms over) (control : Control) (view : control_of ns ms ≡ control) (nodes : List Node) (same : nodes ≡ ns) where
  pub nodes_ask : map node_question nodes ≡ questions control.program
  nodes_ask = ap (map node_question) same ∙ questions_are ns ms over r ∙ ap (λ c. questions c.program) view

  module _ (m : PlantModel) (room : TurnRoom) (h : IsTurnRoomOf m control.program room) where
    -- each node's formula has its denial
    nodes_denied : (denials : List (Option Clauses)) → denials ≡ room.denials.items → AllZip (IsDenied m) (map node_question nodes) denials
    nodes_denied denials is =
        subst (λ ds. AllZip (IsDenied m) (map node_question nodes) ds) (sym is)
        (subst (λ qs. AllZip (IsDenied m) qs room.denials.items) (sym nodes_ask) h.denials)

    -- a goal without a pair has room for a turn
    pub room_ready : (worlds : Clauses) → AreWorldsOf m worlds → (denials : List (Option Clauses)) → denials ≡ room.denials.items → (goal : Bounded Pair) → goal.items ≡ []
        → goal.room ≡ room.course.goal.room → IsRoom m worlds nodes denials goal room.course.space
    room_ready worlds of denials has goal none is = record {
      denied = nodes_denied denials has;
      among = subst (λ n. All (IsAmong n) (map node_question nodes)) (sym is) (subst (All (IsAmong room.course.goal.room)) (sym nodes_ask) h.goals);
      fits = no_goal_fits goal none;
      memory = h.worlds worlds of;
    }

    -- it is the program's behind a turn
    pub room_kept : (worlds : Clauses) → AreWorldsOf m worlds → (new : TurnRoom) → new.denials.items ≡ room.denials.items → length new.modes.items ≡ length room.modes.items
        → (denials : List (Option Clauses)) → IsRoom m worlds nodes denials new.course.goal new.course.space → IsTurnRoomOf m control.program new
    room_kept worlds of new same_denials modes denials ready = record {
      denials = subst (AllZip (IsDenied m) (questions control.program)) (sym same_denials) h.denials;
      goals = subst (All (IsAmong new.course.goal.room)) nodes_ask ready.among;
      modes = modes ∙ h.modes;
      worlds = space_of_model m worlds new.course.space of ready.memory;
    }
