-- What is answered for a goal.
use Rattle.std.specs.Prelude.{List, All}
use Rattle.cca_base.specs.declared.cube.Pair.{Pair}
use Rattle.cca_base.specs.declared.events.Reply.{Reply}
use Rattle.cca_base.specs.declared.events.Reply.TheVariants as reply
use Rattle.cca_base.specs.Accepted.{CompiledModel}
use Rattle.cca_base.specs.Model.{HasMode}
use Rattle.cca_base.specs.Orders.{AreInOrder}
use Rattle.reach_laws.specs.Cells.{Cells, cell_at}
use Rattle.reach_laws.specs.Classes.{Test}
use Rattle.reach_laws.specs.Plans.{IsSoundGoal}
use Rattle.reversibility.specs.ClassParts.{in_row}
use Rattle.policy_tables.specs.Tables.{TableParts}
use Rattle.planner_step.specs.declared.answer.Answer.{Answer}
use Rattle.planner_step.specs.declared.answer.Answer.TheVariants.{Send, Achieved, Unreachable}

-- the cells of the tables
abbrev pub cells_of : TableParts → Cells
cells_of t = cell_at t.classes.compiled.model t.cells

-- the classes of the tables, as a test
abbrev pub member_of : TableParts → Test
member_of t = in_row t.classes.rows

-- the answer as a reply
abbrev pub reply_of : Answer → Reply
reply_of (Send k) = reply.Send k
reply_of Achieved = reply.Achieved
reply_of (Unreachable c mode) = reply.Unreachable c mode

-- a sorted goal of modes that are not broken
pub record IsGoal (b : CompiledModel) (goal : List Pair) : Type 0 where
  pub in_order : AreInOrder b.order goal
  pub modes : All (λ p. HasMode b.model p.item p.value) goal
  pub sound : IsSoundGoal b.model goal
