-- One citation of each file of definitions.
use Rattle.std.specs.Prelude.{ℕ, List, [], ◌∷◌, Option}
use Rattle.cca_base.specs.declared.cube.Pair.{Pair}
use Rattle.cca_base.specs.declared.model.Move.{Move}
use Rattle.cca_base.specs.declared.events.Event.{Event}
use Rattle.cca_base.specs.declared.events.TickReport.{TickReport}
use Rattle.cca_base.specs.declared.events.Route.{Route}
use Rattle.cca_base.specs.Accepted.{CompiledModel, IsCompiled}
use Rattle.cca_base.specs.Bounds.{AreBounds}
use Rattle.cca_base.specs.Choice.{IsChosenReply}
use Rattle.cca_base.specs.Cube.{AreInCubeOrder}
use Rattle.cca_base.specs.Estimates.{Estimate, Unexplained}
use Rattle.cca_base.specs.Goals.{IsGoodReply}
use Rattle.cca_base.specs.Implicants.{PrimeImplicant, IsAcyclic}
use Rattle.cca_base.specs.Orders.{IsEffectsFirst, IsNextOf, IsSorted}
use Rattle.cca_base.specs.Plans.{IsRoute, IsFirstWorld}
use Rattle.cca_base.specs.Repairs.{Mending}
use Rattle.cca_base.specs.Runs.{Trace, KeepsPromises}
use Rattle.cca_base.specs.State.{Follows}
use Rattle.cca_base.specs.Steps.{AllowedPlan, Reach}
use Rattle.cca_base.specs.Successors.{Costs}
use Rattle.cca_base.specs.Trace.{MayCome, AllMayCome, start}
use Rattle.cca_base.specs.Shown.{IsShownCycle, IsShownClash}

-- a product of one definition of each file
abbrev pub Cited : Type 0
Cited =
    (b : CompiledModel) (s t : List ℕ) (k n : ℕ) (o : Option ℕ) (pairs : List Pair) (p : Pair) (move : Move) (e : Event) (events : List Event) (reports : List TickReport)
    (route : Route)
    → IsCompiled b × AreBounds b.model s × AreInCubeOrder (pairs ∷ []) × Estimate b.model s o pairs t n × Unexplained b.model s o pairs
    × PrimeImplicant b.model move pairs × IsAcyclic b.model × IsEffectsFirst b.model b.order × IsNextOf b.order s pairs p × IsRoute b s pairs route
    × IsFirstWorld b.model s pairs t × Mending b.model s t × Trace b (IsGoodReply b.model) events reports × KeepsPromises b (IsChosenReply b) events reports
    × Follows b.model pairs move.guard × AllowedPlan b.model s t s × Reach b.model s k n × Costs b.model s o t n × MayCome b.model pairs n e
    × AllMayCome b.model (IsSorted b.order) (start b.model n) events × IsShownCycle b.model s × IsShownClash b.model pairs
