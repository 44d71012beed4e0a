-- The texts of ticks, with what proves them, are those of the model in another version.
use Rattle.std.proofs.Common.{ℕ, List, [], ◌∷◌, Option, Some, None, sym, ◌∙◌}
use Rattle.cca_base.specs.Accepted.{CompiledModel}
use Rattle.cca_base.specs.Model.{WellFormed}
use Rattle.cca_base.specs.PlantModel.{PlantModel}
use Rattle.cca_base.specs.Runs.{TickRecord}
use Rattle.cca_base.specs.Trace.{ExecutiveState}
use Rattle.cca_base.specs.declared.cube.Pair.{Pair}
use Rattle.cca_base.specs.declared.events.PlanEnd.{PlanEnd}
use Rattle.cca_base.specs.declared.events.PlanEnd.TheVariants.{Plan, Long}
use Rattle.cca_base.specs.declared.events.Reply.{Reply}
use Rattle.cca_base.specs.declared.events.Reply.TheVariants.{Idle, Send, Achieved, Unreachable}
use Rattle.cca_base.specs.declared.events.Route.{Route}
use Rattle.cca_base.specs.declared.events.Shown.{Shown}
use Rattle.cca_base.specs.declared.events.Shown.TheVariants.{Estimated, Unexplained, Holding}
use Rattle.cca_base.specs.declared.events.TickReport.{TickReport}
use Rattle.cca_base.specs.declared.state.World.{World}
use Rattle.plan_checker.specs.Reasons.{Printed, OnCommands, IsWayBack}
use Rattle.run_form.specs.TickProofs.{IsSeenWorld, ProvesEstimate, IsRouteTo, ProvesReply, ProvesCommand, IsProven}
use Rattle.run_form.specs.TickTexts.{TickText, TicksText}
use Rattle.run_form.specs.declared.notation.Notation.{Notation}
use Rattle.run_form.specs.declared.notation.Notation.TheVariants.{Words, Json, Proof, Summary}
use Rattle.version_laws.specs.Laws.{at_version}
use Rattle.version_laws.specs.Traces.{compiled_at}
use Rattle.version_laws.proofs.Kept.{run_at, mending_at}
use Rattle.version_laws.proofs.Traces.{observed_at, routes_alike, first_worlds_alike}
use Rattle.migrate_form.proofs.TextsAlike.{report_alike, json_alike, tick_alike}

-- ---- ways back

way_back_at : (m : PlantModel) (v : ℕ) (s ks ls : List ℕ) → IsWayBack m s ks ls → IsWayBack (at_version v m) s ks ls
way_back_at m v s ks ls h there run =
    let w = h there (run_at (at_version v m) m.version s ks there run) in
    (w.0, run_at m v there ls w.0 w.1, mending_at m v s w.0 w.2)

home_by : (m : PlantModel) (v : ℕ) (s : List ℕ) (plan back : PlanEnd) → OnCommands plan (λ ks. OnCommands back (IsWayBack m s ks)) → OnCommands plan (λ ks. OnCommands back (IsWayBack (at_version v m) s ks))
home_by m v s (Plan ks) (Plan ls) h = way_back_at m v s ks ls h
home_by m v s (Plan ks) Long h = h
home_by m v s Long back h = h

module _ (b : CompiledModel) (v : ℕ) (well : WellFormed (at_version v b.model)) where
  abbrev c : CompiledModel
  c = compiled_at v b

  -- ---- what proves a tick

  seen_at : (x : ExecutiveState) (s : List ℕ) (w : World) → IsSeenWorld b x s w → IsSeenWorld c x s w
  seen_at x s w (seen, observed, first) = (seen, observed_at b v x seen observed, first_worlds_alike b.model v s seen w.values first)

  estimate_at : (x : ExecutiveState) (shown : Shown) (world : Option World) → ProvesEstimate b x shown world → ProvesEstimate c x shown world
  estimate_at x (Estimated cost state reply) (Some w) h = seen_at x state.modes w h
  estimate_at x (Estimated cost state reply) None h = h
  estimate_at x Unexplained world h = h
  estimate_at x Holding world h = h

  route_at : (s : List ℕ) (goal : Option (List Pair)) (r : Route) → IsRouteTo b s goal r → IsRouteTo c s goal r
  route_at s goal r (pairs, in_force, route, home) = (pairs, in_force, routes_alike b v well s pairs r route, home_by b.model v s r.plan r.back home)

  reply_at : (s : List ℕ) (goal : Option (List Pair)) (reply : Reply) (route : Option Route) → ProvesReply b s goal reply route → ProvesReply c s goal reply route
  reply_at s goal (Send k) (Some r) h = route_at s goal r h
  reply_at s goal (Send k) None h = h
  reply_at s goal Idle route h = h
  reply_at s goal Achieved route h = h
  reply_at s goal (Unreachable u mode) route h = h

  command_at : (x : ExecutiveState) (shown : Shown) (route : Option Route) → ProvesCommand b x shown route → ProvesCommand c x shown route
  command_at x (Estimated cost state reply) route h = reply_at state.modes x.goal reply route h
  command_at x Unexplained route h = h
  command_at x Holding route h = h

  proven_at : (x : ExecutiveState) (t : Printed) → IsProven b x t → IsProven c x t
  proven_at x t h = record { estimate = estimate_at x t.report.shown t.world h.estimate; command = command_at x t.report.shown t.route h.command }

  -- ---- its text

  text_at : (notation : Notation) (x : ExecutiveState) (report : TickReport) (text : List ℕ) → TickText notation b x report text → TickText notation c x report text
  text_at Words x report text h = h ∙ sym (report_alike b.model v report)
  text_at Json x report text h = h ∙ sym (json_alike b.model v report)
  text_at Proof x report text (t, same, proven, is) = (t, same, proven_at x t proven, is ∙ sym (tick_alike b.model v t))
  text_at (Summary seed) x report text h = h

  pub texts_at : (notation : Notation) (ticks : List TickRecord) (text : List ℕ) → TicksText notation b ticks text → TicksText notation c ticks text
  texts_at notation [] text h = h
  texts_at notation (t ∷ ticks) text (first, rest, told, more, parts) = (first, rest, text_at notation t.before t.report first told, texts_at notation ticks rest more, parts)
