-- Tables that are kept from tick to tick change no reply.
use Rattle.std.proofs.Common.{◌≡◌, ℕ, Bool, true, false, if◌then◌else◌, List, [], ◌∷◌, Option, Some, None, refl, sym, subst}
use Rattle.std.specs.Prelude.{IfSome}
use Rattle.cca_base.specs.declared.cube.Pair.{Pair}
use Rattle.cca_base.specs.declared.events.Event.{Event}
use Rattle.cca_base.specs.declared.events.Event.TheVariants as event
use Rattle.cca_base.specs.declared.events.Reply.{Reply}
use Rattle.cca_base.specs.declared.events.Shown.{Shown}
use Rattle.cca_base.specs.declared.events.Shown.TheVariants.{Estimated, Unexplained, Holding}
use Rattle.cca_base.specs.declared.events.TickReport.{TickReport}
use Rattle.cca_base.specs.Accepted.{CompiledModel, IsCompiled}
use Rattle.cca_base.specs.Orders.{IsSorted}
use Rattle.cca_base.specs.State.{IsState}
use Rattle.cca_base.specs.Choice.{IsChosenReply}
use Rattle.cca_base.specs.Trace.{ExecutiveState, start, IsReply, TickShows, AllMayCome}
use Rattle.cca_laws.proofs.OneTrace.{one_fixed_trace}
use Rattle.trace_laws.specs.Events.{Acts, Makes}
use Rattle.trace_laws.specs.Fits.{IsKeptGoal, Fits}
use Rattle.trace_laws.specs.Tables.{Cover, Planner, PlansWell, Taking, kept, renewed, base_shown, base_after, by_tables, MakesByTables}
use Rattle.trace_laws.specs.Laws.{TakenTablesCover, KeptTablesGiveTrace, KeptTablesChangeNothing}
use Rattle.trace_laws.proofs.EventsJoin.{next_may_come, made_is_trace}
use Rattle.trace_laws.proofs.FitsStay.{start_fits, stays_fitting}

-- what is taken is the tables of a state, and they cover the estimate
record TakesCovering (b : CompiledModel) (covers : Cover) (taking : Taking) : Type 0 where
  pub state : (base : Option (List ℕ)) (s : List ℕ) → IfSome base (IsState b.model) → IsState b.model s → IsState b.model (taking base s)
  pub covering : (base : Option (List ℕ)) (s : List ℕ) → IsState b.model s → covers (taking base s) s ≡ true

if_covers : (covers : Cover) (x : Bool) (base s : List ℕ) → covers base s ≡ x → covers s s ≡ true → covers (if x then base else s) s ≡ true
if_covers covers true base s e own = e
if_covers covers false base s e own = own

pub taken_tables_cover : TakenTablesCover
taken_tables_cover covers None s own = own
taken_tables_cover covers (Some base) s own = if_covers covers (covers base s) base s refl own

module _ (b : CompiledModel) (covers : Cover) (planner : Planner) (well : PlansWell b covers planner) where
  chosen_state : (x : Bool) (base s : List ℕ) → IsState b.model base → IsState b.model s → IsState b.model (if x then base else s)
  chosen_state true base s h k = h
  chosen_state false base s h k = k

  kept_state : (base : Option (List ℕ)) (s : List ℕ) → IfSome base (IsState b.model) → IsState b.model s → IsState b.model (kept covers base s)
  kept_state None s h k = k
  kept_state (Some base) s h k = chosen_state (covers base s) base s h k

  kept_covers : (base : Option (List ℕ)) (s : List ℕ) → IsState b.model s → covers (kept covers base s) s ≡ true
  kept_covers base s k = taken_tables_cover covers base s (well.itself s k)

  kept_takes : TakesCovering b covers (kept covers)
  kept_takes = record { state = kept_state; covering = kept_covers }

  renewed_takes : TakesCovering b covers renewed
  renewed_takes = record { state = λ base s h k. k; covering = λ base s k. well.itself s k }

  module _ (compiled : IsCompiled b) (taking : Taking) (takes : TakesCovering b covers taking) where
    chosen_reply : (base : Option (List ℕ)) (s : List ℕ) (goal : Option (List Pair)) (reply : Reply) → IfSome base (IsState b.model) → IsState b.model s → IfSome goal (IsKeptGoal b)
        → IsReply (by_tables planner taking base) s goal reply → IsReply (IsChosenReply b) s goal reply
    chosen_reply base s None reply h state keeps e = e
    chosen_reply base s (Some goal) reply h state keeps e =
        subst (IsChosenReply b s goal) (sym e) (well.chosen (taking base s) s goal (takes.state base s h state) state (takes.covering base s state) keeps)

    tick_chosen : (base : Option (List ℕ)) (x : ExecutiveState) (shown : Shown) (y : ExecutiveState) → IfSome base (IsState b.model) → Fits b x → TickShows b.model (by_tables planner taking base) x shown y → TickShows b.model (IsChosenReply b) x shown y
    tick_chosen base x (Estimated cost state reply) y h fits shows = record {
      going = shows.going;
      seen = shows.seen;
      observed = shows.observed;
      estimate = shows.estimate;
      replies = chosen_reply base state.modes x.goal reply h shows.estimate.consistent.costs.state fits.goal shows.replies;
      plant = shows.plant;
      moves = shows.moves;
      after = shows.after;
    }
    tick_chosen base x Unexplained y h fits shows = shows
    tick_chosen base x Holding y h fits shows = shows

    acts_chosen : (base : Option (List ℕ)) (x : ExecutiveState) (e : Event) (y : ExecutiveState) (report : Option TickReport) → IfSome base (IsState b.model) → Fits b x → Acts b (by_tables planner taking base) x e y report → Acts b (IsChosenReply b) x e y report
    acts_chosen base x e y None h fits acts = acts
    acts_chosen base x e y (Some report) h fits acts = (acts.0, acts.1, tick_chosen base x report.shown y h fits acts.2)

    shown_base : (base : Option (List ℕ)) (x : ExecutiveState) (shown : Shown) (y : ExecutiveState) (goal : Option (List Pair)) → IfSome base (IsState b.model) → TickShows b.model (by_tables planner taking base) x shown y
        → IfSome (base_shown taking goal base shown) (IsState b.model)
    shown_base base x (Estimated cost state reply) y (Some goal) h shows = takes.state base state.modes h shows.estimate.consistent.costs.state
    shown_base base x (Estimated cost state reply) y None h shows = h
    shown_base base x Unexplained y (Some goal) h shows = h
    shown_base base x Unexplained y None h shows = h
    shown_base base x Holding y (Some goal) h shows = h
    shown_base base x Holding y None h shows = h

    next_base : (base : Option (List ℕ)) (x : ExecutiveState) (e : Event) (y : ExecutiveState) (report : Option TickReport) → IfSome base (IsState b.model) → Acts b (by_tables planner taking base) x e y report
        → IfSome (base_after taking x.goal base e report) (IsState b.model)
    next_base base x e y (Some report) h acts = shown_base base x report.shown y x.goal h acts.2
    next_base base x (event.Goal pairs) y None h acts = h
    next_base base x event.Clear y None h acts = h
    next_base base x (event.Observe pairs) y None h acts = h
    next_base base x (event.Fault p) y None h acts = h
    next_base base x (event.Mirror v) y None h acts = h
    next_base base x event.Reset y None h acts = tt
    next_base base x event.Tick y None h acts = h

    makes_chosen : (events : List Event) (x : ExecutiveState) (base : Option (List ℕ)) (y : ExecutiveState) (reports : List TickReport) → IfSome base (IsState b.model) → Fits b x → AllMayCome b.model (IsSorted b.order) x events
        → MakesByTables b planner taking x base events y reports → Makes b (IsChosenReply b) x events y reports
    makes_chosen [] x base y reports h fits come made = made
    makes_chosen (e ∷ events) x base y reports h fits come (z, report, others, act, made, split) =
        let chosen : Acts b (IsChosenReply b) x e z report = acts_chosen base x e z report h fits act in
        let next = next_may_come b (IsChosenReply b) x e z report events chosen come in
        (z, report, others, chosen, makes_chosen events z (base_after taking x.goal base e report) y others (next_base base x e z report h act) (stays_fitting b compiled (IsChosenReply b) x z e report fits next.0 chosen) next.1 made, split)

pub kept_tables_give_trace : KeptTablesGiveTrace
kept_tables_give_trace b covers planner events y reports compiled well come made =
    made_is_trace b (IsChosenReply b) events y reports
    (makes_chosen b covers planner well compiled (kept covers) (kept_takes b covers planner well) events (start b.model 0) None y reports tt (start_fits b 0 compiled) come made)

pub kept_tables_change_nothing : KeptTablesChangeNothing
kept_tables_change_nothing b covers planner events y z reports others compiled well come made anew =
    one_fixed_trace b events reports others compiled (kept_tables_give_trace b covers planner events y reports compiled well come made)
    (made_is_trace b (IsChosenReply b) events z others
    (makes_chosen b covers planner well compiled renewed (renewed_takes b covers planner well) events (start b.model 0) None z others tt (start_fits b 0 compiled) come anew))
