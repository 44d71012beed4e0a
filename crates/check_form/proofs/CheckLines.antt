-- What a line of a trace leads to, by what was read of it and by the verdict on its tick.
use Rattle.std.proofs.Common.{◌≡◌, ℕ, ◌+◌, List, [], ◌++◌, Option, Some, None, Result, Ok, Err, IfOk, refl, sym, ap, subst, ◌∙◌, append-nil}
use Rattle.std.specs.declared.alloc.AllocError.{AllocError}
use Rattle.cca_base.specs.declared.events.Event.{Event}
use Rattle.cca_base.specs.declared.events.Shown.{Shown}
use Rattle.cca_base.specs.declared.events.Shown.TheVariants.{Estimated, Unexplained, Holding}
use Rattle.cca_base.specs.PlantModel.{PlantModel}
use Rattle.cca_base.specs.Trace.{ExecutiveState}
use Rattle.cca_base.specs.declared.events.Route.{Route}
use Rattle.cca_base.specs.declared.state.World.{World}
use Rattle.byte_buffer.specs.Outs.{Appended, Buffered}
use Rattle.line_machine.specs.declared.machine.End.{End}
use Rattle.line_machine.specs.declared.machine.End.TheVariants as ends
use Rattle.plan_checker.specs.Checked.{Takes, TakesAtYes, OnYes, IsExplained, ShowsSuccessor}
use Rattle.plan_checker.specs.declared.reasons.TheConstants.{LINE}
use Rattle.plan_checker.specs.declared.verdict.Verdict.{Verdict}
use Rattle.trace_text.specs.declared.trace_line.TraceLine.{TraceLine}
use Rattle.plan_checker.specs.Reasons.{Printed, OnEstimate, IsVerdict}
use Rattle.plan_checker.specs.declared.verdict.Verdict.TheVariants.{Yes, No}
use Rattle.check_form.specs.CheckStages.{SaysBy, SaysOf}
use Rattle.check_form.specs.CheckTrace.{TraceSoFar, TraceOutcome, Follows, Fails, ComesTo, SeesPairs, SaysLine, ByVerdict, ByLines, LeadsBehind, TraceLeads}
use Rattle.check_form.specs.TickLines.{TickLines, NotNext, More, Whole, next_lines, printed_of}
use Rattle.check_form.specs.Verdicts.{no_line}
use Rattle.check_form.specs.declared.tick_lines.PrintedTick.{PrintedTick}
use Rattle.check_form.specs.declared.tick_lines.TickSoFar.{TickSoFar}

sees_pairs : (m : PlantModel) (x : ExecutiveState) (shown : Shown) → OnEstimate shown (λ cost s reply. IsExplained m x s cost) → OnEstimate shown (λ cost s reply. SeesPairs m x)
sees_pairs m x (Estimated cost state reply) h = (h.seen, h.observed)
sees_pairs m x Unexplained h = tt
sees_pairs m x Holding h = tt

-- a tick with a Yes
judged_yes : (m : PlantModel) (x : TraceSoFar) (t : Printed) (y : ExecutiveState) (events : List Event) (next : TraceSoFar) → IsVerdict m x.state t Yes → ShowsSuccessor m x.state t → Takes m x.state t.report.shown y → ComesTo m y events next
    → ByLines (Whole t) m x events (Follows next)
judged_yes m x t y events next v shows takes comes = (Yes, v, (sees_pairs m x.state t.report.shown shows, y, takes, next, comes, refl))

-- ---- as the code has it

-- what code hands to the checker is what was printed
abbrev handed : (t : PrintedTick) (w : Option World) (r : Option Route) → w ≡ t.world → r ≡ t.route → Printed
handed t w r e f = record { report = t.report; world = w; route = r }

handed_is : (t : PrintedTick) (w : Option World) (r : Option Route) (e : w ≡ t.world) (f : r ≡ t.route) → handed t w r e f ≡ printed_of t
handed_is t w r e f = λ i. record { report = t.report; world = e i; route = f i }

module _ (m : PlantModel) (x : TraceSoFar) (t : PrintedTick) (w : Option World) (r : Option Route) (e : w ≡ t.world) (f : r ≡ t.route) (v : Verdict) where
  pub yes_leads : (y : ExecutiveState) (events : List Event) (next : TraceSoFar) → v ≡ Yes → IsVerdict m x.state (record { report = t.report; world = w; route = r }) v → OnYes v (ShowsSuccessor m x.state (record { report = t.report; world = w; route = r }))
      → TakesAtYes m x.state t.report.shown v y → ComesTo m y events next → ByLines (Whole (printed_of t)) m x events (Follows next)
  yes_leads y events next is_yes says shows takes comes =
      let own : IsVerdict m x.state (printed_of t) Yes = subst (λ (p : Printed). IsVerdict m x.state p Yes) (handed_is t w r e f) (subst (λ (z : Verdict). IsVerdict m x.state (handed t w r e f) z) is_yes says) in
      let seen : ShowsSuccessor m x.state (printed_of t) = subst (λ (p : Printed). ShowsSuccessor m x.state p) (handed_is t w r e f) (subst (λ (z : Verdict). OnYes z (ShowsSuccessor m x.state (handed t w r e f))) is_yes shows) in
      judged_yes m x (printed_of t) y events next own seen (subst (λ (z : Verdict). TakesAtYes m x.state t.report.shown z y) is_yes takes) comes

  pub no_leads : (reason : ℕ) (events : List Event) → v ≡ No reason → IsVerdict m x.state (record { report = t.report; world = w; route = r }) v → ByLines (Whole (printed_of t)) m x events (Fails reason)
  no_leads reason events is_no says =
      (No reason, subst (λ (p : Printed). IsVerdict m x.state p (No reason)) (handed_is t w r e f) (subst (λ (z : Verdict). IsVerdict m x.state (handed t w r e f) z) is_no says), refl)

-- a No is printed
pub says_no : (Leads : TraceOutcome → Type 0) (x y : TraceSoFar) (ticks reason : ℕ) (old new : Buffered) → Leads (Fails reason) → ticks ≡ x.state.ticks → new.bytes ≡ old.bytes ++ no_line (ticks + 1) reason
    → Appended (SaysOf Leads x y (Some ends.Rejected)) old new
says_no Leads x y ticks reason old new leads same behind =
    record { text = no_line (ticks + 1) reason; is = (Fails reason, leads, (refl, ap (λ (k : ℕ). no_line (k + 1) reason) same)); behind = behind }

-- nothing is printed
pub says_nothing : (Leads : TraceOutcome → Type 0) (x y : TraceSoFar) (out : Buffered) → Leads (Follows y) → Appended (SaysOf Leads x y None) out out
says_nothing Leads x y out leads = record { text = []; is = (Follows y, leads, (refl, refl, refl)); behind = sym (append-nil out.bytes) }

module _ (m : PlantModel) (x : TraceSoFar) (l : List ℕ) (events : List Event) (said : Option TraceLine) (says : SaysLine m l said) where
  pub not_a_line : said ≡ None → LeadsBehind (Some events) m x l (Fails LINE)
  not_a_line e = (None, subst (SaysLine m l) e says, refl)

  module _ (value : TraceLine) (is : said ≡ Some value) (ticks : ℕ) (lines : TickSoFar) (same : ticks ≡ x.state.ticks) (own : lines ≡ x.lines) where
    by_next : (next : TickLines) (o : TraceOutcome) → next ≡ next_lines ticks lines value → ByLines next m x events o → LeadsBehind (Some events) m x l o
    by_next next o e by = (Some value, subst (SaysLine m l) is says, subst (λ (t : TickLines). ByLines t m x events o) (e ∙ (λ i. next_lines (same i) (own i) value)) by)

    pub not_next : NotNext ≡ next_lines ticks lines value → LeadsBehind (Some events) m x l (Fails LINE)
    not_next e = by_next NotNext (Fails LINE) e refl

    pub more_next : (more : TickSoFar) → More more ≡ next_lines ticks lines value → LeadsBehind (Some events) m x l (Follows (record { state = x.state; behind = Some events; lines = more }))
    more_next more e = by_next (More more) (Follows (record { state = x.state; behind = Some events; lines = more })) e refl

    -- the tick is whole, and it is judged, whatever is still kept of its lines
    module _ (tick : Printed) (z y : TraceSoFar) (stays : z.state ≡ x.state) where
      judges_so : (o : TraceOutcome) → ByLines (Whole tick) m z events o → ByLines (Whole tick) m x events o
      judges_so o h = subst (λ (w : ExecutiveState). (v : Verdict) × IsVerdict m w tick v × ByVerdict v m w tick events o) stays h

      says_so : (o : TraceOutcome) (end : Option End) (text : List ℕ) → SaysBy o z y end text → SaysBy o x y end text
      says_so (Follows t) end text h = h
      says_so (Fails reason) end text h = (h.0, h.1 ∙ ap (λ (w : ExecutiveState). no_line (w.ticks + 1) reason) stays)

      pub whole_next : (r : Result (Option End) AllocError) (old new : Buffered) → Whole tick ≡ next_lines ticks lines value → IfOk r (λ e. Appended (SaysOf (ByLines (Whole tick) m z events) z y e) old new)
          → IfOk r (λ e. Appended (SaysOf (LeadsBehind (Some events) m x l) x y e) old new)
      whole_next (Ok e) old new is h =
          let (o, by, says) = h.is in
          record { text = h.text; is = (o, by_next (Whole tick) o is (judges_so o by), says_so o e h.text says); behind = h.behind }
      whole_next (Err e) old new is h = tt

-- where a tick comes
pub line_says : (m : PlantModel) (s : ExecutiveState) (lines : TickSoFar) (behind : Option (List Event)) (y : TraceSoFar) (l : List ℕ) (events : List Event) (r : Result (Option End) AllocError) (old new : Buffered) → behind ≡ Some events
    → IfOk r (λ e. Appended (SaysOf (TraceLeads m (record { state = s; behind = Some events; lines = lines }) l) (record { state = s; behind = Some events; lines = lines }) y e) old new)
    → IfOk r (λ e. Appended (SaysOf (TraceLeads m (record { state = s; behind = behind; lines = lines }) l) (record { state = s; behind = behind; lines = lines }) y e) old new)
line_says m s lines behind y l events r old new is h =
    subst (λ (b : Option (List Event)). IfOk r (λ e. Appended (SaysOf (TraceLeads m (record { state = s; behind = b; lines = lines }) l) (record { state = s; behind = b; lines = lines }) y e) old new)) (sym is) h

-- and where none comes
pub none_behind : (m : PlantModel) (x : TraceSoFar) (l : List ℕ) → x.behind ≡ None → TraceLeads m x l (Fails LINE)
none_behind m x l is = subst (λ (b : Option (List Event)). LeadsBehind b m x l (Fails LINE)) (sym is) refl
