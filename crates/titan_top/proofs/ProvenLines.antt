-- The lines that are printed of a proven tick are read as its own, and the tick that they say gets a Yes.
use Rattle.std.proofs.Common.{◌≡◌, ◌≤◌, ◌<◌, ◌+◌, ℕ, true, false, eqb, List, [], ◌∷◌, ◌++◌, length, Option, Some, None, All, Contains, inl, inr, refl, sym, ap, subst, ◌∙◌, append_assoc, append-nil, arith}
use Rattle.std.specs.Prelude.{codes, IfSome}
use Rattle.std.proofs.lemmas.Bool.{eq-eqb}
use Rattle.std.proofs.lemmas.List.{append_cancel_right}
use Rattle.std.proofs.lemmas.List.Elements.{All-head, All-tail, All-contains, Contains-append_right}
use Rattle.list_laws.proofs.Members.{contains_here}
use Rattle.cca_laws.proofs.PlanLaws.{whole_runs}
use Rattle.cca_base.specs.declared.cube.Pair.{Pair}
use Rattle.cca_base.specs.declared.events.Event.{Event}
use Rattle.cca_base.specs.declared.events.PlanEnd.{PlanEnd}
use Rattle.cca_base.specs.declared.events.PlanEnd.TheVariants as plans
use Rattle.cca_base.specs.declared.events.Reply.{Reply}
use Rattle.cca_base.specs.declared.events.Reply.TheVariants.{Idle, Send, Achieved, Unreachable}
use Rattle.cca_base.specs.declared.events.Route.{Route}
use Rattle.cca_base.specs.declared.events.Shown.{Shown}
use Rattle.cca_base.specs.declared.events.Shown.TheVariants.{Estimated, Unexplained, Holding}
use Rattle.cca_base.specs.declared.events.TickReport.{TickReport}
use Rattle.cca_base.specs.declared.limits.TheConstants.{MAX_PLAN}
use Rattle.cca_base.specs.declared.state.State.{State}
use Rattle.cca_base.specs.declared.state.World.{World as Values}
use Rattle.cca_base.specs.Accepted.{CompiledModel, IsCompiled}
use Rattle.cca_base.specs.Model.{HasMode}
use Rattle.cca_base.specs.Plans.{Promising, Whole, ShowsPlan, ShowsBack, IsRoute}
use Rattle.cca_base.specs.Trace.{ExecutiveState, IsReply, TickShows}
use Rattle.line_machine.specs.Lines.{lines_in, all_lines, HasNoLf}
use Rattle.line_machine.specs.declared.machine.TheConstants.{MAX_LINES}
use Rattle.line_machine.proofs.JoinedLines.{line_before}
use Rattle.model_form.proofs.PrintedLines.{clean}
use Rattle.line_machine.proofs.LengthCodes.{short_code}
use Rattle.plan_checker.specs.Reasons.{Printed, WritesRoute, IsWritten}
use Rattle.plan_checker.specs.declared.verdict.Verdict.TheVariants.{Yes}
use Rattle.trace_laws.specs.Fits.{IsKeptGoal, Fits}
use Rattle.trace_text.specs.ProofLines.{world_line, plan_line, route_text}
use Rattle.trace_text.specs.Reports.{report_line}
use Rattle.trace_text.specs.TraceLines.{trace_line, FitsLine, FitsShown, FitsReply, FitsPlan, HasCommand}
use Rattle.trace_text.specs.declared.trace_line.TraceLine.{TraceLine}
use Rattle.trace_text.specs.declared.trace_line.TraceLine.TheVariants.{Tick, World, Plan, Back}
use Rattle.trace_text.proofs.ShortLines.{IsShowablePlan, IsShowable, IsShortLine, short_line}
use Rattle.check_form.specs.CheckTrace.{TraceSoFar, Follows, ByLines, CheckEnd, JudgesByCode, JudgesLines, ComesTo, before_tick, trace_line_code}
use Rattle.check_form.specs.TickLines.{TickLines, More, Whole as WholeTick, next_lines, has_world, has_route}
use Rattle.run_form.specs.TickProofs.{ProvesEstimate, ProvesReply, ProvesCommand, IsProven, tick_text}
use Rattle.check_form.specs.declared.tick_lines.TickSoFar.{TickSoFar}
use Rattle.check_form.specs.declared.tick_lines.TickSoFar.TheVariants.{Nothing, Reported, Explained, Planned}
use Rattle.trace_text.specs.declared.limits.TheConstants.{MAX_TRACE_LINE}
use Rattle.titan_top.specs.OwnTraces.{ShowsLong}
use Rattle.cca_base.proofs.CheapCosts.{cost_fits}
use Rattle.trace_text.proofs.FittingLines.{command_fits, run_fits, world_fits}
use Rattle.titan_top.proofs.ProvenTicks.{with_goal, IsGoalOf, proven_passes, proven_takes, proven_sees}

-- ---- the lines of a text

-- a line before a text is its first line
pub first_line : (l rest : List ℕ) → HasNoLf l → all_lines (lines_in ((l ++ 10 ∷ []) ++ rest)) ≡ l ∷ all_lines (lines_in rest)
first_line l rest h = ap all_lines (line_before l rest h)

-- behind n lines the lines of the text are not too many, and none shows a plan or a way back as too long
pub record KeepsLimits (n : ℕ) (text : List ℕ) : Type 0 where
  pub few : n + length (all_lines (lines_in text)) ≤ MAX_LINES
  pub written : All (λ l. ShowsLong l → ⊥) (all_lines (lines_in text))

-- the same of the first line, and of what stands behind it
record FirstOf (n : ℕ) (l rest : List ℕ) : Type 0 where
  within : n < MAX_LINES
  written : ShowsLong l → ⊥
  behind : KeepsLimits (n + 1) rest

first_of : (n : ℕ) (text rest : List ℕ) (short : IsShortLine text) → KeepsLimits n (text ++ rest) → FirstOf n short.line rest
first_of n text rest short keeps =
    let lines : all_lines (lines_in (text ++ rest)) ≡ short.line ∷ all_lines (lines_in rest) =
    ap (λ (t : List ℕ). all_lines (lines_in (t ++ rest))) short.is ∙ first_line short.line rest (clean short.line short.clean) in
    let few : n + length (short.line ∷ all_lines (lines_in rest)) ≤ MAX_LINES = subst (λ (ls : List (List ℕ)). n + length ls ≤ MAX_LINES) lines keeps.few in
    let written = subst (All (λ (l : List ℕ). ShowsLong l → ⊥)) lines keeps.written in
    record {
      within = omega (arith, few);
      written = All-head (λ (l : List ℕ). ShowsLong l → ⊥) short.line (all_lines (lines_in rest)) written;
      behind = record { few = omega (arith, few); written = All-tail (λ (l : List ℕ). ShowsLong l → ⊥) short.line (all_lines (lines_in rest)) written };
    }

module _ (b : CompiledModel) (compiled : IsCompiled b) where
  -- ---- one line

  -- the line of a value leads on, where what it makes of the tick's lines does
  line_judged : (x : ExecutiveState) (events : List Event) (lines : TickSoFar) (value : TraceLine) (t : TraceSoFar) (n : ℕ) (rest : List ℕ) (end : CheckEnd) (short : IsShortLine (trace_line b.model value)) → FitsLine b.model value → n < MAX_LINES
      → ByLines (next_lines x.ticks lines value) b.model (record { state = x; behind = Some events; lines = lines }) events (Follows t) → JudgesLines b.model t (n + 1) (all_lines (lines_in rest)) end
      → JudgesLines b.model (record { state = x; behind = Some events; lines = lines }) n (all_lines (lines_in (trace_line b.model value ++ rest))) end
  line_judged x events lines value t n rest end short fits within by on =
      let here : TraceSoFar = record { state = x; behind = Some events; lines = lines } in
      let text : all_lines (lines_in (trace_line b.model value ++ rest)) ≡ short.line ∷ all_lines (lines_in rest) =
      ap (λ (z : List ℕ). all_lines (lines_in (z ++ rest))) short.is ∙ first_line short.line rest (clean short.line short.clean) in
      let code : trace_line_code (n + 1) short.line ≡ None = short_code MAX_TRACE_LINE n (length short.line) within short.short in
      subst (λ (ls : List (List ℕ)). JudgesLines b.model here n ls end) (sym text)
      (subst (λ (c : Option ℕ). JudgesByCode c b.model here (n + 1) short.line (λ u. JudgesLines b.model u (n + 1) (all_lines (lines_in rest)) end) end) (sym code)
      (Follows t, (Some value, (fits, short.is), by), on))

  -- ---- what is printed fits

  plan_fits : (p : PlanEnd) (goal : List Pair) (s ks last : List ℕ) → Whole b goal s ks last → ShowsPlan p ks → FitsPlan b.model p × IsShowablePlan p
  plan_fits (plans.Plan shown) goal s ks last whole shows = (
    subst (All (HasCommand b.model)) (sym shows.0) (run_fits b.model compiled.accepted.well_formed s ks last (whole_runs b goal ks s last whole)),
    subst (λ (l : List ℕ). length l ≤ MAX_PLAN) (sym shows.0) shows.1,
  )
  plan_fits plans.Long goal s ks last whole shows = (tt, tt)

  back_fits : (plan back : PlanEnd) (goal : List Pair) (s ks last : List ℕ) → Whole b goal s ks last → ShowsBack plan back ks → FitsPlan b.model back × IsShowablePlan back
  back_fits (plans.Plan shown) back goal s ks last whole shows = plan_fits back goal s ks last whole shows
  back_fits plans.Long back goal s ks last whole shows = subst (λ (p : PlanEnd). FitsPlan b.model p × IsShowablePlan p) (sym shows) (tt, tt)

  goal_reply_fits : (s goal : _) (reply : Reply) → IsKeptGoal b goal → Promising b s goal reply → FitsReply b.model reply
  goal_reply_fits s goal Idle kept promise = tt
  goal_reply_fits s goal Achieved kept promise = tt
  goal_reply_fits s goal (Send k) kept promise =
      let step = promise.chosen.good.0.step in
      subst (HasCommand b.model) step.command (command_fits b.model compiled.accepted.well_formed step.move step.of_model)
  goal_reply_fits s goal (Unreachable c mode) kept promise =
      let first = promise.chosen.good in
      let p : Pair = record { item = c; value = mode } in
      let among : Contains goal p = subst (λ (l : List Pair). Contains l p) (sym first.split) (Contains-append_right first.before (p ∷ first.after) p (contains_here p p first.after refl)) in
      All-contains (λ (q : Pair). HasMode b.model q.item q.value) goal p kept.modes among

  reply_fits : (s : List ℕ) (goal : Option (List Pair)) (reply : Reply) → IfSome goal (IsKeptGoal b) → IsReply (Promising b) s goal reply → FitsReply b.model reply
  reply_fits s None reply kept is = subst (FitsReply b.model) (sym is) tt
  reply_fits s (Some goal) reply kept is = goal_reply_fits s goal reply kept is

  shown_fits : (x y : ExecutiveState) (shown : Shown) → Fits b x → TickShows b.model (Promising b) x shown y → FitsShown b.model shown
  shown_fits x y (Estimated cost state reply) fits shows =
      let costs = shows.estimate.consistent.costs in
      (cost_fits b.model compiled.accepted.well_formed x.estimate state.modes x.command cost costs, costs.state, reply_fits state.modes x.goal reply fits.goal shows.replies)
  shown_fits x y Unexplained fits shows = tt
  shown_fits x y Holding fits shows = tt

  -- ---- a plan that is written out

  not_long : (word : List ℕ) (p : PlanEnd) (short : IsShortLine (plan_line word b.model p)) → (short.line ≡ word ++ codes " long" → ⊥) → IsWritten p
  not_long word (plans.Plan ks) short never = tt
  not_long word plans.Long short never = absurd (never (sym (append_cancel_right (word ++ codes " long") short.line (10 ∷ []) short.is)))

  -- ---- a tick

  module _ (x y : ExecutiveState) (given : Option (List Pair)) (goals : IsGoalOf b.order given x.goal) (fits : Fits b x) (events : List Event) (next : TraceSoFar) (comes : ComesTo b.model (with_goal y given) events next) (end : CheckEnd) (rest : List ℕ)
      (on : (k : ℕ) → x.ticks + 1 ≤ k → KeepsLimits k rest → JudgesLines b.model next k (all_lines (lines_in rest)) end) where
    -- the whole tick gets a Yes, and is taken
    whole_follows : (lines : TickSoFar) (t : Printed) → t.report.tick ≡ x.ticks + 1 → TickShows b.model (Promising b) x t.report.shown y → IsProven b x t → WritesRoute t
        → ByLines (WholeTick t) b.model (record { state = with_goal x given; behind = Some events; lines = lines }) events (Follows next)
    whole_follows lines t number shows proven written = (
      Yes,
      proven_passes b compiled x y given t goals number shows proven written,
      (
        proven_sees b compiled x y given t.report.shown shows,
        with_goal y given,
        proven_takes b compiled x y given t.report.shown fits.silent shows,
        next,
        comes,
        refl,
      ),
    )

    abbrev here : TickSoFar → TraceSoFar
    here lines = record { state = with_goal x given; behind = Some events; lines = lines }

    abbrev IsJudged : TickSoFar → ℕ → List ℕ → Type 0
    IsJudged lines n text = JudgesLines b.model (here lines) n (all_lines (lines_in text)) end

    -- a line behind which more lines of the tick come
    more_judged : (lines after : TickSoFar) (value : TraceLine) (n : ℕ) (text : List ℕ) → FitsLine b.model value → IsShowable value → next_lines x.ticks lines value ≡ More after → KeepsLimits n (trace_line b.model value ++ text)
        → ((short : IsShortLine (trace_line b.model value)) → (ShowsLong short.line → ⊥) → KeepsLimits (n + 1) text → IsJudged after (n + 1) text) → IsJudged lines n (trace_line b.model value ++ text)
    more_judged lines after value n text fits showable is keeps go_on =
        let short = short_line b.model compiled.accepted.well_formed value fits showable in
        let first = first_of n (trace_line b.model value) text short keeps in
        line_judged (with_goal x given) events lines value (here after) n text end short fits first.within
        (subst (λ (l : TickLines). ByLines l b.model (here lines) events (Follows (here after))) (sym is) refl) (go_on short first.written first.behind)

    -- the last line of the tick, with which it gets a Yes
    last_judged : (lines : TickSoFar) (value : TraceLine) (t : Printed) (n : ℕ) → FitsLine b.model value → IsShowable value → next_lines x.ticks lines value ≡ WholeTick t → x.ticks ≤ n → KeepsLimits n (trace_line b.model value ++ rest)
        → t.report.tick ≡ x.ticks + 1 → TickShows b.model (Promising b) x t.report.shown y → IsProven b x t → ((short : IsShortLine (trace_line b.model value)) → (ShowsLong short.line → ⊥) → WritesRoute t) → IsJudged lines n (trace_line b.model value ++ rest)
    last_judged lines value t n fits showable is within keeps number shows proven written =
        let short = short_line b.model compiled.accepted.well_formed value fits showable in
        let first = first_of n (trace_line b.model value) rest short keeps in
        line_judged (with_goal x given) events lines value next n rest end short fits first.within
        (subst (λ (l : TickLines). ByLines l b.model (here lines) events (Follows next)) (sym is) (whole_follows lines t number shows proven (written short first.written))) (on (n + 1) (omega (arith, within)) first.behind)

    module _ (n tick : ℕ) (number : tick ≡ x.ticks + 1) (within : x.ticks ≤ n) where
      is_next : eqb tick (x.ticks + 1) ≡ true
      is_next = eq-eqb tick (x.ticks + 1) number

      tick_fits : (shown : Shown) (text : List ℕ) → TickShows b.model (Promising b) x shown y → KeepsLimits n text → FitsLine b.model (Tick (record { tick = tick; shown = shown }))
      tick_fits shown text shows keeps = let few = keeps.few in (omega (arith, number, within, few), shown_fits x y shown fits shows)

      -- a tick without an estimate
      bare_judged : (shown : Shown) → has_world shown ≡ false → TickShows b.model (Promising b) x shown y → IsProven b x (record { report = record { tick = tick; shown = shown }; world = None; route = None })
          → KeepsLimits n (report_line b.model (record { tick = tick; shown = shown }) ++ rest) → IsJudged Nothing n (report_line b.model (record { tick = tick; shown = shown }) ++ rest)
      bare_judged shown bare shows proven keeps =
          let r : TickReport = record { tick = tick; shown = shown } in
          let t : Printed = record { report = r; world = None; route = None } in
          let whole : next_lines x.ticks Nothing (Tick r) ≡ WholeTick t = rw (is_next, bare) refl in
          last_judged Nothing (Tick r) t n (tick_fits shown (report_line b.model r ++ rest) shows keeps) tt whole within keeps number shows proven (λ short never. tt)

      module _ (cost : ℕ) (state : State) (reply : Reply) (shows : TickShows b.model (Promising b) x (Estimated cost state reply) y) (w : Values) where
        abbrev report : TickReport
        report = record { tick = tick; shown = Estimated cost state reply }

        reported : next_lines x.ticks Nothing (Tick report) ≡ More (Reported report)
        reported = rw is_next refl

        world_line_fits : ProvesEstimate b x (Estimated cost state reply) (Some w) → FitsLine b.model (World w)
        world_line_fits (seen, observed, first) = world_fits b.model state.modes w.values first.world

        -- a tick without a command
        quiet_judged : has_route (Estimated cost state reply) ≡ false → IsProven b x (record { report = report; world = Some w; route = None })
            → KeepsLimits n (report_line b.model report ++ (world_line b.model w ++ rest)) → IsJudged Nothing n (report_line b.model report ++ (world_line b.model w ++ rest))
        quiet_judged quiet proven keeps =
            let t : Printed = record { report = report; world = Some w; route = None } in
            let whole : next_lines x.ticks (Reported report) (World w) ≡ WholeTick t = rw quiet refl in
            more_judged Nothing (Reported report) (Tick report) n (world_line b.model w ++ rest) (tick_fits (Estimated cost state reply) (report_line b.model report ++ (world_line b.model w ++ rest)) shows keeps) tt reported keeps
            (λ short never behind. last_judged (Reported report) (World w) t (n + 1) (world_line_fits proven.estimate) tt whole (omega (arith, within)) behind number shows proven (λ short' never'. tt))

      -- a tick with a command
      module _ (cost : ℕ) (state : State) (k : ℕ) (shows : TickShows b.model (Promising b) x (Estimated cost state (Send k)) y) (w : Values) (r : Route) where
        abbrev sent : TickReport
        sent = record { tick = tick; shown = Estimated cost state (Send k) }

        abbrev whole_tick : Printed
        whole_tick = record { report = sent; world = Some w; route = Some r }

        module _ (proven : IsProven b x whole_tick) (pairs : List Pair) (route : IsRoute b state.modes pairs r) where
          back_judged : IsWritten r.plan → (i : ℕ) → x.ticks ≤ i → KeepsLimits i (plan_line (codes "back") b.model r.back ++ rest) → IsJudged (Planned sent w r.plan) i (plan_line (codes "back") b.model r.back ++ rest)
          back_judged plan i enough keeps =
              let f = back_fits r.plan r.back route.way_back.goal route.there route.back route.last route.way_back.whole route.shows_back in
              last_judged (Planned sent w r.plan) (Back r.back) whole_tick i f.0 f.1 refl enough keeps number shows proven (λ short never. (plan, not_long (codes "back") r.back short (λ e. never (inr e))))

          plan_judged : (i : ℕ) → x.ticks ≤ i → KeepsLimits i (plan_line (codes "plan") b.model r.plan ++ (plan_line (codes "back") b.model r.back ++ rest))
              → IsJudged (Explained sent w) i (plan_line (codes "plan") b.model r.plan ++ (plan_line (codes "back") b.model r.back ++ rest))
          plan_judged i enough keeps =
              let f = plan_fits r.plan pairs state.modes route.plan route.there route.whole route.shows_plan in
              more_judged (Explained sent w) (Planned sent w r.plan) (Plan r.plan) i (plan_line (codes "back") b.model r.back ++ rest) f.0 f.1 refl keeps
              (λ short never behind. back_judged (not_long (codes "plan") r.plan short (λ e. never (inl e))) (i + 1) (omega (arith, enough)) behind)

          sent_judged : KeepsLimits n (report_line b.model sent ++ (world_line b.model w ++ (plan_line (codes "plan") b.model r.plan ++ (plan_line (codes "back") b.model r.back ++ rest))))
              → IsJudged Nothing n (report_line b.model sent ++ (world_line b.model w ++ (plan_line (codes "plan") b.model r.plan ++ (plan_line (codes "back") b.model r.back ++ rest))))
          sent_judged keeps =
              let lines : List ℕ = plan_line (codes "plan") b.model r.plan ++ (plan_line (codes "back") b.model r.back ++ rest) in
              let is : next_lines x.ticks Nothing (Tick sent) ≡ More (Reported sent) = rw is_next refl in
              more_judged Nothing (Reported sent) (Tick sent) n (world_line b.model w ++ lines) (tick_fits (Estimated cost state (Send k)) (report_line b.model sent ++ (world_line b.model w ++ lines)) shows keeps) tt is keeps
              (λ short never behind. more_judged (Reported sent) (Explained sent w) (World w) (n + 1) lines (world_line_fits cost state (Send k) shows w proven.estimate) tt refl behind
              (λ short' never' left. plan_judged (n + 1 + 1) (omega (arith, within)) left))

      -- ---- each tick

      no_more : (line : List ℕ) → ((line ++ []) ++ []) ++ rest ≡ line ++ rest
      no_more line = ap (λ (z : List ℕ). z ++ rest) (append-nil (line ++ []) ∙ append-nil line)

      one_more : (line more : List ℕ) → ((line ++ more) ++ []) ++ rest ≡ line ++ (more ++ rest)
      one_more line more = ap (λ (z : List ℕ). z ++ rest) (append-nil (line ++ more)) ∙ append_assoc line more rest

      three_more : (line world plan back : List ℕ) → ((line ++ world) ++ (plan ++ back)) ++ rest ≡ line ++ (world ++ (plan ++ (back ++ rest)))
      three_more line world plan back =
          append_assoc (line ++ world) (plan ++ back) rest ∙ ap (λ (z : List ℕ). (line ++ world) ++ z) (append_assoc plan back rest) ∙ append_assoc line world (plan ++ (back ++ rest))

      -- the text is judged as it stands
      along : (text lines : List ℕ) → text ≡ lines → (KeepsLimits n lines → IsJudged Nothing n lines) → KeepsLimits n text → IsJudged Nothing n text
      along text lines is h keeps = subst (λ (z : List ℕ). IsJudged Nothing n z) (sym is) (h (subst (KeepsLimits n) is keeps))

      abbrev tick_of : Shown → Option Values → Option Route → Printed
      tick_of shown world route = record { report = record { tick = tick; shown = shown }; world = world; route = route }

      -- the text of a tick is judged before the rest
      abbrev IsTickJudged : Shown → Option Values → Option Route → Type 0
      IsTickJudged shown world route = IsProven b x (tick_of shown world route) → KeepsLimits n (tick_text b.model (tick_of shown world route) ++ rest) → IsJudged Nothing n (tick_text b.model (tick_of shown world route) ++ rest)

      quiet_tick : (cost : ℕ) (state : State) (reply : Reply) (w : Values) (route : Option Route) → TickShows b.model (Promising b) x (Estimated cost state reply) y → has_route (Estimated cost state reply) ≡ false → route ≡ None
          → IsTickJudged (Estimated cost state reply) (Some w) route
      quiet_tick cost state reply w route shows quiet none =
          subst (IsTickJudged (Estimated cost state reply) (Some w)) (sym none) (λ proven keeps.
          along (tick_text b.model (tick_of (Estimated cost state reply) (Some w) None) ++ rest) (report_line b.model (record { tick = tick; shown = Estimated cost state reply }) ++ (world_line b.model w ++ rest))
          (one_more (report_line b.model (record { tick = tick; shown = Estimated cost state reply })) (world_line b.model w)) (quiet_judged cost state reply shows w quiet proven) keeps)

      sent_tick : (cost : ℕ) (state : State) (k : ℕ) (w : Values) (route : Option Route) → TickShows b.model (Promising b) x (Estimated cost state (Send k)) y → ProvesReply b state.modes x.goal (Send k) route → IsTickJudged (Estimated cost state (Send k)) (Some w) route
      unfolding route_text
      sent_tick cost state k w None shows proves = absurd proves
      sent_tick cost state k w (Some r) shows (pairs, is, route, home) = λ proven keeps.
          let report : TickReport = record { tick = tick; shown = Estimated cost state (Send k) } in
          along (tick_text b.model (tick_of (Estimated cost state (Send k)) (Some w) (Some r)) ++ rest)
          (report_line b.model report ++ (world_line b.model w ++ (plan_line (codes "plan") b.model r.plan ++ (plan_line (codes "back") b.model r.back ++ rest))))
          (three_more (report_line b.model report) (world_line b.model w) (plan_line (codes "plan") b.model r.plan) (plan_line (codes "back") b.model r.back)) (sent_judged cost state k shows w r proven pairs route) keeps

      estimate_tick : (cost : ℕ) (state : State) (reply : Reply) (w : Values) (route : Option Route) → TickShows b.model (Promising b) x (Estimated cost state reply) y → ProvesReply b state.modes x.goal reply route → IsTickJudged (Estimated cost state reply) (Some w) route
      estimate_tick cost state (Send k) w route shows proves = sent_tick cost state k w route shows proves
      estimate_tick cost state Idle w route shows proves = quiet_tick cost state Idle w route shows refl proves
      estimate_tick cost state Achieved w route shows proves = quiet_tick cost state Achieved w route shows refl proves
      estimate_tick cost state (Unreachable c mode) w route shows proves = quiet_tick cost state (Unreachable c mode) w route shows refl proves

      bare_tick : (shown : Shown) (world : Option Values) (route : Option Route) → has_world shown ≡ false → TickShows b.model (Promising b) x shown y → world ≡ None → route ≡ None → IsTickJudged shown world route
      bare_tick shown world route bare shows no_world no_route =
          let report : TickReport = record { tick = tick; shown = shown } in
          subst (λ (v : Option Values). IsTickJudged shown v route) (sym no_world) (subst (IsTickJudged shown None) (sym no_route) (λ proven keeps.
          along (tick_text b.model (tick_of shown None None) ++ rest) (report_line b.model report ++ rest) (no_more (report_line b.model report)) (bare_judged shown bare shows proven) keeps))

      each_tick : (shown : Shown) (world : Option Values) (route : Option Route) → TickShows b.model (Promising b) x shown y → ProvesEstimate b x shown world → ProvesCommand b x shown route → IsTickJudged shown world route
      each_tick (Estimated cost state reply) None route shows estimate command = absurd estimate
      each_tick (Estimated cost state reply) (Some w) route shows estimate command = estimate_tick cost state reply w route shows command
      each_tick Unexplained world route shows estimate command = bare_tick Unexplained world route refl shows estimate command
      each_tick Holding world route shows estimate command = bare_tick Holding world route refl shows estimate command

    -- a printed tick that is proven is read, gets a Yes, and leads to the next one
    pub tick_judged : (n : ℕ) (t : Printed) → t.report.tick ≡ x.ticks + 1 → x.ticks ≤ n → TickShows b.model (Promising b) x t.report.shown y → IsProven b x t → KeepsLimits n (tick_text b.model t ++ rest)
        → JudgesLines b.model (before_tick (with_goal x given) (Some events)) n (all_lines (lines_in (tick_text b.model t ++ rest))) end
    tick_judged n t number within shows proven keeps =
        each_tick n t.report.tick number within t.report.shown t.world t.route shows proven.estimate proven.command proven keeps
