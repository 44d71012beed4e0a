-- Goals are served within their stated numbers.
use Rattle.std.proofs.Common.{◌≡◌, ◌<◌, ◌≤◌, ◌+◌, ◌-◌, ℕ, zero, suc, false, List, [], ◌∷◌, length, take, drop, Some, All, slice_get, refl, sym, ap, subst, ◌∙◌, arith}
use Rattle.std.specs.Prelude.{IfSome}
use Rattle.std.proofs.lemmas.List.Elements.{All-contains, All-head, All-tail, All-weaker}
use Rattle.std.proofs.lemmas.Option.{slice_get_within, get_or_from_slice_get, same_Some}
use Rattle.cca_base.specs.declared.cube.Pair.{Pair}
use Rattle.cca_base.specs.declared.events.Event.{Event}
use Rattle.cca_base.specs.declared.events.Event.TheVariants as event
use Rattle.cca_base.specs.declared.events.Reply.{Reply}
use Rattle.cca_base.specs.declared.events.Reply.TheVariants.{Idle, Send, Achieved, Unreachable}
use Rattle.cca_base.specs.declared.events.Shown.{Shown}
use Rattle.cca_base.specs.declared.events.Shown.TheVariants.{Estimated, Unexplained, Holding}
use Rattle.cca_base.specs.declared.events.TickReport.{TickReport}
use Rattle.cca_base.specs.PlantModel.{PlantModel}
use Rattle.cca_base.specs.Accepted.{CompiledModel, IsCompiled}
use Rattle.cca_base.specs.Model.{WellFormed}
use Rattle.cca_base.specs.Orders.{IsSorted}
use Rattle.cca_base.specs.State.{IsState}
use Rattle.cca_base.specs.Bounds.{stated_number}
use Rattle.cca_base.specs.Successors.{Nominal}
use Rattle.cca_base.specs.Choice.{IsChosenReply}
use Rattle.cca_base.specs.Trace.{ExecutiveState, start, ReplyRule, GoalOrder, Changes, IsReply, command_of, TickShows}
use Rattle.cca_base.specs.Runs.{TickRecord, Trace, IsRight, HasEstimate, LeavesPlantAlone, LeavesPlantAndGoalAlone, reply_of, reply_at, is_unreachable, stretch, IsStretch, ServesGoal, Within}
use Rattle.list_laws.proofs.Places.{get_take}
use Rattle.cca_laws.proofs.GoalLaws.{sends_serve}
use Rattle.cca_laws.proofs.OneOrder.{compiled_none_twice}
use Rattle.trace_laws.specs.Events.{Becomes}
use Rattle.trace_laws.specs.Fits.{IsKeptGoal}
use Rattle.trace_laws.specs.Held.{IsHeldStretch}
use Rattle.cca_base.specs.Plans.{CanBeServed}
use Rattle.cca_base.specs.Steps.{AreReached}
use Rattle.trace_laws.specs.Served.{ServesGoals, MeasuresGoals}
use Rattle.trace_laws.specs.Laws.{EventsMayCome, GoalsAreServed, MeasuredGoalsAreServed, PromisesAreKept}
use Rattle.trace_laws.proofs.TicksLink.{Linked, linked}
use Rattle.trace_laws.proofs.StaysRight.{stays_right}
use Rattle.trace_laws.proofs.CommandsServe.{Left, left_of_whole, left_of_measure, Serving, IsServed, served}
use Rattle.trace_laws.proofs.FitsStay.{goals_kept}

-- ---- places in parts of lists

get_drop : {X : Type 0} (xs : List X) (i k n : ℕ) → n ≡ i + k → slice_get (drop i xs) k ≡ slice_get xs n
get_drop xs zero k n e = ap (slice_get xs) (sym (e ∙ omega arith))
get_drop [] (suc i) k n e = refl
get_drop (x ∷ xs) (suc i) k zero e = absurd (omega (arith, e))
get_drop (x ∷ xs) (suc i) k (suc n) e = get_drop xs i k n (omega (arith, e))

-- the element at a place, with those after it
pub record IsAt {X : Type 0} (xs : List X) (i : ℕ) (x : X) : Type 0 where
  pub got : slice_get xs i ≡ Some x
  pub split : drop i xs ≡ x ∷ drop (suc i) xs

at_place : {X : Type 0} (xs : List X) (i : ℕ) → i < length xs → (x : X) × IsAt xs i x
at_place [] i h = absurd (omega (arith, h))
at_place (x ∷ xs) zero h = (x, record { got = refl; split = refl })
at_place (x ∷ xs) (suc i) h = let rest = at_place xs i (omega (arith, h)) in (rest.0, record { got = rest.1.got; split = rest.1.split })

-- the ticks after the first of a stretch
tail_of : (ticks : List TickRecord) (i j : ℕ) (t : TickRecord) → i ≤ j → IsAt ticks i t → stretch ticks i j ≡ t ∷ stretch ticks (i + 1) j
tail_of ticks i j t rising at =
    let more : j + 1 - i ≡ suc (j + 1 - (i + 1)) = omega (arith, rising) in
    let next : suc i ≡ i + 1 = omega arith in
    ap (λ n. take n (drop i ticks)) more ∙ ap (take (suc (j + 1 - (i + 1)))) at.split ∙ ap (λ n. t ∷ take (j + 1 - (i + 1)) (drop n ticks)) next

-- ---- ticks of a stretch

leaves_plant : (e : Event) → LeavesPlantAndGoalAlone e → LeavesPlantAlone e
leaves_plant (event.Goal pairs) h = tt
leaves_plant event.Clear h = tt
leaves_plant (event.Observe pairs) h = tt
leaves_plant (event.Fault p) h = h
leaves_plant (event.Mirror v) h = tt
leaves_plant event.Reset h = h
leaves_plant event.Tick h = tt

-- a stretch in which the goal isn't set anew is one in which it is held
pub held : (ticks : List TickRecord) (goal : List Pair) (i j : ℕ) → IsStretch ticks goal i j → IsHeldStretch ticks goal i j
held ticks goal i j h = record {
  rising = h.rising;
  within = h.within;
  goals = h.goals;
  quiet = All-weaker (λ t. All LeavesPlantAndGoalAlone t.since) (λ t. All LeavesPlantAlone t.since) (λ t all. All-weaker LeavesPlantAndGoalAlone LeavesPlantAlone leaves_plant t.since all) (stretch ticks (i + 1) j) h.quiet;
  right = h.right;
  reachable = h.reachable;
}

module _ (m : PlantModel) (ordering : GoalOrder) where
  one_event : (x : ExecutiveState) (e : Event) (y : ExecutiveState) → LeavesPlantAlone e → Changes m ordering x e y → y.plant ≡ x.plant
  one_event x (event.Goal pairs) y leaves (goal, k, e) = ap (λ (s : ExecutiveState). s.plant) e
  one_event x event.Clear y leaves e = ap (λ (s : ExecutiveState). s.plant) e
  one_event x (event.Observe pairs) y leaves (both, k, e) = ap (λ (s : ExecutiveState). s.plant) e
  one_event x (event.Fault p) y leaves h = absurd leaves
  one_event x (event.Mirror v) y leaves e = ap (λ (s : ExecutiveState). s.plant) e
  one_event x event.Reset y leaves h = absurd leaves
  one_event x event.Tick y leaves h = absurd h

  same_plant : (x : ExecutiveState) (events : List Event) (y : ExecutiveState) → All LeavesPlantAlone events → Becomes m ordering x events y → y.plant ≡ x.plant
  same_plant x [] y all e = ap (λ (s : ExecutiveState). s.plant) e
  same_plant x (e ∷ events) y all (z, change, rest) =
      same_plant z events y (All-tail LeavesPlantAlone e events all) rest ∙ one_event x e z (All-head LeavesPlantAlone e events all) change

linked_drop : (b : CompiledModel) (answers : ReplyRule) (i : ℕ) (x : ExecutiveState) (ts : List TickRecord) → Linked b answers x ts → (y : ExecutiveState) × Linked b answers y (drop i ts)
linked_drop b answers zero x ts h = (x, h)
linked_drop b answers (suc i) x [] h = (x, tt)
linked_drop b answers (suc i) x (t ∷ ts) h = linked_drop b answers i h.1 ts h.3

linked_take : (b : CompiledModel) (answers : ReplyRule) (n : ℕ) (x : ExecutiveState) (ts : List TickRecord) → Linked b answers x ts → Linked b answers x (take n ts)
linked_take b answers zero x ts h = tt
linked_take b answers (suc n) x [] h = tt
linked_take b answers (suc n) x (t ∷ ts) (comes, y, shows, rest) = (comes, y, shows, linked_take b answers n y ts rest)

module _ (b : CompiledModel) (good : WellFormed b.model) (goal : List Pair) where
  -- what a right tick shows of the goal
  pub record Replies (plant : List ℕ) (shown : Shown) (next : List ℕ) : Type 0 where
    pub reply : Reply
    pub given : reply_of shown ≡ Some reply
    pub chosen : IsChosenReply b plant goal reply
    pub state : IsState b.model plant
    pub moves : Nominal b.model plant (command_of reply) next

  replies : (x : ExecutiveState) (shown : Shown) (y : ExecutiveState) → x.goal ≡ Some goal → HasEstimate shown x.plant → TickShows b.model (IsChosenReply b) x shown y → Replies x.plant shown y.plant
  replies x (Estimated cost state reply) y is right shows = record {
    reply = reply;
    given = refl;
    chosen = subst (λ s. IsChosenReply b s goal reply) right (subst (λ g. IsReply (IsChosenReply b) state.modes g reply) is shows.replies);
    state = subst (IsState b.model) right shows.estimate.consistent.costs.state;
    moves = subst (Nominal b.model x.plant (command_of reply)) (sym (ap (λ (s : ExecutiveState). s.plant) shows.after)) shows.moves;
  }
  replies x Unexplained y is right shows = absurd right
  replies x Holding y is right shows = absurd right

  abbrev HasGoal : TickRecord → Type 0
  HasGoal t = t.before.goal ≡ Some goal

  abbrev IsQuiet : TickRecord → Type 0
  IsQuiet t = All LeavesPlantAlone t.since

  serves_on : (t : TickRecord) (s next : List ℕ) (ts : List TickRecord) → s ≡ t.before.plant → Replies t.before.plant t.report.shown next → Serving b good goal next ts → Serving b good goal s (t ∷ ts)
  serves_on t s next ts e r rest =
      (r.reply, r.given, subst (λ z. IsChosenReply b z goal r.reply) (sym e) r.chosen, next, subst (λ z. Nominal b.model z (command_of r.reply) next) (sym e) r.moves, rest)

  serving : (x : ExecutiveState) (ts : List TickRecord) → Linked b (IsChosenReply b) x ts → All HasGoal ts → All IsQuiet ts → All IsRight ts → Serving b good goal x.plant ts
  serving x [] h goals quiet right = tt
  serving x (t ∷ ts) (comes, y, shows, rest) goals quiet right =
      let same : t.before.plant ≡ x.plant = same_plant b.model (IsSorted b.order) x t.since t.before (All-head IsQuiet t ts quiet) comes in
      serves_on t x.plant y.plant ts (sym same)
      (replies t.before t.report.shown y (All-head HasGoal t ts goals) (All-head IsRight t ts right) shows)
      (serving y ts rest (All-tail HasGoal t ts goals) (All-tail IsQuiet t ts quiet) (All-tail IsRight t ts right))

  -- a goal that is not said to be unreachable is reached
  reached : (s : List ℕ) (reply : Reply) → IsChosenReply b s goal reply → is_unreachable (Some reply) ≡ false → AreReached b.model s goal
  reached s Idle h e = absurd h.good
  reached s (Send k) h e = (sends_serve b.model s goal k h.good).1
  reached s Achieved h e = λ i d within. ([], s, refl, h.good i d within)
  reached s (Unreachable c mode) h e = absurd cc

  -- a stretch that begins with a tick
  pub record Begins (t : TickRecord) (ts : List TickRecord) : Type 0 where
    pub state : IsState b.model t.before.plant
    pub reached : AreReached b.model t.before.plant goal
    serving : Serving b good goal t.before.plant (t ∷ ts)

  begins : (x : ExecutiveState) (t : TickRecord) (ts : List TickRecord) → Linked b (IsChosenReply b) x (t ∷ ts) → All HasGoal (t ∷ ts) → All IsQuiet ts → All IsRight (t ∷ ts) → is_unreachable (reply_at t) ≡ false → Begins t ts
  begins x t ts (comes, y, shows, rest) goals quiet right able =
      let r = replies t.before t.report.shown y (All-head HasGoal t ts goals) (All-head IsRight t ts right) shows in
      record {
        state = r.state;
        reached = reached t.before.plant r.reply r.chosen (ap is_unreachable (sym r.given) ∙ able);
        serving = serves_on t t.before.plant y.plant ts refl r (serving y ts rest (All-tail HasGoal t ts goals) quiet (All-tail IsRight t ts right));
      }

  -- ---- a stretch of a run

  abbrev LeftWithin : ℕ → List ℕ → Type 0
  LeftWithin number s = (n : ℕ) × (n ≤ number) × Left b good goal n s

  in_stretch : (ticks : List TickRecord) (i j k : ℕ) (t : TickRecord) → i ≤ k → k ≤ j → slice_get ticks k ≡ Some t → slice_get (stretch ticks i j) (k - i) ≡ Some t
  in_stretch ticks i j k t low high at =
      get_take (drop i ticks) (j + 1 - i) (k - i) (omega (arith, low, high)) ∙ get_drop ticks i (k - i) k (omega (arith, low)) ∙ at

  serves : (number : ℕ) (ticks : List TickRecord) (i j n : ℕ) → n ≤ number → IsServed b good goal n (stretch ticks i j) → ServesGoal number ticks i j
  serves number ticks i j n below h = record {
    reached = h.reached;
    few = omega (arith, h.few, below);
    stays = λ first later t u low before high at there is.
        h.stays (first - i) (later - i) t u (omega (arith, low, before)) (in_stretch ticks i j first t low (omega (arith, before, high)) at) (in_stretch ticks i j later u (omega (arith, low, before)) high there) is;
    stands = λ late t low high at. h.stands (late - i) t (omega (arith, low, below)) (in_stretch ticks i j late t (omega (arith, low)) high at);
  }

  pub stretch_served : (number : ℕ) (x : ExecutiveState) (ticks : List TickRecord) (i j : ℕ) → Linked b (IsChosenReply b) x ticks → IsHeldStretch ticks goal i j
      → ((t : TickRecord) → slice_get ticks i ≡ Some t → IsState b.model t.before.plant → AreReached b.model t.before.plant goal → LeftWithin number t.before.plant) → ServesGoal number ticks i j
  stretch_served number x ticks i j linked h left =
      let first : (t : TickRecord) × IsAt ticks i t = at_place ticks i (omega (arith, h.rising, h.within)) in
      let t : TickRecord = first.0 in
      let rest : List TickRecord = stretch ticks (i + 1) j in
      let split : stretch ticks i j ≡ t ∷ rest = tail_of ticks i j t h.rising first.1 in
      let from : (y : ExecutiveState) × Linked b (IsChosenReply b) y (drop i ticks) = linked_drop b (IsChosenReply b) i x ticks linked in
      let there : Linked b (IsChosenReply b) from.0 (t ∷ rest) = subst (Linked b (IsChosenReply b) from.0) split (linked_take b (IsChosenReply b) (j + 1 - i) from.0 (drop i ticks) from.1) in
      let begin : Begins t rest = begins from.0 t rest there (subst (All HasGoal) split h.goals) h.quiet (subst (All IsRight) split h.right) (h.reachable t first.1.got) in
      let few : LeftWithin number t.before.plant = left t first.1.got begin.state begin.reached in
      let done : IsServed b good goal few.0 (t ∷ rest) = served b good goal few.0 t.before.plant (t ∷ rest) begin.state begin.reached few.2 begin.serving in
      serves number ticks i j few.0 few.1 (subst (IsServed b good goal few.0) (sym split) done)

pub plan_left : (b : CompiledModel) (compiled : IsCompiled b) (goal : List Pair) (s : List ℕ) → IsState b.model s → CanBeServed b s goal → LeftWithin b compiled.accepted.well_formed goal (stated_number b.bounds goal) s
plan_left b compiled goal s state plan = (length plan.0, plan.3, left_of_whole b compiled.accepted.well_formed goal (compiled_none_twice b compiled) plan.0 s plan.1 state plan.2)

-- ---- runs

-- what holds of all ticks of a stretch holds of its first
at_first : (P : TickRecord → Type 0) (ticks : List TickRecord) (i j : ℕ) (t : TickRecord) → i ≤ j → j < length ticks → All P (stretch ticks i j) → slice_get ticks i ≡ Some t → P t
at_first P ticks i j t rising within all at =
    let first : (u : TickRecord) × IsAt ticks i u = at_place ticks i (omega (arith, rising, within)) in
    let own : P first.0 = All-head P first.0 (stretch ticks (i + 1) j) (subst (All P) (tail_of ticks i j first.0 rising first.1) all) in
    subst P (same_Some first.0 t (sym first.1.got ∙ at)) own

pub goal_at : (ticks : List TickRecord) (goal : List Pair) (i j : ℕ) (t : TickRecord) → IsHeldStretch ticks goal i j → slice_get ticks i ≡ Some t → t.before.goal ≡ Some goal
goal_at ticks goal i j t h at = at_first (λ u. u.before.goal ≡ Some goal) ticks i j t h.rising h.within h.goals at

pub right_at : (ticks : List TickRecord) (goal : List Pair) (i j : ℕ) (t : TickRecord) → IsHeldStretch ticks goal i j → slice_get ticks i ≡ Some t → IsRight t
right_at ticks goal i j t h at = at_first IsRight ticks i j t h.rising h.within h.right at

-- the goal of a stretch is kept as goals are
goal_kept : (b : CompiledModel) (ticks : List TickRecord) (goal : List Pair) (i j : ℕ) → All (λ t. IfSome t.before.goal (IsKeptGoal b)) ticks → IsStretch ticks goal i j → IsKeptGoal b goal
goal_kept b ticks goal i j kept h =
    let first : (t : TickRecord) × IsAt ticks i t = at_place ticks i (omega (arith, h.rising, h.within)) in
    let t : TickRecord = first.0 in
    subst (λ g. IfSome g (IsKeptGoal b)) (goal_at ticks goal i j t (held ticks goal i j h) first.1.got)
    (All-contains (λ t. IfSome t.before.goal (IsKeptGoal b)) ticks t kept (i, slice_get_within ticks i t first.1.got, get_or_from_slice_get ticks i t t first.1.got))

module _ (b : CompiledModel) (compiled : IsCompiled b) (events : List Event) (come : EventsMayCome b events) (reports : List TickReport) (t : Trace b (IsChosenReply b) events reports) where
  links : Linked b (IsChosenReply b) (start b.model 0) t.ticks
  links = linked b (IsChosenReply b) events (start b.model 0) (start b.model 0) [] t.ticks refl t.made

  kept : All (λ t. IfSome t.before.goal (IsKeptGoal b)) t.ticks
  kept = goals_kept b (IsChosenReply b) compiled events t.ticks come t.made

  serves_goals : ServesGoals b → Within b t.ticks
  serves_goals served goal i j h =
      let is : IsKeptGoal b goal = goal_kept b t.ticks goal i j kept h in
      stretch_served b compiled.accepted.well_formed goal (stated_number b.bounds goal) (start b.model 0) t.ticks i j links (held t.ticks goal i j h) (λ u at state reached. plan_left b compiled goal u.before.plant state (served u.before.plant goal state is reached))

  measures_goals : MeasuresGoals b → Within b t.ticks
  measures_goals measured goal i j h =
      let measure = measured goal (goal_kept b t.ticks goal i j kept h) in
      stretch_served b compiled.accepted.well_formed goal (stated_number b.bounds goal) (start b.model 0) t.ticks i j links (held t.ticks goal i j h) (λ u at state reached. (
        stated_number b.bounds goal,
        omega arith,
        left_of_measure b compiled.accepted.well_formed goal measure.0 measure.1 (stated_number b.bounds goal) u.before.plant state reached (measure.1.small u.before.plant state reached),
      ))

pub goals_are_served : GoalsAreServed
goals_are_served b events reports compiled served come t = serves_goals b compiled events come reports t served

pub measured_goals_are_served : MeasuredGoalsAreServed
measured_goals_are_served b events reports compiled measured come t = measures_goals b compiled events come reports t measured

pub promises_are_kept : PromisesAreKept
promises_are_kept b events reports compiled served come t = record {
  compiled = compiled;
  trace = t;
  within = serves_goals b compiled events come reports t served;
  stays_right = stays_right b compiled.accepted.well_formed (IsChosenReply b) 0 t.ticks (links b compiled events come reports t);
}
