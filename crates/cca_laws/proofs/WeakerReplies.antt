-- Where one kind of replies is of another, so are the traces.
use Rattle.std.proofs.Common.{ℕ, List, [], ◌∷◌, ◌++◌, Option, Some, None}
use Rattle.cca_base.specs.declared.cube.Pair.{Pair}
use Rattle.cca_base.specs.declared.events.Event.{Event}
use Rattle.cca_base.specs.declared.events.Event.TheVariants as event
use Rattle.cca_base.specs.declared.events.Reply.{Reply}
use Rattle.cca_base.specs.declared.events.Shown.{Shown}
use Rattle.cca_base.specs.declared.events.Shown.TheVariants.{Estimated, Unexplained, Holding}
use Rattle.cca_base.specs.declared.events.TickReport.{TickReport}
use Rattle.cca_base.specs.PlantModel.{PlantModel}
use Rattle.cca_base.specs.Accepted.{CompiledModel}
use Rattle.cca_base.specs.Goals.{IsGoodReply}
use Rattle.cca_base.specs.Choice.{IsChosenReply}
use Rattle.cca_base.specs.Trace.{ExecutiveState, start, ReplyRule, IsReply, TickShows}
use Rattle.cca_base.specs.Runs.{TickRecord, Ticks, Trace}

abbrev pub IsWeaker : ReplyRule → ReplyRule → Type 0
IsWeaker answers others = (s : List ℕ) (goal : List Pair) (reply : Reply) → answers s goal reply → others s goal reply

module _ (answers others : ReplyRule) (weaker : IsWeaker answers others) where
  reply_too : (s : List ℕ) (goal : Option (List Pair)) (reply : Reply) → IsReply answers s goal reply → IsReply others s goal reply
  reply_too s None reply h = h
  reply_too s (Some goal) reply h = weaker s goal reply h

  tick_too : (m : PlantModel) (x : ExecutiveState) (shown : Shown) (y : ExecutiveState) → TickShows m answers x shown y → TickShows m others x shown y
  tick_too m x (Estimated cost state reply) y h = record {
    going = h.going;
    seen = h.seen;
    observed = h.observed;
    estimate = h.estimate;
    replies = reply_too state.modes x.goal reply h.replies;
    plant = h.plant;
    moves = h.moves;
    after = h.after;
  }
  tick_too m x Unexplained y h = h
  tick_too m x Holding y h = h

  pub ticks_too : (b : CompiledModel) (x : ExecutiveState) (since events : List Event) (ts : List TickRecord) → Ticks b answers x since events ts → Ticks b others x since events ts
  ticks_too b x since [] ts h = h
  ticks_too b x since (event.Tick ∷ events) [] h = h
  ticks_too b x since (event.Tick ∷ events) (t ∷ ts) (a, c, n, y, shows, rest) = (a, c, n, y, tick_too b.model x t.report.shown y shows, ticks_too b y [] events ts rest)
  ticks_too b x since (event.Goal pairs ∷ events) ts (y, change, rest) = (y, change, ticks_too b y (since ++ event.Goal pairs ∷ []) events ts rest)
  ticks_too b x since (event.Clear ∷ events) ts (y, change, rest) = (y, change, ticks_too b y (since ++ event.Clear ∷ []) events ts rest)
  ticks_too b x since (event.Observe pairs ∷ events) ts (y, change, rest) = (y, change, ticks_too b y (since ++ event.Observe pairs ∷ []) events ts rest)
  ticks_too b x since (event.Fault p ∷ events) ts (y, change, rest) = (y, change, ticks_too b y (since ++ event.Fault p ∷ []) events ts rest)
  ticks_too b x since (event.Mirror v ∷ events) ts (y, change, rest) = (y, change, ticks_too b y (since ++ event.Mirror v ∷ []) events ts rest)
  ticks_too b x since (event.Reset ∷ events) ts (y, change, rest) = (y, change, ticks_too b y (since ++ event.Reset ∷ []) events ts rest)

weaker_trace : (b : CompiledModel) (answers others : ReplyRule) (events : List Event) (reports : List TickReport) → IsWeaker answers others → Trace b answers events reports → Trace b others events reports
weaker_trace b answers others events reports weaker t = record { ticks = t.ticks; made = ticks_too answers others weaker b (start b.model 0) [] events t.ticks t.made; reported = t.reported }

-- the same of ticks
pub chosen_ticks_are_good : (b : CompiledModel) (x : ExecutiveState) (since events : List Event) (ts : List TickRecord) → Ticks b (IsChosenReply b) x since events ts → Ticks b (IsGoodReply b.model) x since events ts
chosen_ticks_are_good b = ticks_too (IsChosenReply b) (IsGoodReply b.model) (λ s goal reply h. h.good) b

pub chosen_is_good : (b : CompiledModel) (events : List Event) (reports : List TickReport) → Trace b (IsChosenReply b) events reports → Trace b (IsGoodReply b.model) events reports
chosen_is_good b events reports t = weaker_trace b (IsChosenReply b) (IsGoodReply b.model) events reports (λ s goal reply h. h.good) t
