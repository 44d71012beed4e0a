-- Compiled models and traces in another version.
use Rattle.std.proofs.Common.{◌≡◌, ◌++◌, zero, suc, ℕ, List, [], ◌∷◌, Option, Some, None, false, inl, inr}
use Rattle.std.proofs.lemmas.List.Elements.{All-weaker}
use Rattle.cca_base.specs.declared.cube.Pair.{Pair}
use Rattle.cca_base.specs.declared.model.Move.{Move}
use Rattle.cca_base.specs.declared.events.Event.{Event}
use Rattle.cca_base.specs.declared.events.Event.TheVariants as event
use Rattle.cca_base.specs.declared.events.Reply.{Reply}
use Rattle.cca_base.specs.declared.events.Reply.TheVariants.{Idle, Send, Achieved, Unreachable}
use Rattle.cca_base.specs.declared.events.Shown.{Shown}
use Rattle.cca_base.specs.declared.events.Shown.TheVariants.{Estimated, Unexplained, Holding}
use Rattle.cca_base.specs.PlantModel.{PlantModel}
use Rattle.cca_base.specs.Accepted.{AreWays, HasFewWays, Accepted, CompiledModel}
use Rattle.cca_base.specs.Bounds.{IsBound, AreBounds}
use Rattle.cca_base.specs.Relations.{AreExactly}
use Rattle.cca_base.specs.Implicants.{Needs, Ancestor, IsAcyclic}
use Rattle.cca_base.specs.Model.{WellFormed, is_broken}
use Rattle.cca_base.specs.State.{HasWorlds}
use Rattle.cca_base.specs.Steps.{Reach}
use Rattle.cca_base.specs.Goals.{IsGoodReply}
use Rattle.cca_base.specs.Choice.{IsWithinReach, IsOpenAt, Walk, IsDistance, ComesNearer, IsChosen, Picks, Now, First, PicksForGoal}
use Rattle.cca_base.specs.Plans.{Whole, Promising, IsWanted, Back}
use Rattle.cca_base.specs.Trace.{ExecutiveState, IsReply, HasOneValue, Observed, TickShows, command_of, start}
use Rattle.cca_base.specs.Runs.{TickRecord, Ticks}
use Rattle.cca_base.proofs.PathLaws.{path_along as path_at}
use Rattle.version_laws.specs.Laws.{at_version}
use Rattle.version_laws.specs.Traces.{compiled_at, CompiledAlike, PromisesAlike, TracesAlike, RoutesAlike, FirstWorldsAlike}
use Rattle.version_laws.proofs.Kept.{state_at, world_at, prime_at, needs_at, step_at, plan_at, reach_at, order_at, nominal_at, estimate_at, consistent_at}

-- ---- what is compiled

exactly_at : (P Q : ℕ → Type 0) → ((u : ℕ) → P u → Q u) → ((u : ℕ) → Q u → P u) → (numbers : List ℕ) → AreExactly P numbers → AreExactly Q numbers
exactly_at P Q on back numbers h = record { rising = h.rising; each = λ u. ((λ among. on u ((h.each u).0 among)), (λ q. (h.each u).1 (back u q))) }

ancestor_at : (m : PlantModel) (v : ℕ) (c u : ℕ) → Ancestor m c u → Ancestor (at_version v m) c u
ancestor_at m v c u h = (h.0, path_at (Needs m) (Needs (at_version v m)) (needs_at m v) c h.0 u h.1)

acyclic_at : (m : PlantModel) (v : ℕ) → IsAcyclic m → IsAcyclic (at_version v m)
acyclic_at m v h c above = h c (ancestor_at (at_version v m) m.version c c above)

bounds_at : (m : PlantModel) (v : ℕ) (bounds : List ℕ) → AreBounds m bounds → AreBounds (at_version v m) bounds
bounds_at m v bounds h = record {
  full = h.full;
  each = λ c within. let own : IsBound m bounds c = h.each c within in record {
    needs = own.needs;
    are_needs = exactly_at (Needs m c) (Needs (at_version v m) c) (needs_at m v c) (needs_at (at_version v m) m.version c) own.needs own.are_needs;
    equation = own.equation;
  };
}

ways_at : (m : PlantModel) (v : ℕ) (move : Move) (cubes : List (List Pair)) → AreWays m move cubes → AreWays (at_version v m) move cubes
ways_at m v move cubes h = record {
  in_order = h.in_order;
  each = λ cube. ((λ among. prime_at m v move cube ((h.each cube).0 among)), (λ prime. (h.each cube).1 (prime_at (at_version v m) m.version move cube prime)));
}

few_at : (m : PlantModel) (v : ℕ) (move : Move) → HasFewWays m move → HasFewWays (at_version v m) move
few_at m v move h = (h.0, (λ cube prime. h.1 cube (prime_at (at_version v m) m.version move cube prime)), h.2)

worlds_at : (m : PlantModel) (v : ℕ) → HasWorlds m → HasWorlds (at_version v m)
worlds_at m v h s state = let w = h s (state_at (at_version v m) m.version s state) in (w.0, world_at m v s w.0 w.1)

accepted_at : (m : PlantModel) (v : ℕ) → WellFormed (at_version v m) → Accepted m → Accepted (at_version v m)
accepted_at m v well h = record {
  well_formed = well;
  complete = h.complete;
  worlds = worlds_at m v h.worlds;
  few_ways = All-weaker (HasFewWays m) (HasFewWays (at_version v m)) (few_at m v) m.moves h.few_ways;
  acyclic = acyclic_at m v h.acyclic;
  bounded = (h.bounded.0, bounds_at m v h.bounded.0 h.bounded.1, h.bounded.2);
}

pub compiled_alike : CompiledAlike
compiled_alike b v well h = record {
  accepted = accepted_at b.model v well h.accepted;
  ways_full = h.ways_full;
  ways = λ i move cubes at_move at_cubes. ways_at b.model v move cubes (h.ways i move cubes at_move at_cubes);
  order = order_at b.model v b.order h.order;
  bounds = bounds_at b.model v b.bounds h.bounds;
  sum_fits = h.sum_fits;
}

-- ---- choices

reaches_at : (m : PlantModel) (v : ℕ) (s : List ℕ) (pairs : List Pair) → IsWithinReach m s pairs → IsWithinReach (at_version v m) s pairs
reaches_at m v s pairs h = All-weaker (λ p. Reach m s p.item p.value × (is_broken m.moves p.item p.value ≡ false)) (λ p. Reach (at_version v m) s p.item p.value × (is_broken m.moves p.item p.value ≡ false)) (λ p k. (reach_at m v s p.item p.value k.0, k.1)) pairs h

open_at : (m : PlantModel) (v : ℕ) (s : List ℕ) (move : Move) → IsOpenAt m s move → IsOpenAt (at_version v m) s move
open_at m v s move h = (h.0, prime_at m v move h.0 h.1, reaches_at m v s h.0 h.2)

walk_at : (m : PlantModel) (v : ℕ) (s : List ℕ) (c from to n : ℕ) → Walk m s c from to n → Walk (at_version v m) s c from to n
walk_at m v s c from to zero h = h
walk_at m v s c from to (suc n) h = (h.0, h.1, h.2, h.3, open_at m v s h.0 h.4, walk_at m v s c h.0.target to n h.5)

distance_at : (m : PlantModel) (v : ℕ) (s : List ℕ) (c from to n : ℕ) → IsDistance m s c from to n → IsDistance (at_version v m) s c from to n
distance_at m v s c from to n h = (walk_at m v s c from to n h.0, λ fewer w. h.1 fewer (walk_at (at_version v m) m.version s c from to fewer w))

nearer_at : (m : PlantModel) (v : ℕ) (s : List ℕ) (c to : ℕ) (move : Move) → ComesNearer m s c to move → ComesNearer (at_version v m) s c to move
nearer_at m v s c to move h = record {
  own = h.own;
  source = h.source;
  open_move = open_at m v s move h.open_move;
  rest = h.rest;
  before = distance_at m v s c move.source to (suc h.rest) h.before;
  after = distance_at m v s c move.target to h.rest h.after;
}

chosen_at : (m : PlantModel) (v : ℕ) (s : List ℕ) (c to : ℕ) (move : Move) (cube : List Pair) → IsChosen m s c to move cube → IsChosen (at_version v m) s c to move cube
chosen_at m v s c to move cube h = record {
  at = h.at;
  move_at = h.move_at;
  nearer = nearer_at m v s c to move h.nearer;
  first_move = λ earlier other less at nearer. h.first_move earlier other less at (nearer_at (at_version v m) m.version s c to other nearer);
  prime = prime_at m v move cube h.prime;
  reached = reaches_at m v s cube h.reached;
  first_cube = λ other prime reached. h.first_cube other (prime_at (at_version v m) m.version move other prime) (reaches_at (at_version v m) m.version s other reached);
}

module _ (b : CompiledModel) (v : ℕ) (s : List ℕ) where
  picks_at : (c to k : ℕ) → Picks b s c to k → Picks (compiled_at v b) s c to k
  picks_at _ _ _ (Now c to move cube chosen held) = Now c to move cube (chosen_at b.model v s c to move cube chosen) held
  picks_at _ _ _ (First c to k move cube p chosen next rest) = First c to k move cube p (chosen_at b.model v s c to move cube chosen) next (picks_at p.item p.value k rest)

  goal_at : (goal : List Pair) (k : ℕ) → PicksForGoal b s goal k → PicksForGoal (compiled_at v b) s goal k
  goal_at goal k h = (h.0, h.1, picks_at h.0.item h.0.value k h.2)

  good_at : (goal : List Pair) (reply : Reply) → IsGoodReply b.model s goal reply → IsGoodReply (at_version v b.model) s goal reply
  good_at goal Idle h = h
  good_at goal Achieved h = h
  good_at goal (Send k) h = (
    record {
      next = h.0.next;
      step = step_at b.model v s k h.0.next h.0.step;
      pair = h.0.pair;
      wanted = h.0.wanted;
      missing = h.0.missing;
      serves = elim h.0.serves [ inl own ↦ inl own | inr above ↦ inr (ancestor_at b.model v h.0.pair.item h.0.step.move.component above) ];
    },
    record { others = h.1.others; last = h.1.last; plan = plan_at b.model v s (k ∷ h.1.others) h.1.last h.1.plan; stands = h.1.stands },
  )
  good_at goal (Unreachable c mode) h = record {
    before = h.before;
    after = h.after;
    split = h.split;
    reached = All-weaker (λ q. Reach b.model s q.item q.value) (λ q. Reach (at_version v b.model) s q.item q.value) (λ q k. reach_at b.model v s q.item q.value k) h.before h.reached;
    unreached = λ reach. h.unreached (reach_at (at_version v b.model) b.model.version s c mode reach);
  }

whole_at : (b : CompiledModel) (v : ℕ) (goal : List Pair) (s ks last : List ℕ) → Whole b goal s ks last → Whole (compiled_at v b) goal s ks last
whole_at b v goal s [] last h = h
whole_at b v goal s (k ∷ ks) last h = (h.0, goal_at b v s goal k h.1, h.2, step_at b.model v s k h.2 h.3, whole_at b v goal h.2 ks last h.4)

pub promises_alike : PromisesAlike
promises_alike b v s goal reply h = record {
  chosen = record { good = good_at b v s goal reply h.chosen.good; picked = λ k e. goal_at b v s goal k (h.chosen.picked k e) };
  served = λ e. let k = h.served e in (k.0, k.1, whole_at b v goal s k.0 k.1 k.2, k.3);
}

-- ---- ticks

module _ (b : CompiledModel) (v : ℕ) where
  abbrev c : CompiledModel
  c = compiled_at v b

  one_value_at : (m : PlantModel) (u : ℕ) (plant : List ℕ) (p : Pair) → HasOneValue m plant p → HasOneValue (at_version u m) plant p
  one_value_at m u plant p h w world = h w (world_at (at_version u m) m.version plant w world)

  pub observed_at : (x : ExecutiveState) (seen : List Pair) → Observed b.model x seen → Observed c.model x seen
  observed_at x seen h = record {
    rising = h.rising;
    each = λ p. (
      (λ among. elim ((h.each p).0 among) [ inl pending ↦ inl pending | inr mirrored ↦ inr (mirrored.0, one_value_at b.model v x.plant p mirrored.1) ]),
      (λ k. (h.each p).1 (elim k [ inl pending ↦ inl pending | inr mirrored ↦ inr (mirrored.0, one_value_at c.model b.model.version x.plant p mirrored.1) ])),
    );
  }

  reply_at : (s : List ℕ) (goal : Option (List Pair)) (reply : Reply) → IsReply (Promising b) s goal reply → IsReply (Promising c) s goal reply
  reply_at s None reply h = h
  reply_at s (Some goal) reply h = promises_alike b v s goal reply h

  shows_at : (x : ExecutiveState) (shown : Shown) (y : ExecutiveState) → TickShows b.model (Promising b) x shown y → TickShows c.model (Promising c) x shown y
  shows_at x (Estimated cost state reply) y h = record {
    going = h.going;
    seen = h.seen;
    observed = observed_at x h.seen h.observed;
    estimate = estimate_at b.model v x.estimate x.command h.seen state.modes cost h.estimate;
    replies = reply_at state.modes x.goal reply h.replies;
    plant = h.plant;
    moves = nominal_at b.model v x.plant (command_of reply) h.plant h.moves;
    after = h.after;
  }
  shows_at x Unexplained y h = record {
    going = h.going;
    seen = h.seen;
    observed = observed_at x h.seen h.observed;
    unexplained = λ other cost k. h.unexplained other cost (consistent_at c.model b.model.version x.estimate x.command h.seen other cost k);
    after = h.after;
  }
  shows_at x Holding y h = h

  pub ticks_at : (x : ExecutiveState) (since events : List Event) (ticks : List TickRecord) → Ticks b (Promising b) x since events ticks → Ticks c (Promising c) x since events ticks
  ticks_at x since [] ticks h = h
  ticks_at x since (event.Tick ∷ events) [] h = h
  ticks_at x since (event.Tick ∷ events) (t ∷ ticks) h =
      (h.0, h.1, h.2, h.3, shows_at x t.report.shown h.3 h.4, ticks_at h.3 [] events ticks h.5)
  ticks_at x since (event.Goal pairs ∷ events) ticks h = (h.0, h.1, ticks_at h.0 (since ++ event.Goal pairs ∷ []) events ticks h.2)
  ticks_at x since (event.Clear ∷ events) ticks h = (h.0, h.1, ticks_at h.0 (since ++ event.Clear ∷ []) events ticks h.2)
  ticks_at x since (event.Observe pairs ∷ events) ticks h = (h.0, h.1, ticks_at h.0 (since ++ event.Observe pairs ∷ []) events ticks h.2)
  ticks_at x since (event.Fault p ∷ events) ticks h = (h.0, h.1, ticks_at h.0 (since ++ event.Fault p ∷ []) events ticks h.2)
  ticks_at x since (event.Mirror n ∷ events) ticks h = (h.0, h.1, ticks_at h.0 (since ++ event.Mirror n ∷ []) events ticks h.2)
  ticks_at x since (event.Reset ∷ events) ticks h = (h.0, h.1, ticks_at h.0 (since ++ event.Reset ∷ []) events ticks h.2)

pub traces_alike : TracesAlike
traces_alike b v events reports h = record { ticks = h.ticks; made = ticks_at b v (start b.model 0) [] events h.ticks h.made; reported = h.reported }

-- ---- routes and worlds

wanted_at : (m : PlantModel) (v : ℕ) (s : List ℕ) (p : Pair) → IsWanted m s p → IsWanted (at_version v m) s p
wanted_at m v s p (inl held) = inl held
wanted_at m v s p (inr mended) = inr (mended.0, mended.1, mended.2, reach_at m v s p.item p.value mended.3)

back_at : (b : CompiledModel) (v : ℕ) (from s ks last : List ℕ) → Back b from s ks last → Back (compiled_at v b) from s ks last
back_at b v from s ks last h = record {
  goal = h.goal;
  is_goal = record {
    in_order = h.is_goal.in_order;
    each = λ p. (
      (λ among. wanted_at b.model v s p ((h.is_goal.each p).0 among)),
      (λ wanted. (h.is_goal.each p).1 (wanted_at (at_version v b.model) b.model.version s p wanted)),
    );
  };
  whole = whole_at b v h.goal from ks last h.whole;
}

pub routes_alike : RoutesAlike
routes_alike b v well s goal route h = record {
  compiled = compiled_alike b v well h.compiled;
  plan = h.plan;
  there = h.there;
  whole = whole_at b v goal s h.plan h.there h.whole;
  back = h.back;
  last = h.last;
  way_back = back_at b v h.there s h.back h.last h.way_back;
  shows_plan = h.shows_plan;
  shows_back = h.shows_back;
}

pub first_worlds_alike : FirstWorldsAlike
first_worlds_alike m v s seen w h = record {
  world = world_at m v s w h.world;
  agrees = h.agrees;
  first = λ other world. h.first other (world_at (at_version v m) m.version s other world);
}
