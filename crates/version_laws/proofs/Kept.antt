-- Each definition of a model but its rules reads only its parts, so it holds in each version. One direction is enough: the other is the same for the
-- model in the other version, put back.
use Rattle.std.proofs.Common.{◌==◌, not, filter, length, ℕ, List, [], ◌∷◌, Option, inl, inr}
use Rattle.cca_base.specs.declared.cube.Pair.{Pair}
use Rattle.cca_base.specs.declared.model.Move.{Move}
use Rattle.cca_base.specs.declared.formula.Formula.{Formula}
use Rattle.cca_base.specs.PlantModel.{PlantModel}
use Rattle.cca_base.specs.State.{IsState, IsWorld, Holds, Follows}
use Rattle.cca_base.specs.Implicants.{source_pair, PrimeImplicant, Needs}
use Rattle.cca_base.specs.Relations.{numbers_below, IsFreeBy, TakesEffectsFirstBy}
use Rattle.cca_base.specs.Orders.{IsEffectsFirst}
use Rattle.cca_base.specs.Repairs.{Mending}
use Rattle.cca_base.specs.Steps.{support, Step, StepKind, Leads, Run, Allowed, AllowedPlan, Reach}
use Rattle.cca_base.specs.Successors.{IsCommanded, Nominal, Costs}
use Rattle.cca_base.specs.Estimates.{Consistent, Estimate}
use Rattle.version_laws.specs.Laws.{at_version, VersionsAlike}

pub state_at : (m : PlantModel) (v : ℕ) (s : List ℕ) → IsState m s → IsState (at_version v m) s
state_at m v s h = record { full = h.full; modes = h.modes }

pub world_at : (m : PlantModel) (v : ℕ) (s w : List ℕ) → IsWorld m s w → IsWorld (at_version v m) s w
world_at m v s w h = record { full = h.full; values = h.values; rules = h.rules }

holds_at : (m : PlantModel) (v : ℕ) (s : List ℕ) (f : Formula) → Holds m s f → Holds (at_version v m) s f
holds_at m v s f h w world = h w (world_at (at_version v m) m.version s w world)

pub follows_at : (m : PlantModel) (v : ℕ) (pairs : List Pair) (f : Formula) → Follows m pairs f → Follows (at_version v m) pairs f
follows_at m v pairs f h s state extends = holds_at m v s f (h s (state_at (at_version v m) m.version s state) extends)

pub prime_at : (m : PlantModel) (v : ℕ) (move : Move) (cube : List Pair) → PrimeImplicant m move cube → PrimeImplicant (at_version v m) move cube
prime_at m v move cube h = record {
  rising = h.rising;
  modes = h.modes;
  others = h.others;
  suffices = follows_at m v (source_pair move ∷ cube) move.guard h.suffices;
  minimal = λ part is suffices. h.minimal part is (follows_at (at_version v m) m.version (source_pair move ∷ part) move.guard suffices);
}

pub needs_at : (m : PlantModel) (v : ℕ) (c u : ℕ) → Needs m c u → Needs (at_version v m) c u
needs_at m v c u h = record {
  move = h.move;
  of_model = h.of_model;
  own = h.own;
  cube = h.cube;
  prime = prime_at m v h.move h.cube h.prime;
  mode = h.mode;
  occurs = h.occurs;
}

abbrev pub step_at : (m : PlantModel) (v : ℕ) (s : List ℕ) (k : ℕ) (t : List ℕ) → Step m s k t → Step (at_version v m) s k t
step_at m v s k t h = record { move = h.move; of_model = h.of_model; command = h.command; source = h.source; guard = follows_at m v (support m s h.move) h.move.guard h.guard; gives = h.gives }

leads_at : (A B : StepKind) → ((s : List ℕ) (k : ℕ) (t : List ℕ) → A s k t → B s k t) → (s ks t : List ℕ) → Leads A s ks t → Leads B s ks t
leads_at A B each s [] t h = h
leads_at A B each s (k ∷ ks) t h = (h.0, each s k h.0 h.1, leads_at A B each h.0 ks t h.2)

pub run_at : (m : PlantModel) (v : ℕ) (s ks t : List ℕ) → Run m s ks t → Run (at_version v m) s ks t
run_at m v s ks t h = leads_at (Step m) (Step (at_version v m)) (step_at m v) s ks t h

pub mending_at : (m : PlantModel) (v : ℕ) (s t : List ℕ) → Mending m s t → Mending (at_version v m) s t
mending_at m v s t h = record { full = h.full; each = h.each }

allowed_at : (m : PlantModel) (v : ℕ) (s : List ℕ) (k : ℕ) (t : List ℕ) → Allowed m s k t → Allowed (at_version v m) s k t
allowed_at m v s k t h = record {
  step = step_at m v s k t h.step;
  back = elim h.back [
    | inl repair ↦ inl repair
    | inr way ↦ inr (way.0, way.1, run_at m v t way.0 way.1 way.2, mending_at m v s way.1 way.3)
  ];
}

pub plan_at : (m : PlantModel) (v : ℕ) (s ks t : List ℕ) → AllowedPlan m s ks t → AllowedPlan (at_version v m) s ks t
plan_at m v s ks t h = leads_at (Allowed m) (Allowed (at_version v m)) (allowed_at m v) s ks t h

pub reach_at : (m : PlantModel) (v : ℕ) (s : List ℕ) (c mode : ℕ) → Reach m s c mode → Reach (at_version v m) s c mode
reach_at m v s c mode h = (h.0, h.1, plan_at m v s h.0 h.1 h.2, h.3)

-- ---- orders

free_at : (R S : ℕ → ℕ → Type 0) → ((c u : ℕ) → S c u → R c u) → (remaining : List ℕ) (c : ℕ) → IsFreeBy R remaining c → IsFreeBy S remaining c
free_at R S back remaining c h d among need = h d among (back d c need)

takes_at : (R S : ℕ → ℕ → Type 0) → ((c u : ℕ) → R c u → S c u) → ((c u : ℕ) → S c u → R c u) → (remaining order : List ℕ)
    → TakesEffectsFirstBy R remaining order → TakesEffectsFirstBy S remaining order
takes_at R S on back remaining [] h = h
takes_at R S on back remaining (c ∷ order) h = (
  h.0,
  free_at R S back remaining c h.1,
  (λ d less among free. h.2 d less among (free_at S R on remaining d free)),
  takes_at R S on back (filter (λ d. not (d == c)) remaining) order h.3,
)

pub order_at : (m : PlantModel) (v : ℕ) (order : List ℕ) → IsEffectsFirst m order → IsEffectsFirst (at_version v m) order
order_at m v order h = takes_at (Needs m) (Needs (at_version v m)) (needs_at m v) (needs_at (at_version v m) m.version) (numbers_below (length m.components)) order h

-- ---- estimates

commanded_at : (m : PlantModel) (v : ℕ) (s : List ℕ) (k : Option ℕ) (move : Move) → IsCommanded m s k move → IsCommanded (at_version v m) s k move
commanded_at m v s k move h = record { of_model = h.of_model; command = h.command; source = h.source; guard = holds_at m v s move.guard h.guard }

pub nominal_at : (m : PlantModel) (v : ℕ) (s : List ℕ) (k : Option ℕ) (s2 : List ℕ) → Nominal m s k s2 → Nominal (at_version v m) s k s2
nominal_at m v s k s2 (inl moved) = inl (moved.0, commanded_at m v s k moved.0 moved.1, moved.2)
nominal_at m v s k s2 (inr stays) = inr ((λ move h. stays.0 move (commanded_at (at_version v m) m.version s k move h)), stays.1)

costs_at : (m : PlantModel) (v : ℕ) (s : List ℕ) (k : Option ℕ) (s2 : List ℕ) (cost : ℕ) → Costs m s k s2 cost → Costs (at_version v m) s k s2 cost
costs_at m v s k s2 cost h = record {
  state = state_at m v s2 h.state;
  nominal = h.nominal;
  is_nominal = nominal_at m v s k h.nominal h.is_nominal;
  parts = h.parts;
  full = h.full;
  each = h.each;
  total = h.total;
}

pub consistent_at : (m : PlantModel) (v : ℕ) (s : List ℕ) (k : Option ℕ) (seen : List Pair) (s2 : List ℕ) (cost : ℕ) → Consistent m s k seen s2 cost
    → Consistent (at_version v m) s k seen s2 cost
consistent_at m v s k seen s2 cost h =
    record { costs = costs_at m v s k s2 cost h.costs; world = h.world; is_world = world_at m v s2 h.world h.is_world; agrees = h.agrees }

pub estimate_at : (m : PlantModel) (v : ℕ) (s : List ℕ) (k : Option ℕ) (seen : List Pair) (s2 : List ℕ) (cost : ℕ) → Estimate m s k seen s2 cost
    → Estimate (at_version v m) s k seen s2 cost
estimate_at m v s k seen s2 cost h = record {
  consistent = consistent_at m v s k seen s2 cost h.consistent;
  least = λ other more c. h.least other more (consistent_at (at_version v m) m.version s k seen other more c);
  first = λ other c. h.first other (consistent_at (at_version v m) m.version s k seen other cost c);
}

pub versions_alike : VersionsAlike
versions_alike = record {
  states = λ m v s. (state_at m v s, state_at (at_version v m) m.version s);
  worlds = λ m v s w. (world_at m v s w, world_at (at_version v m) m.version s w);
  implicants = λ m v move cube. (prime_at m v move cube, prime_at (at_version v m) m.version move cube);
  orders = λ m v order. (order_at m v order, order_at (at_version v m) m.version order);
  runs = λ m v s t ks. (run_at m v s ks t, run_at (at_version v m) m.version s ks t);
  allowed = λ m v s t ks. (plan_at m v s ks t, plan_at (at_version v m) m.version s ks t);
  reach = λ m v s c mode. (reach_at m v s c mode, reach_at (at_version v m) m.version s c mode);
  estimates = λ m v s k seen s2 cost. (estimate_at m v s k seen s2 cost, estimate_at (at_version v m) m.version s k seen s2 cost);
}
