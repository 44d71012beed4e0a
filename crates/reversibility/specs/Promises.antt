-- What classes promise of the states that they cover.
use Rattle.std.specs.Prelude.{◌≡◌, ◌⊎◌, ◌↔◌, ◌<◌, ℕ, IsTrue, true, false, List, length, slice_index}
use Rattle.cca_base.specs.Model.{is_broken}
use Rattle.cca_base.specs.Sets.{has}
use Rattle.cca_base.specs.Steps.{Step, Allowed, AllowedPlan, Reach}
use Rattle.reach_laws.specs.Classes.{IsHome}
use Rattle.reversibility.specs.ClassParts.{ClassParts, CoversState, in_row}

-- the base mode is broken, and open repairs lead from it to a mode that is not
abbrev pub IsMendable : ClassParts → ℕ → Type 0
IsMendable p c = (is_broken p.compiled.model.moves c (slice_index p.base c) ≡ true) × ((a : ℕ) × IsHome p.compiled.model p.base (in_row p.rows) c a)

-- the base mode is broken, and open repairs lead from it to no mode that is not
abbrev pub IsLost : ClassParts → ℕ → Type 0
IsLost p c = (is_broken p.compiled.model.moves c (slice_index p.base c) ≡ true) × ((a : ℕ) → IsHome p.compiled.model p.base (in_row p.rows) c a → ⊥)

-- no mode is in the set
abbrev pub IsEmptySet : ℕ → Type 0
IsEmptySet set = (x : ℕ) → has set x ≡ false

-- the mode is in the component's class, or a broken mode of its open chain
abbrev pub StandsAt : ClassParts → ℕ → ℕ → Type 0
StandsAt p c mode = (in_row p.rows c mode ≡ true) ⊎ (in_row p.chains c mode ≡ true)

-- at each state that the classes cover, the set is exactly the component's modes that are not broken and that allowed plans reach
abbrev pub IsReachOf : ClassParts → ℕ → ℕ → Type 0
IsReachOf p c set = (s : List ℕ) → CoversState p s
    → (x : ℕ) → (has set x ≡ true) ↔ ((is_broken p.compiled.model.moves c x ≡ false) × Reach p.compiled.model s c x)

-- a step from the state that is no repair is allowed exactly where its target is in the class of its component
abbrev pub AllowsInside : ClassParts → List ℕ → Type 0
AllowsInside p s = (t : List ℕ) (k : ℕ) (step : Step p.compiled.model s k t) → step.move.repair ≡ false
    → Allowed p.compiled.model s k t ↔ (in_row p.rows step.move.component step.move.target ≡ true)

-- a step from the state that is a repair leads into the class of its component, or to a broken mode of its open chain
abbrev pub MendsInside : ClassParts → List ℕ → Type 0
MendsInside p s = (t : List ℕ) (k : ℕ) (step : Step p.compiled.model s k t) → IsTrue step.move.repair
    → StandsAt p step.move.component step.move.target

-- what an allowed plan from the state ends in is covered
abbrev pub StaysInside : ClassParts → List ℕ → Type 0
StaysInside p s = (t ks : List ℕ) → AllowedPlan p.compiled.model s ks t → CoversState p t

-- each component stands in its class, or in a broken mode of its open chain
abbrev pub StandsByChain : ClassParts → List ℕ → Type 0
StandsByChain p s = (c : ℕ) → c < length p.compiled.model.components → StandsAt p c (slice_index s c)
