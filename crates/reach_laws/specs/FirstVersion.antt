-- What classes are in the first version, where no repair leads to a broken mode.
use Rattle.std.specs.Prelude.{◌≡◌, ◌⊎◌, ◌↔◌, ◌<◌, ℕ, IsTrue, true, List, length, slice_index}
use Rattle.cca_base.specs.PlantModel.{PlantModel}
use Rattle.cca_base.specs.Model.{WellFormed}
use Rattle.cca_base.specs.Steps.{Step}
use Rattle.reach_laws.specs.Classes.{Test, AreClasses, Stands, Covers}
use Rattle.reach_laws.specs.Laws.{Setting}
use Rattle.reach_laws.specs.Plans.{StaysOnChain}

-- in the first version a covered component stands in its class or in its base mode
abbrev pub StandsByBase : Type 0
StandsByBase = (m : PlantModel) (base : List ℕ) (member : Test) → WellFormed m → m.version ≡ 1 → AreClasses m base member
    → (c x : ℕ) → c < length m.components → Stands m base member c x ↔ ((member c x ≡ true) ⊎ (x ≡ slice_index base c))

-- a repair that is a step leads into the class
abbrev pub RepairsMendAtOnce : Type 0
RepairsMendAtOnce = (m : PlantModel) (order base : List ℕ) (member : Test) (s : List ℕ) → Setting m order base member s → m.version ≡ 1
    → (t : List ℕ) (k : ℕ) (step : Step m s k t) → IsTrue step.move.repair → member step.move.component step.move.target ≡ true

-- between two covered states, what is broken in the second and has no mode in its class stands in the first in a mode of the chain of that one
abbrev pub StuckStays : Type 0
StuckStays = (m : PlantModel) (base : List ℕ) (member : Test) → WellFormed m → m.version ≡ 1 → AreClasses m base member
    → (from s : List ℕ) → Covers m base member from → Covers m base member s → StaysOnChain m member from s
