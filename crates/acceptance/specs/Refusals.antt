-- Why a model is refused, and what is shown of it.
use Rattle.std.specs.Prelude.{◌≡◌, ℕ, ◌+◌, ◌<◌, ◌≤◌, ◌⊎◌, List, [], ◌∷◌, ◌++◌, slice_get, slice_index, sum_by, Some}
use Rattle.cca_base.specs.declared.codes.TheConstants.{CLASH, WAYS, CYCLE, DEEP}
use Rattle.cca_base.specs.declared.cube.Pair.{Pair}
use Rattle.cca_base.specs.declared.model.Move.{Move}
use Rattle.cca_base.specs.declared.events.Refusal.{Refusal}
use Rattle.cca_base.specs.declared.events.Detail.TheVariants.{Pairs, OfMove, Components}
use Rattle.cca_base.specs.declared.limits.TheConstants.{MAX_BOUND}
use Rattle.cca_base.specs.PlantModel.{PlantModel}
use Rattle.cca_base.specs.Bounds.{AreBounds}
use Rattle.cca_base.specs.Implicants.{IsAcyclic}
use Rattle.cca_base.specs.Orders.{IsEffectsFirst}
use Rattle.cca_base.specs.Shown.{IsShownClash, IsShownCycle}
use Rattle.cca_base.specs.State.{IsState, HasWorld}
use Rattle.guard_compiler.specs.Ways.{HasManyWays}
use Rattle.acceptance.specs.declared.accepting.NotAccepted.{NotAccepted}
use Rattle.acceptance.specs.declared.accepting.NotAccepted.TheVariants.{Refused, Memory}

-- some state has no world
abbrev pub HasClash : PlantModel → Type 0
HasClash m = (s : List ℕ) × IsState m s × (HasWorld m s → ⊥)

-- the model has a move with that number, and it has too many prime implicants
abbrev pub HasManyAt : PlantModel → ℕ → Type 0
HasManyAt m i = (move : Move) × (slice_get m.moves i ≡ Some move) × HasManyWays m move

-- some move has too many prime implicants
abbrev pub HasMany : PlantModel → Type 0
HasMany m = (i : ℕ) × HasManyAt m i

-- the move with that number is the first that has too many prime implicants
pub record IsFirstWithMany (m : PlantModel) (i : ℕ) : Type 0 where
  pub many : HasManyAt m i
  pub first : (earlier : ℕ) → earlier < i → HasManyAt m earlier → ⊥

-- where the bounds are added up causes first, their sum passes the greatest that it may be at the component c
pub record IsTooDeep (m : PlantModel) (c : ℕ) : Type 0 where
  pub order : List ℕ
  pub is_order : IsEffectsFirst m order
  pub bounds : List ℕ
  pub are_bounds : AreBounds m bounds
  pub effects : List ℕ
  pub causes : List ℕ
  pub split : order ≡ effects ++ c ∷ causes
  pub fits : sum_by (slice_index bounds) causes ≤ MAX_BOUND
  pub passes : MAX_BOUND < sum_by (slice_index bounds) causes + slice_index bounds c

-- the refusal is for a state without a world, and shows the clash
pub record RefusesClash (m : PlantModel) (refusal : Refusal) : Type 0 where
  pub cube : List Pair
  pub is : refusal ≡ record { code = CLASH; detail = Pairs cube }
  pub shown : IsShownClash m cube

-- the refusal is for too many prime implicants, and names the first move that has them; no state is without a world
pub record RefusesWays (m : PlantModel) (refusal : Refusal) : Type 0 where
  pub move_number : ℕ
  pub is : refusal ≡ record { code = WAYS; detail = OfMove move_number }
  pub shown : IsFirstWithMany m move_number
  pub no_clash : HasClash m → ⊥

-- the refusal is for a cycle of needs, and shows it; no state is without a world, and no move has too many prime implicants
pub record RefusesCycle (m : PlantModel) (refusal : Refusal) : Type 0 where
  pub list : List ℕ
  pub is : refusal ≡ record { code = CYCLE; detail = Components list }
  pub shown : IsShownCycle m list
  pub no_clash : HasClash m → ⊥
  pub few_ways : HasMany m → ⊥

-- the refusal is for bounds that are too large, and names the component at which their sum is; none of the others applies
pub record RefusesDeep (m : PlantModel) (refusal : Refusal) : Type 0 where
  pub component : ℕ
  pub is : refusal ≡ record { code = DEEP; detail = Components (component ∷ []) }
  pub shown : IsTooDeep m component
  pub no_clash : HasClash m → ⊥
  pub few_ways : HasMany m → ⊥
  pub acyclic : IsAcyclic m

-- the model is refused for the first of these that applies: a clash, too many ways, a cycle, bounds that are too deep
abbrev pub Refuses : PlantModel → Refusal → Type 0
Refuses m refusal = RefusesClash m refusal ⊎ (RefusesWays m refusal ⊎ (RefusesCycle m refusal ⊎ RefusesDeep m refusal))

-- memory ran out, or the same model with why it is refused
abbrev pub HandsBack : PlantModel → NotAccepted → Type 0
HandsBack m (Refused refusal model) = (model ≡ m) × Refuses m refusal
HandsBack m Memory = Unit {0}

-- memory ran out
abbrev pub IsMemory : NotAccepted → Type 0
IsMemory (Refused refusal model) = ⊥
IsMemory Memory = Unit {0}
