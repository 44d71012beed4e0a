-- What holds of states record by record, by the records' numbers.
use Rattle.std.proofs.Common.{◌≡◌, ℕ, zero, suc, ◌+◌, ◌<◌, Bool, false, List, [], ◌∷◌, length, get_or, slice_index_or, refl, sym, ap, subst, ◌∙◌, arith}
use Rattle.std.proofs.lemmas.List.Elements.{All-cons, All-nil}
use Rattle.cca_base.specs.PlantModel.{PlantModel}
use Rattle.cca_base.specs.Shown.{CanShow}
use Rattle.cca_base.specs.State.{IsState}
use Rattle.trajectory_estimator.specs.Walks.{StepCosts, nothing_known, sum_below}
use Rattle.trajectory_estimator.proofs.WindowRows.{AreWide}
use Rattle.window_laws.specs.Columns.{AreGates, AreShown, IsGate, Path}
use Rattle.window_laws.specs.Trajectories.{Entry, Trajectory}

-- what stands before a record: what is first, and then what is behind the record before it
abbrev pub before : {X : Type 0} → X → List X → X → ℕ → X
before first list d zero = first
before first list d (suc at) = get_or list at d

before-more : {X : Type 0} (first x : X) (list : List X) (d : X) (at : ℕ) → before first (x ∷ list) d (suc at) ≡ before x list d at
before-more first x list d zero = refl
before-more first x list d (suc at) = refl

-- ---- gates

-- the gate of a record
abbrev pub GateAt : PlantModel → List ℕ → List Entry → List Bool → List (List ℕ) → ℕ → Type 0
GateAt m anchor records gates states at = IsGate m (before anchor states [] at) (slice_index_or records at nothing_known).command (get_or gates at false)

pub gates_from : (m : PlantModel) (anchor : List ℕ) (records : List Entry) (gates : List Bool) (states : List (List ℕ)) → length gates ≡ length records → length states ≡ length records
    → ((at : ℕ) → at < length records → GateAt m anchor records gates states at) → AreGates m anchor records gates states
gates_from m anchor [] [] [] long full each = tt
gates_from m anchor [] (g ∷ gates) states long full each = absurd (omega arith)
gates_from m anchor [] [] (s ∷ states) long full each = absurd (omega arith)
gates_from m anchor (r ∷ records) [] states long full each = absurd (omega arith)
gates_from m anchor (r ∷ records) (g ∷ gates) [] long full each = absurd (omega arith)
gates_from m anchor (r ∷ records) (g ∷ gates) (s ∷ states) long full each = (
  each 0 (omega arith),
  gates_from m s records gates states (omega arith) (omega arith) (λ at within.
      subst (λ l. IsGate m l (slice_index_or records at nothing_known).command (get_or gates at false)) (before-more anchor s states [] at) (each (suc at) (omega arith))),
)

pub gate_at : (m : PlantModel) (anchor : List ℕ) (records : List Entry) (gates : List Bool) (states : List (List ℕ)) → AreGates m anchor records gates states
    → (at : ℕ) → at < length records → GateAt m anchor records gates states at
gate_at m anchor [] gates states are at within = absurd (omega arith)
gate_at m anchor (r ∷ records) [] states are at within = absurd are
gate_at m anchor (r ∷ records) (g ∷ gates) [] are at within = absurd are
gate_at m anchor (r ∷ records) (g ∷ gates) (s ∷ states) are zero within = are.0
gate_at m anchor (r ∷ records) (g ∷ gates) (s ∷ states) are (suc at) within =
    subst (λ l. IsGate m l (slice_index_or records at nothing_known).command (get_or gates at false)) (sym (before-more anchor s states [] at))
    (gate_at m s records gates states are.1 at (omega arith))

pub length-gates : (m : PlantModel) (anchor : List ℕ) (records : List Entry) (gates : List Bool) (states : List (List ℕ)) → AreGates m anchor records gates states
    → length gates ≡ length records
length-gates m anchor [] [] states are = refl
length-gates m anchor [] (g ∷ gates) states are = absurd are
length-gates m anchor (r ∷ records) [] states are = absurd are
length-gates m anchor (r ∷ records) (g ∷ gates) [] are = absurd are
length-gates m anchor (r ∷ records) (g ∷ gates) (s ∷ states) are = ap suc (length-gates m s records gates states are.1)

-- a gate for each number
pub choose_gates : (n : ℕ) (P : ℕ → Bool → Type 0) → ((at : ℕ) → at < n → (g : Bool) × P at g)
    → (gates : List Bool) × (length gates ≡ n) × ((at : ℕ) → at < n → P at (get_or gates at false))
choose_gates zero P f = ([], refl, λ at h. absurd (omega arith))
choose_gates (suc n) P f =
    let (g, p) = f 0 (omega arith) in
    let (gates, long, each) = choose_gates n (λ at. P (suc at)) (λ at h. f (suc at) (omega arith)) in
    (g ∷ gates, ap suc long, first_or P g gates n p each)
  where
    first_or : (Q : ℕ → Bool → Type 0) (g : Bool) (gates : List Bool) (n : ℕ) → Q 0 g → ((at : ℕ) → at < n → Q (suc at) (get_or gates at false))
        → (at : ℕ) → at < suc n → Q at (get_or (g ∷ gates) at false)
    first_or Q g gates n p each zero h = p
    first_or Q g gates n p each (suc at) h = each at (omega arith)

-- ---- what is seen

-- the state behind a record can show what is seen
abbrev pub ShownAt : PlantModel → List Entry → List (List ℕ) → ℕ → Type 0
ShownAt m records states at = IsState m (get_or states at []) × CanShow m (get_or states at []) (slice_index_or records at nothing_known).seen

pub shown_from : (m : PlantModel) (records : List Entry) (states : List (List ℕ)) → length states ≡ length records
    → ((at : ℕ) → at < length records → ShownAt m records states at) → AreShown m records states
shown_from m [] [] full each = tt
shown_from m [] (s ∷ states) full each = absurd (omega arith)
shown_from m (r ∷ records) [] full each = absurd (omega arith)
shown_from m (r ∷ records) (s ∷ states) full each =
    let first = each 0 (omega arith) in
    (first.0, first.1, shown_from m records states (omega arith) (λ at within. each (suc at) (omega arith)))

pub shown_at : (m : PlantModel) (anchor : List ℕ) (records : List Entry) (states : List (List ℕ)) (cost : ℕ) → Trajectory m anchor records states cost
    → (at : ℕ) → at < length records → ShownAt m records states at
shown_at m anchor [] states cost t at within = absurd (omega arith)
shown_at m anchor (r ∷ records) [] cost t at within = absurd t
shown_at m anchor (r ∷ records) (s ∷ states) cost (own, rest, consistent, tail, e) zero within = (consistent.costs.state, (consistent.world, consistent.is_world, consistent.agrees))
shown_at m anchor (r ∷ records) (s ∷ states) cost (own, rest, consistent, tail, e) (suc at) within = shown_at m s records states rest tail at (omega arith)

-- each state of a trajectory has a mode for each component
pub wide_states : (m : PlantModel) (anchor : List ℕ) (records : List Entry) (states : List (List ℕ)) (cost : ℕ) → Trajectory m anchor records states cost
    → AreWide (length m.components) states
wide_states m anchor [] [] cost t = All-nil (λ (l : List ℕ). length l ≡ length m.components)
wide_states m anchor [] (s ∷ states) cost t = absurd t
wide_states m anchor (r ∷ records) [] cost t = absurd t
wide_states m anchor (r ∷ records) (s ∷ states) cost (own, rest, consistent, tail, e) =
    All-cons (λ (l : List ℕ). length l ≡ length m.components) s states consistent.costs.state.full (wide_states m s records states rest tail)

-- ---- steps

-- the step at a record by its gate
abbrev pub StepOf : PlantModel → ℕ → ℕ → List Entry → List Bool → List ℕ → ℕ → ℕ → Type 0
StepOf m c from records gates modes at own =
    StepCosts m c (slice_index_or records at nothing_known).command (get_or gates at false) (before from modes 0 at) (get_or modes at 0) own

-- the sum from the first number on
sum_first : (n : ℕ) (f : ℕ → ℕ) → sum_below (suc n) f ≡ f 0 + sum_below n (λ k. f (suc k))
sum_first zero f = refl
sum_first (suc n) f = let rest = sum_first n f in omega arith

pub path_from : (m : PlantModel) (c from : ℕ) (records : List Entry) (gates : List Bool) (modes : List ℕ) (own : ℕ → ℕ) → length gates ≡ length records → length modes ≡ length records
    → ((at : ℕ) → at < length records → StepOf m c from records gates modes at (own at)) → Path m c from records gates modes (sum_below (length records) own)
path_from m c from [] gates [] own long full each = (refl, refl)
path_from m c from [] gates (to ∷ modes) own long full each = absurd (omega arith)
path_from m c from (r ∷ records) [] modes own long full each = absurd (omega arith)
path_from m c from (r ∷ records) (g ∷ gates) [] own long full each = absurd (omega arith)
path_from m c from (r ∷ records) (g ∷ gates) (to ∷ modes) own long full each =
    let (nominal, sends, change) = each 0 (omega arith) in (
      nominal,
      own 0,
      sum_below (length records) (λ k. own (suc k)),
      sends,
      change,
      path_from m c to records gates modes (λ k. own (suc k)) (omega arith) (omega arith) (λ at within.
          subst (λ k. StepCosts m c (slice_index_or records at nothing_known).command (get_or gates at false) k (get_or modes at 0) (own (suc at)))
          (before-more from to modes 0 at) (each (suc at) (omega arith))),
      sum_first (length records) own,
    )

-- what stands first, and then what stands at the numbers before
abbrev first_then : ℕ → (ℕ → ℕ) → ℕ → ℕ
first_then k f zero = k
first_then k f (suc at) = f at

pub path_steps : (m : PlantModel) (c from : ℕ) (records : List Entry) (gates : List Bool) (modes : List ℕ) (cost : ℕ) → Path m c from records gates modes cost
    → (own : ℕ → ℕ) × (cost ≡ sum_below (length records) own) × ((at : ℕ) → at < length records → StepOf m c from records gates modes at (own at))
path_steps m c from [] gates modes cost path = ((λ at. 0), path.1, λ at within. absurd (omega arith))
path_steps m c from (r ∷ records) [] modes cost path = absurd path
path_steps m c from (r ∷ records) (g ∷ gates) [] cost path = absurd path
path_steps m c from (r ∷ records) (g ∷ gates) (to ∷ modes) cost (nominal, first, rest, sends, change, tail, e) =
    let (own, total, each) = path_steps m c to records gates modes rest tail in (
      first_then first own,
      e ∙ ap (λ k. first + k) total ∙ sym (sum_first (length records) (first_then first own)),
      steps (first_then first own) (nominal, sends, change) each,
    )
  where
    steps : (f : ℕ → ℕ) → StepCosts m c r.command g from to (f 0) → ((at : ℕ) → at < length records → StepOf m c to records gates modes at (f (suc at)))
        → (at : ℕ) → at < suc (length records) → StepOf m c from (r ∷ records) (g ∷ gates) (to ∷ modes) at (f at)
    steps f step each zero within = step
    steps f step each (suc at) within =
        subst (λ k. StepCosts m c (slice_index_or records at nothing_known).command (get_or gates at false) k (get_or modes at 0) (f (suc at)))
        (sym (before-more from to modes 0 at)) (each at (omega arith))
