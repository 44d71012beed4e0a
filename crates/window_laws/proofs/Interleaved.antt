-- Columns: states component by component, and all components together.
use Rattle.std.proofs.Common.{◌≡◌, inl, inr, ℕ, zero, suc, ◌+◌, ◌<◌, Bool, true, false, List, [], ◌∷◌, length, sum, slice_get, slice_index, Option, Some, refl, sym, ap, ◌∙◌, arith}
use Rattle.std.proofs.lemmas.Bool.{cases_eq}
use Rattle.std.proofs.lemmas.Grind.{get_or-set_at}
use Rattle.std.proofs.lemmas.List.{get_or-set_other}
use Rattle.std.proofs.lemmas.List.Sums.{sum_by-cons}
use Rattle.std.proofs.lemmas.Option.{same_Some, get_or_from_slice_get}
use Rattle.cca_base.specs.declared.model.Move.{Move}
use Rattle.cca_base.specs.PlantModel.{PlantModel}
use Rattle.cca_base.specs.Model.{WellFormed, CommandsFit}
use Rattle.cca_base.specs.State.{IsState}
use Rattle.cca_base.specs.Successors.{Nominal}
use Rattle.cca_base.proofs.Commands.{same_component}
use Rattle.window_laws.specs.Trajectories.{Entry, Trajectory}
use Rattle.window_laws.specs.Columns.{IsGate, AreGates, Sends, Path, column}

-- ---- costs, component by component

-- numbers added place by place
abbrev pub plus : List ℕ → List ℕ → List ℕ
plus [] ls = []
plus (k ∷ ks) [] = []
plus (k ∷ ks) (l ∷ ls) = (k + l) ∷ plus ks ls

pub length-plus : (ks ls : List ℕ) → length ks ≡ length ls → length (plus ks ls) ≡ length ks
length-plus [] ls e = refl
length-plus (k ∷ ks) [] e = absurd (omega arith)
length-plus (k ∷ ks) (l ∷ ls) e = ap suc (length-plus ks ls (omega arith))

pub sum-plus : (ks ls : List ℕ) → length ks ≡ length ls → sum (plus ks ls) ≡ sum ks + sum ls
sum-plus [] [] e = refl
sum-plus [] (l ∷ ls) e = absurd (omega arith)
sum-plus (k ∷ ks) [] e = absurd (omega arith)
sum-plus (k ∷ ks) (l ∷ ls) e = omega (arith, sum-plus ks ls (omega arith), sum_by-cons (λ (n : ℕ). n) k ks, sum_by-cons (λ (n : ℕ). n) l ls, sum_by-cons (λ (n : ℕ). n) (k + l) (plus ks ls))

pub at-plus : (ks ls : List ℕ) (c : ℕ) → length ks ≡ length ls → slice_index (plus ks ls) c ≡ slice_index ks c + slice_index ls c
at-plus [] [] c e = omega arith
at-plus [] (l ∷ ls) c e = absurd (omega arith)
at-plus (k ∷ ks) [] c e = absurd (omega arith)
at-plus (k ∷ ks) (l ∷ ls) zero e = refl
at-plus (k ∷ ks) (l ∷ ls) (suc c) e = at-plus ks ls c (omega arith)

abbrev zeros : ℕ → List ℕ
zeros zero = []
zeros (suc n) = 0 ∷ zeros n

length-zeros : (n : ℕ) → length (zeros n) ≡ n
length-zeros zero = refl
length-zeros (suc n) = ap suc (length-zeros n)

sum-zeros : (n : ℕ) → sum (zeros n) ≡ 0
sum-zeros zero = refl
sum-zeros (suc n) = omega (arith, sum-zeros n, sum_by-cons (λ (k : ℕ). k) 0 (zeros n))

at-zeros : (n c : ℕ) → slice_index (zeros n) c ≡ 0
at-zeros zero c = refl
at-zeros (suc n) zero = refl
at-zeros (suc n) (suc c) = at-zeros n c

-- ---- what gates send

-- within a list the default is never read
pub source_at : (s : List ℕ) (move : Move) (c : ℕ) → c ≡ move.component → slice_get s move.component ≡ Some move.source → move.source ≡ slice_index s c
source_at s move c own e = sym (get_or_from_slice_get s move.component move.source 0 e) ∙ ap (slice_index s) (sym own)

sends_nominal : (m : PlantModel) (s nominal : List ℕ) (k : Option ℕ) (g : Bool) (c : ℕ) → CommandsFit m.moves → c < length s → IsGate m s k g → Nominal m s k nominal
    → Sends m c k g (slice_index s c) (slice_index nominal c)
sends_nominal m s nominal k false c fit within gate (inl (move, commanded, e)) = absurd (gate move commanded)
sends_nominal m s nominal k false c fit within gate (inr (none, e)) = ap (λ l. slice_index l c) e
sends_nominal m s nominal k true c fit within gate (inr (none, e)) = absurd (none gate.0 gate.1)
sends_nominal m s nominal k true c fit within gate (inl (move, commanded, e)) =
    elim (cases_eq c move.component) [
      | inl own ↦ inl (
        move,
        record { of_model = commanded.of_model; command = commanded.command; own = sym own; source = source_at s move c own commanded.source },
        ap (λ l. slice_index l c) e ∙ get_or-set_at s move.component c move.target 0 own (omega (arith, own, within)),
      )
      | inr other ↦ inr (
        (λ another its. other (sym its.own ∙ same_component m.moves fit another move its.of_model commanded.of_model (same_Some another.command move.command (sym its.command ∙ commanded.command)))),
        ap (λ l. slice_index l c) e ∙ get_or-set_other s move.component c move.target 0 other,
      )
    ]

-- ---- a trajectory, component by component

pub paths_of : (m : PlantModel) (anchor : List ℕ) (records : List Entry) (gates : List Bool) (states : List (List ℕ)) (cost : ℕ) → WellFormed m → length anchor ≡ length m.components
    → AreGates m anchor records gates states → Trajectory m anchor records states cost
    → (ls : List ℕ) × (length ls ≡ length m.components) × (sum ls ≡ cost)
    × ((c : ℕ) → c < length m.components → Path m c (slice_index anchor c) records gates (column c states) (slice_index ls c))
paths_of m anchor [] [] [] cost good long g t =
    let n = length m.components in
    (zeros n, length-zeros n, sum-zeros n ∙ sym t, λ c within. (refl, at-zeros n c))
paths_of m anchor [] (x ∷ gates) [] cost good long g t = absurd g
paths_of m anchor [] gates (s ∷ states) cost good long g t = absurd t
paths_of m anchor (r ∷ records) gates [] cost good long g t = absurd t
paths_of m anchor (r ∷ records) [] (s ∷ states) cost good long g t = absurd g
paths_of m anchor (r ∷ records) (x ∷ gates) (s ∷ states) cost good long g (own, rest, consistent, tail, e) =
    let costs = consistent.costs in
    let wide : length s ≡ length m.components = costs.state.full in
    let (ls, full, total, each) = paths_of m s records gates states rest good wide g.1 tail in
    let parts = costs.parts in
    let same : length parts ≡ length ls = costs.full ∙ wide ∙ sym full in (
      plus parts ls,
      length-plus parts ls same ∙ costs.full ∙ wide,
      sum-plus parts ls same ∙ (let f = costs.total in omega (arith, e, f, total)),
      λ c within. (
        slice_index costs.nominal c,
        slice_index parts c,
        slice_index ls c,
        sends_nominal m anchor costs.nominal r.command x c good.commands (omega (arith, long, within)) g.0 costs.is_nominal,
        costs.each c (omega (arith, wide, within)),
        each c within,
        at-plus parts ls c same,
      ),
    )

pub gates_of : (m : PlantModel) (anchor : List ℕ) (records : List Entry) (states : List (List ℕ)) (cost : ℕ) → Trajectory m anchor records states cost
    → (gates : List Bool) × AreGates m anchor records gates states
gates_of m anchor [] [] cost t = ([], tt)
gates_of m anchor [] (s ∷ states) cost t = absurd t
gates_of m anchor (r ∷ records) [] cost t = absurd t
gates_of m anchor (r ∷ records) (s ∷ states) cost (own, rest, consistent, tail, e) =
    let (gates, are) = gates_of m s records states rest tail in
    elim consistent.costs.is_nominal [
      | inl (move, commanded, f) ↦ (true ∷ gates, ((move, commanded), are))
      | inr (none, f) ↦ (false ∷ gates, (none, are))
    ]

pub trajectory_paths : (m : PlantModel) (anchor : List ℕ) (records : List Entry) (states : List (List ℕ)) (cost : ℕ) → WellFormed m → IsState m anchor → Trajectory m anchor records states cost
    → (gates : List Bool) × (costs : List ℕ) × AreGates m anchor records gates states × (length costs ≡ length m.components) × (sum costs ≡ cost)
    × ((c : ℕ) → c < length m.components → Path m c (slice_index anchor c) records gates (column c states) (slice_index costs c))
trajectory_paths m anchor records states cost good state t =
    let (gates, are) = gates_of m anchor records states cost t in
    let (costs, full, total, each) = paths_of m anchor records gates states cost good state.full are t in
    (gates, costs, are, full, total, each)
