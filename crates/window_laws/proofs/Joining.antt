-- Columns that are a trajectory, and gates.
use Rattle.std.proofs.Common.{◌≡◌, ◌≢◌, inl, inr, ℕ, zero, suc, ◌+◌, ◌<◌, Bool, true, false, List, [], ◌∷◌, length, sum, slice_get, slice_index, slice_set, Option, Some, Contains, refl, sym, ap, subst, ◌∙◌, arith}
use Rattle.std.proofs.lemmas.Bool.{cases_eq}
use Rattle.std.proofs.lemmas.Grind.{get_or-set_at}
use Rattle.std.proofs.lemmas.List.{get_or-set_other, ext_get_or}
use Rattle.std.proofs.lemmas.List.Elements.{All-contains}
use Rattle.std.proofs.lemmas.Option.{same_Some}
use Rattle.std.proofs.lemmas.List.Sums.{sum_by-cons}
use Rattle.list_laws.proofs.Members.{contains_here}
use Rattle.cca_base.specs.declared.cube.Pair.{Pair}
use Rattle.cca_base.specs.declared.model.Move.{Move}
use Rattle.cca_base.specs.PlantModel.{PlantModel}
use Rattle.cca_base.specs.Model.{WellFormed, CommandsFit}
use Rattle.cca_base.specs.State.{IsState, Extends, Holds}
use Rattle.cca_base.specs.Implicants.{PrimeImplicant, source_pair}
use Rattle.cca_base.specs.Successors.{Nominal, ChangeCosts, Costs}
use Rattle.cca_base.proofs.Commands.{same_component, same_move}
use Rattle.cca_laws.proofs.StandingPrimes.{holds_by_prime}
use Rattle.window_laws.specs.Trajectories.{Entry, Trajectory}
use Rattle.window_laws.specs.Columns.{IsGate, AreGates, Sends, Path, column, AreShown}
use Rattle.window_laws.proofs.Interleaved.{source_at, plus, length-plus, sum-plus, at-plus}

-- where the gates are those of the state, each component is sent to its nominal mode
sent : (m : PlantModel) (s nominal : List ℕ) (k : Option ℕ) (g : Bool) (c to : ℕ) → CommandsFit m.moves → c < length s → IsGate m s k g → Nominal m s k nominal
    → Sends m c k g (slice_index s c) to → to ≡ slice_index nominal c
sent m s nominal k false c to fit within gate (inl (move, commanded, e)) h = absurd (gate move commanded)
sent m s nominal k false c to fit within gate (inr (none, e)) h = h ∙ ap (λ l. slice_index l c) (sym e)
sent m s nominal k true c to fit within gate (inr (none, e)) h = absurd (none gate.0 gate.1)
sent m s nominal k true c to fit within gate (inl (move, commanded, e)) h =
    elim (cases_eq c move.component) [
      | inl own ↦
          let there : slice_index nominal c ≡ move.target = ap (λ l. slice_index l c) e ∙ get_or-set_at s move.component c move.target 0 own (omega (arith, own, within)) in
          elim h [
            | inl (another, its, gives) ↦
                let same : another ≡ move = same_move m.moves fit another move its.of_model commanded.of_model
                (same_Some another.command move.command (sym its.command ∙ commanded.command)) (its.source ∙ sym (source_at s move c own commanded.source)) in
                gives ∙ ap (λ (z : Move). z.target) same ∙ sym there
            | inr (none, stays) ↦ absurd (none move (record { of_model = commanded.of_model; command = commanded.command; own = sym own; source = source_at s move c own commanded.source }))
          ]
      | inr other ↦
          let there : slice_index nominal c ≡ slice_index s c = ap (λ l. slice_index l c) e ∙ get_or-set_other s move.component c move.target 0 other in
          elim h [
            | inl (another, its, gives) ↦ absurd (other (sym its.own
                ∙ same_component m.moves fit another move its.of_model commanded.of_model (same_Some another.command move.command (sym its.command ∙ commanded.command))))
            | inr (none, stays) ↦ stays ∙ sym there
          ]
    ]

-- two numbers for each place
choose : (n : ℕ) (P : ℕ → ℕ → ℕ → Type 0) → ((c : ℕ) → c < n → (x y : ℕ) × P c x y)
    → (xs ys : List ℕ) × (length xs ≡ n) × (length ys ≡ n) × ((c : ℕ) → c < n → P c (slice_index xs c) (slice_index ys c))
choose zero P f = ([], [], refl, refl, λ c h. absurd (omega arith))
choose (suc n) P f =
    let (x, y, p) = f 0 (omega arith) in
    let (xs, ys, long, wide, each) = choose n (λ c. P (suc c)) (λ c h. f (suc c) (omega arith)) in
    (x ∷ xs, y ∷ ys, ap suc long, ap suc wide, first_or P x y xs ys n p each)
  where
    first_or : (Q : ℕ → ℕ → ℕ → Type 0) (x y : ℕ) (xs ys : List ℕ) (n : ℕ) → Q 0 x y → ((c : ℕ) → c < n → Q (suc c) (slice_index xs c) (slice_index ys c))
        → (c : ℕ) → c < suc n → Q c (slice_index (x ∷ xs) c) (slice_index (y ∷ ys) c)
    first_or Q x y xs ys n p each zero h = p
    first_or Q x y xs ys n p each (suc c) h = each c (omega arith)

nominal_by : (m : PlantModel) (s : List ℕ) (k : Option ℕ) (g : Bool) → IsGate m s k g → (nominal : List ℕ) × Nominal m s k nominal
nominal_by m s k true (move, commanded) = (slice_set s move.component move.target, inl (move, commanded, refl))
nominal_by m s k false none = (s, inr (none, refl))

no_sum : (costs : List ℕ) (n : ℕ) → length costs ≡ n → ((c : ℕ) → c < n → slice_index costs c ≡ 0) → sum costs ≡ 0
no_sum [] n e h = refl
no_sum (k ∷ costs) zero e h = absurd (omega arith)
no_sum (k ∷ costs) (suc n) e h = omega (arith, h 0 (omega arith), no_sum costs n (omega arith) (λ c within. h (suc c) (omega arith)), sum_by-cons (λ (x : ℕ). x) k costs)

-- what one component does first, and then
abbrev Parts : PlantModel → List ℕ → List ℕ → List ℕ → List Entry → List Bool → List (List ℕ) → List ℕ → ℕ → ℕ → ℕ → Type 0
Parts m anchor nominal s records gates states costs c own rest =
    ChangeCosts m c (slice_index anchor c) (slice_index nominal c) (slice_index s c) own × Path m c (slice_index s c) records gates (column c states) rest
    × (slice_index costs c ≡ own + rest)

first_costs : (m : PlantModel) (anchor nominal s : List ℕ) (k : Option ℕ) (records : List Entry) (gates : List Bool) (states : List (List ℕ)) (costs owns rests : List ℕ)
    → Nominal m anchor k nominal → IsState m s → length owns ≡ length m.components
    → ((c : ℕ) → c < length m.components → Parts m anchor nominal s records gates states costs c (slice_index owns c) (slice_index rests c))
    → Costs m anchor k s (sum owns)
first_costs m anchor nominal s k records gates states costs owns rests is_nominal is_state full each = record {
  state = is_state;
  nominal = nominal;
  is_nominal = is_nominal;
  parts = owns;
  full = full ∙ sym is_state.full;
  each = λ c within. (each c (let f = is_state.full in omega (arith, f, within))).0;
  total = refl;
}

sums_add : (m : PlantModel) (anchor nominal s : List ℕ) (records : List Entry) (gates : List Bool) (states : List (List ℕ)) (costs owns rests : List ℕ)
    → length costs ≡ length m.components → length owns ≡ length m.components → length rests ≡ length m.components
    → ((c : ℕ) → c < length m.components → Parts m anchor nominal s records gates states costs c (slice_index owns c) (slice_index rests c))
    → sum costs ≡ sum owns + sum rests
sums_add m anchor nominal s records gates states costs owns rests long full wide each =
    let lengths : length owns ≡ length rests = full ∙ sym wide in
    ap sum (ext_get_or 0 costs (plus owns rests) (long ∙ sym full ∙ sym (length-plus owns rests lengths))
    (λ c within. (each c (omega (arith, long, within))).2 ∙ sym (at-plus owns rests c lengths))) ∙ sum-plus owns rests lengths

-- the same of the records behind
abbrev Behind : PlantModel → List ℕ → List Entry → List Bool → List (List ℕ) → Type 0
Behind m s records gates states = (rests : List ℕ) → length rests ≡ length m.components
    → ((c : ℕ) → c < length m.components → Path m c (slice_index s c) records gates (column c states) (slice_index rests c)) → Trajectory m s records states (sum rests)

pub paths_trajectory : (m : PlantModel) (anchor : List ℕ) (records : List Entry) (gates : List Bool) (states : List (List ℕ)) (costs : List ℕ)
    → WellFormed m → IsState m anchor → AreGates m anchor records gates states → AreShown m records states → length costs ≡ length m.components
    → ((c : ℕ) → c < length m.components → Path m c (slice_index anchor c) records gates (column c states) (slice_index costs c))
    → Trajectory m anchor records states (sum costs)
paths_trajectory m anchor [] gates [] costs good state g shown long each = no_sum costs (length m.components) long (λ c within. (each c within).1)
paths_trajectory m anchor [] gates (s ∷ states) costs good state g shown long each = absurd shown
paths_trajectory m anchor (r ∷ records) gates [] costs good state g shown long each = absurd shown
paths_trajectory m anchor (r ∷ records) [] (s ∷ states) costs good state g shown long each = absurd g
paths_trajectory m anchor (r ∷ records) (x ∷ gates) (s ∷ states) costs good state (g, gs) (is_state, shows, shown) long each =
    by_nominal (λ rests wide parts. paths_trajectory m s records gates states rests good is_state gs shown wide parts)
    (nominal_by m anchor r.command x g).0 (nominal_by m anchor r.command x g).1
  where
    by_parts : Behind m s records gates states → (nominal : List ℕ) → Nominal m anchor r.command nominal → (owns rests : List ℕ) → length owns ≡ length m.components → length rests ≡ length m.components
        → ((c : ℕ) → c < length m.components → Parts m anchor nominal s records gates states costs c (slice_index owns c) (slice_index rests c))
        → Trajectory m anchor (r ∷ records) (s ∷ states) (sum costs)
    by_parts behind nominal is_nominal owns rests full wide parts = (
      sum owns,
      sum rests,
      record {
        costs = first_costs m anchor nominal s r.command records gates states costs owns rests is_nominal is_state full parts;
        world = shows.0;
        is_world = shows.1;
        agrees = shows.2;
      },
      behind rests wide (λ c within. (parts c within).1),
      sums_add m anchor nominal s records gates states costs owns rests long full wide parts,
    )

    by_nominal : Behind m s records gates states → (nominal : List ℕ) → Nominal m anchor r.command nominal → Trajectory m anchor (r ∷ records) (s ∷ states) (sum costs)
    by_nominal behind nominal is_nominal =
        let (owns, rests, full, wide, parts) = choose (length m.components) (Parts m anchor nominal s records gates states costs)
        (λ c within.
        let (to, own, rest, sends, change, tail, e) = each c within in
        let same : to ≡ slice_index nominal c = sent m anchor nominal r.command x c to good.commands (let f = state.full in omega (arith, f, within)) g is_nominal sends in
        (own, rest, (subst (λ z. ChangeCosts m c (slice_index anchor c) z (slice_index s c) own) same change, tail, e))) in
        by_parts behind nominal is_nominal owns rests full wide parts

-- ---- gates

pub gate_held : (m : PlantModel) (s : List ℕ) (k : Option ℕ) (move : Move) (cube : List Pair) → IsState m s → Contains m.moves move → k ≡ Some move.command
    → PrimeImplicant m move cube → Extends s (source_pair move ∷ cube) → IsGate m s k true
gate_held m s k move cube state among command prime extends =
    let own : Pair = source_pair move in (
      move,
      record {
        of_model = among;
        command = command;
        source = All-contains (λ (q : Pair). slice_get s q.item ≡ Some q.value) (own ∷ cube) own extends (contains_here own own cube refl);
        guard = prime.suffices s state extends;
      },
    )

pub gate_shut : (m : PlantModel) (s : List ℕ) (k : Option ℕ) (move : Move) → WellFormed m → IsState m s → Contains m.moves move → k ≡ Some move.command
    → Extends s (source_pair move ∷ [])
    → ((cube : List Pair) → PrimeImplicant m move cube → (p : Pair) × Contains cube p × (slice_get s p.item ≢ Some p.value))
    → IsGate m s k false
gate_shut m s k move good state among command extends fails another commanded =
    let own : Pair = source_pair move in
    let here : slice_get s move.component ≡ Some move.source = All-contains (λ (q : Pair). slice_get s q.item ≡ Some q.value) (own ∷ []) own extends (contains_here own own [] refl) in
    let commands : another.command ≡ move.command = same_Some another.command move.command (sym commanded.command ∙ command) in
    let components : another.component ≡ move.component = same_component m.moves good.commands another move commanded.of_model among commands in
    let sources : another.source ≡ move.source = same_Some another.source move.source (sym commanded.source ∙ ap (slice_get s) components ∙ here) in
    let same : another ≡ move = same_move m.moves good.commands another move commanded.of_model among commands sources in
    let (cube, prime, stands) = holds_by_prime m s move state here (subst (λ (z : Move). Holds m s z.guard) same commanded.guard) in
    let (p, inside, apart) = fails cube prime in
    apart (All-contains (λ (q : Pair). slice_get s q.item ≡ Some q.value) cube p stands inside)
