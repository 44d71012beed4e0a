-- Components that stand still through a window.
use Rattle.std.proofs.Common.{◌≡◌, ℕ, zero, suc, ◌+◌, ◌<◌, ◌≤◌, Bool, not, true, false, List, [], ◌∷◌, ◌++◌, All, length, map, take, slice_get, slice_index, slice_index_or, Option, Some, None, IsNone, is_some, refl, sym, ap, subst, ◌∙◌, inl, inr, arith}
use Rattle.std.proofs.lemmas.Bool.{cases_lt}
use Rattle.std.proofs.lemmas.List.{get_or_push, get_or_append_left, length_push, length-map, take_more, take_all}
use Rattle.std.proofs.lemmas.List.Elements.{All-contains, All-push}
use Rattle.std.proofs.lemmas.Option.{get_or_from_slice_get}
use Rattle.cca_base.specs.LeastCosts.{IsLeast, failing}
use Rattle.cca_base.specs.Model.{HasMode, IsFailure, WellFormed, mode_counts}
use Rattle.cca_base.specs.PlantModel.{PlantModel}
use Rattle.cca_base.specs.State.{IsState}
use Rattle.cca_base.specs.Successors.{ChangeCosts, HasFailure}
use Rattle.successors.specs.Choices.{AreLeast}
use Rattle.trajectory_estimator.specs.Asked.{Asked, entry_of}
use Rattle.trajectory_estimator.specs.Steps.{NoOwn}
use Rattle.trajectory_estimator.specs.WalkLaws.{some_gate}
use Rattle.trajectory_estimator.specs.Walks.{AreSteps, StepBy, gate_place, mode_before, mode_place, record_at}
use Rattle.trajectory_estimator.specs.Windows.{AreStill, IsStill}
use Rattle.trajectory_estimator.specs.declared.record.Record.{Record}
use Rattle.window_laws.specs.Columns.{Sends}

-- ---- what is read

-- what isn't some is none
pub not_some : (o : Option ℕ) → is_some o ≡ false → o ≡ None
not_some None e = refl
not_some (Some x) e = let never : true ≡ false = e in absurd cc

pub is_gone : (o : Option ℕ) → is_some o ≡ false → IsNone o
is_gone o e = subst IsNone (sym (not_some o e)) refl

pub not_true : (b : Bool) → not b ≡ true → b ≡ false
not_true false e = refl
not_true true e = let never : false ≡ true = e in absurd cc

pub none_more : (row : List (Option ℕ)) (i : ℕ) → i < length row → is_some (slice_index_or row i None) ≡ false → All (λ o. o ≡ None) (take i row) → All (λ o. o ≡ None) (take (i + 1) row)
none_more row i within none all =
    subst (All (λ o. o ≡ None)) (sym (take_more row i None within))
    (All-push (λ o. o ≡ None) (take i row) (slice_index_or row i None) all (not_some (slice_index_or row i None) none))

pub none_all : (row : List (Option ℕ)) (i : ℕ) → length row ≤ i → All (λ o. o ≡ None) (take i row) → All (λ o. o ≡ None) row
none_all row i h all = subst (All (λ o. o ≡ None)) (take_all i row h) all

-- the anchor's mode of a component
pub anchor_mode : (q : Asked) (modes : List ℕ) (c from : ℕ) → IsState q.model q.anchor → modes ≡ q.anchor → c < length q.model.components → slice_get modes c ≡ Some from
    → (from ≡ slice_index q.anchor c) × HasMode q.model c from
anchor_mode q modes c from state same inside at =
    let e : from ≡ slice_index q.anchor c = sym (get_or_from_slice_get modes c from 0 at) ∙ ap (λ l. slice_index l c) same in
    (e, subst (HasMode q.model c) (sym e) (state.modes c inside))

-- what the commands below a bound don't move from the mode
abbrev pub Unmoved : Asked → ℕ → ℕ → ℕ → Type 0
Unmoved q c from bound = (at : ℕ) → at < bound → NoOwn q.model c (record_at q at).command from

pub unmoved_more : (q : Asked) (c from bound : ℕ) → NoOwn q.model c (record_at q bound).command from → Unmoved q c from bound → Unmoved q c from (bound + 1)
unmoved_more q c from bound here h at less = elim (cases_lt at bound) [
  | inl lt ↦ h at lt
  | inr ge ↦ let e : bound ≡ at = omega (arith, less) in subst (λ i. NoOwn q.model c (record_at q i).command from) e here
]

pub records_full : (q : Asked) (records : List Record) → map entry_of records ≡ q.records → length records ≡ length q.records
records_full q records e = sym (length-map records entry_of) ∙ ap length e

-- ---- steps

-- no failure leads from the mode
abbrev pub NoFailure : PlantModel → ℕ → ℕ → Type 0
NoFailure m c from = (to cost : ℕ) → HasFailure m c from to cost → ⊥

-- where no least cost is known, there is no failure
pub no_failures : (m : PlantModel) (c from : ℕ) (row : List (Option ℕ)) → WellFormed m → length row ≡ slice_index (mode_counts m) c → AreLeast m.failures c from row
    → All (λ o. o ≡ None) row → NoFailure m c from
no_failures m c from row good full least none to cost failure =
    let fits = All-contains (IsFailure m) m.failures (failing c from to cost) good.failures failure in
    let within : to < length row = omega (arith, full, fits.target) in
    subst (IsLeast m.failures c from to) (none to None within) (least to within) cost failure

-- without an own move a gate leaves the component where it is
sends_stay : (m : PlantModel) (c : ℕ) (k : Option ℕ) (gate : Bool) (from nominal : ℕ) → NoOwn m c k from → Sends m c k gate from nominal → nominal ≡ from
sends_stay m c k false from nominal none e = e
sends_stay m c k true from nominal none (inl (move, own, e)) = absurd (none move own)
sends_stay m c k true from nominal none (inr (nowhere, e)) = e

-- and without a failure it stays there
change_stays : (m : PlantModel) (c from nominal to own : ℕ) → NoFailure m c from → ChangeCosts m c from nominal to own → to ≡ nominal
change_stays m c from nominal to own none (inl (e, nothing)) = e
change_stays m c from nominal to own none (inr (other, failure, least)) = absurd (none to own failure)

step_stays : (q : Asked) (c at value from to own : ℕ) → NoOwn q.model c (record_at q at).command from → NoFailure q.model c from → StepBy q c at value from to own → to ≡ from
step_stays q c at value from to own none sound step =
    let (gate, stands) = some_gate value step.small in
    let (nominal, sends, change) = step.each gate stands in
    change_stays q.model c from nominal to own sound change ∙ sends_stay q.model c (record_at q at).command gate from nominal none sends

module _ (q : Asked) (c : ℕ) (unmoved : Unmoved q c (slice_index q.anchor c) (length q.records)) (sound : NoFailure q.model c (slice_index q.anchor c)) where
  stays : (values : List ℕ) (own : ℕ → ℕ) → AreSteps q c values own → (at : ℕ) → at ≤ length q.records → mode_before q c values at ≡ slice_index q.anchor c
  stays values own steps zero h = refl
  stays values own steps (suc at) h =
      let less : at < length q.records = omega (arith, h) in
      let from = mode_before q c values at in
      let e : from ≡ slice_index q.anchor c = stays values own steps at (omega (arith, h)) in
      let none = subst (NoOwn q.model c (record_at q at).command) (sym e) (unmoved at less) in
      let safe = subst (NoFailure q.model c) (sym e) sound in
      step_stays q c at (slice_index values (gate_place q c at)) from (slice_index values (mode_place q c at)) (own at) none safe (steps.each at less) ∙ e

  -- stands still
  pub still_here : IsStill q c
  still_here values cost walk at less = stays values walk.own walk.steps (suc at) (omega (arith, less))

-- so does a component that stands in its anchor's mode, which no command moves it from and no failure leads from
pub still_by : (q : Asked) (c from : ℕ) → from ≡ slice_index q.anchor c → Unmoved q c from (length q.records) → NoFailure q.model c from → IsStill q c
still_by q c from e unmoved sound =
    still_here q c (subst (λ z. Unmoved q c z (length q.records)) e unmoved) (subst (NoFailure q.model c) e sound)

-- ---- words

-- what is said of the components below a bound
pub record AreStillBelow (q : Asked) (still : List Bool) (bound : ℕ) : Type 0 where
  pub full : length still ≡ bound
  pub each : (c : ℕ) → c < bound → slice_index_or still c false ≡ true → IsStill q c

pub still_none : (q : Asked) (still : List Bool) → still ≡ [] → AreStillBelow q still 0
still_none q still e = record { full = ap length e; each = λ c less. absurd (omega arith) }

pub still_more : (q : Asked) (still : List Bool) (bound : ℕ) (word : Bool) → (word ≡ true → IsStill q bound) → AreStillBelow q still bound → AreStillBelow q (still ++ word ∷ []) (bound + 1)
still_more q still bound word is h = record {
  full = omega (arith, length_push still word, h.full);
  each = λ c less said. elim (cases_lt c bound) [
    | inl lt ↦ h.each c lt (sym (get_or_append_left still (word ∷ []) false c (omega (arith, lt, h.full))) ∙ said)
    | inr ge ↦
        let e : c ≡ bound = omega (arith, less) in
        let here : slice_index_or (still ++ word ∷ []) c false ≡ word = ap (λ i. slice_index_or (still ++ word ∷ []) i false) e ∙ get_or_push still word false bound h.full in
        subst (IsStill q) (sym e) (is (sym here ∙ said))
  ];
}

pub still_all : (q : Asked) (still : List Bool) (bound : ℕ) → bound ≡ length q.model.components → AreStillBelow q still bound → AreStill q still
still_all q still bound e h = record { full = h.full ∙ e; each = λ c less. h.each c (omega (arith, less, e)) }
