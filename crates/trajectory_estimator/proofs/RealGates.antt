-- Whether a command really moves something.
use Rattle.std.proofs.Common.{◌≡◌, ◌≢◌, ◌⊎◌, inl, inr, ℕ, zero, suc, ◌<◌, ◌≤◌, ◌+◌, ◌*◌, ◌∷◌, [], Bool, true, false, List, length, drop, slice_index, length-take-le, length-drop, mul-le-mul_right, slice_get, Some, None, Option, Contains, refl, sym, ap, subst, ◌∙◌, arith}
use Rattle.std.proofs.lemmas.Bool.{cases_eq, both_ways}
use Rattle.std.proofs.lemmas.List.Elements.{All-cons, All-nil}
use Rattle.std.proofs.lemmas.Option.{get_or_from_slice_get, same_Some}
use Rattle.list_laws.proofs.Members.{contains_cases, contains_here, contains_none, contains_there}
use Rattle.cca_base.specs.declared.cube.Pair.{Pair}
use Rattle.cca_base.specs.declared.model.Move.{Move}
use Rattle.cca_base.specs.PlantModel.{PlantModel}
use Rattle.cca_base.specs.Accepted.{AreWays}
use Rattle.cca_base.specs.Implicants.{source_pair}
use Rattle.cca_base.specs.Model.{CommandsFit, HasMode, WellFormed}
use Rattle.cca_base.specs.State.{Extends, IsState}
use Rattle.cca_base.proofs.Commands.{same_component}
use Rattle.trajectory_estimator.specs.Asked.{Asked}
use Rattle.trajectory_estimator.specs.WalkLaws.{walk_modes}
use Rattle.trajectory_estimator.specs.Walks.{IsWalk, StepBy, StepCosts, places, record_at, stands_for}
use Rattle.trajectory_estimator.specs.Windows.{state_at, state_before}
use Rattle.trajectory_estimator.proofs.KnownModes.{before_modes}
use Rattle.window_laws.specs.Columns.{IsGate, IsOwn}
use Rattle.window_laws.proofs.Joining.{gate_held, gate_shut}

-- ---- states

-- the state behind a record has a mode for each component
pub state_full : (q : Asked) (values : List ℕ) (at : ℕ) → length values ≡ places q → at < length q.records → length (state_at q values at) ≡ length q.model.components
state_full q values at full within =
    let n : ℕ = length q.model.components in
    let r : ℕ = length q.records in
    let rows : (at + 1) * n ≤ r * n = mul-le-mul_right n (omega (arith, within)) in
    length-take-le n (drop (at * n) values) (omega (arith, full, rows, length-drop (at * n) values))

pub before_full : (q : Asked) (values : List ℕ) (at : ℕ) → IsState q.model q.anchor → length values ≡ places q → at < length q.records
    → length (state_before q values at) ≡ length q.model.components
before_full q values zero state full within = state.full
before_full q values (suc at) state full within = state_full q values at full (omega (arith, within))

-- walks of all components have states
pub before_state : (q : Asked) (values : List ℕ) (at : ℕ) → WellFormed q.model → IsState q.model q.anchor → length values ≡ places q → at < length q.records
    → ((c : ℕ) → c < length q.model.components → (cost : ℕ) × IsWalk q c values cost) → IsState q.model (state_before q values at)
before_state q values at good state full within walks = record {
  full = before_full q values at state full within;
  modes = λ c inside.
      let (cost, walk) = walks c inside in
      subst (HasMode q.model c) (sym (before_modes q values at c inside)) (walk_modes q c values walk.own good state walk.steps at (omega (arith, within)));
}

-- ---- cubes that stand

-- a cube stands, or one of its pairs fails
pub extends_or_fails : (s : List ℕ) (cube : List Pair) → Extends s cube ⊎ ((p : Pair) × Contains cube p × (slice_get s p.item ≢ Some p.value))
extends_or_fails s [] = inl (All-nil (λ (p : Pair). slice_get s p.item ≡ Some p.value))
extends_or_fails s (p ∷ cube) = elim (pair_or_fails s p) [
  | inr fails ↦ inr (p, contains_here p p cube refl, fails)
  | inl stands ↦ elim (extends_or_fails s cube) [
    | inl rest ↦ inl (All-cons (λ (p : Pair). slice_get s p.item ≡ Some p.value) p cube stands rest)
    | inr (o, among, fails) ↦ inr (o, contains_there p o cube among, fails)
  ]
]
  where
    some_or_fails : (o : Option ℕ) (value : ℕ) → (o ≡ Some value) ⊎ (o ≢ Some value)
    some_or_fails None value = inr (λ e. absurd cc)
    some_or_fails (Some x) value = elim (cases_eq x value) [ inl e ↦ inl (ap Some e) | inr other ↦ inr (λ e. other (same_Some x value e)) ]

    pair_or_fails : (s : List ℕ) (p : Pair) → (slice_get s p.item ≡ Some p.value) ⊎ (slice_get s p.item ≢ Some p.value)
    pair_or_fails s p = some_or_fails (slice_get s p.item) p.value

-- one of the cubes stands, or each has a pair that fails
pub one_or_none : (s : List ℕ) (cubes : List (List Pair))
    → ((cube : List Pair) × Contains cubes cube × Extends s cube) ⊎ ((cube : List Pair) → Contains cubes cube → (p : Pair) × Contains cube p × (slice_get s p.item ≢ Some p.value))
one_or_none s [] = inr (λ cube among. absurd (contains_none cube among))
one_or_none s (x ∷ cubes) = elim (extends_or_fails s x) [
  | inl stands ↦ inl (x, contains_here x x cubes refl, stands)
  | inr fails ↦ elim (one_or_none s cubes) [
    | inl (cube, among, stands) ↦ inl (cube, contains_there x cube cubes among, stands)
    | inr none ↦ inr (λ cube among. elim (contains_cases x cube cubes among) [
      | inl e ↦ subst (λ (z : List Pair). (p : Pair) × Contains z p × (slice_get s p.item ≢ Some p.value)) e fails
      | inr there ↦ none cube there
    ])
  ]
]

-- ---- gates

module _ (m : PlantModel) (good : WellFormed m) (move : Move) (among : Contains m.moves move) (cubes : List (List Pair)) (ways : AreWays m move cubes) (k : Option ℕ) (command : k ≡ Some move.command)
    (s : List ℕ) (state : IsState m s) (source : slice_get s move.component ≡ Some move.source) where
  abbrev own : Pair
  own = source_pair move

  pub gate_open : (cube : List Pair) → Contains cubes cube → Extends s cube → IsGate m s k true
  gate_open cube inside extends =
      gate_held m s k move cube state among command ((ways.each cube).0 inside) (All-cons (λ (p : Pair). slice_get s p.item ≡ Some p.value) own cube source extends)

  pub gate_closed : ((cube : List Pair) → Contains cubes cube → (p : Pair) × Contains cube p × (slice_get s p.item ≢ Some p.value)) → IsGate m s k false
  gate_closed fails =
      let stands : Extends s (own ∷ []) = All-cons (λ (p : Pair). slice_get s p.item ≡ Some p.value) own [] source (All-nil (λ (p : Pair). slice_get s p.item ≡ Some p.value)) in
      gate_shut m s k move good state among command stands (λ cube prime. fails cube ((ways.each cube).1 prime))

  -- it is open or shut
  pub some_gate : IsGate m s k true ⊎ IsGate m s k false
  some_gate = elim (one_or_none s cubes) [
    | inl (cube, inside, stands) ↦ inl (gate_open cube inside stands)
    | inr fails ↦ inr (gate_closed fails)
  ]

-- a gate isn't both
pub not_both : (m : PlantModel) (s : List ℕ) (k : Option ℕ) → IsGate m s k true → IsGate m s k false → ⊥
not_both m s k (move, commanded) none = none move commanded

-- what a shut gate stands for isn't really open
pub shut_is : (m : PlantModel) (s : List ℕ) (k : Option ℕ) (gate : Bool) (value : ℕ) → value ≡ 0 → stands_for value gate ≡ true → IsGate m s k gate → IsGate m s k true → ⊥
shut_is m s k true value e stands gate really = both_ways false refl (subst (λ v. stands_for v true ≡ true) e stands)
shut_is m s k false value e stands gate really = not_both m s k really gate

-- and what an open one stands for isn't really shut
pub open_is : (m : PlantModel) (s : List ℕ) (k : Option ℕ) (gate : Bool) (value : ℕ) → value ≡ 1 → stands_for value gate ≡ true → IsGate m s k gate → IsGate m s k false → ⊥
open_is m s k false value e stands gate closed = both_ways false refl (subst (λ v. stands_for v false ≡ true) e stands)
open_is m s k true value e stands gate closed = not_both m s k gate closed

-- ---- steps by the real gate

-- what a value below 3 stands for
which_gate : (value : ℕ) → value < 3 → (value ≡ 0) ⊎ ((value ≡ 1) ⊎ (value ≡ 2))
which_gate value small = elim (cases_eq value 0) [
  | inl e ↦ inl e
  | inr other ↦ elim (cases_eq value 1) [ inl e ↦ inr (inl e) | inr another ↦ inr (inr (omega (arith, small, other, another))) ]
]

-- a step costs the same by the real gate, if its value stands for that gate where the component has a move by the command
pub step_by_gate : (q : Asked) (c at value to cost : ℕ) (s : List ℕ) (gate : Bool) → CommandsFit q.model.moves → IsGate q.model s (record_at q at).command gate
    → ((move : Move) → IsOwn q.model c (record_at q at).command (slice_index s c) move → stands_for value gate ≡ true) → StepBy q c at value (slice_index s c) to cost
    → StepCosts q.model c (record_at q at).command gate (slice_index s c) to cost
step_by_gate q c at value to cost s true fit (move, commanded) stands step = elim (which_gate value step.small) [
  | inr (inl e) ↦ step.each true (subst (λ v. stands_for v true ≡ true) (sym e) refl)
  | inr (inr e) ↦ step.each true (subst (λ v. stands_for v true ≡ true) (sym e) refl)
  | inl e ↦ elim (cases_eq move.component c) [
    | inl own ↦ step.each true (stands move (record {
      of_model = commanded.of_model;
      command = commanded.command;
      own = own;
      source = sym (get_or_from_slice_get s move.component move.source 0 commanded.source) ∙ ap (slice_index s) own;
    }))
    | inr other ↦
        let (nominal, stays, change) = step.each false (subst (λ v. stands_for v false ≡ true) (sym e) refl) in (
          nominal,
          inr (
            (λ another its. other (same_component q.model.moves fit move another commanded.of_model its.of_model
                (same_Some move.command another.command (sym commanded.command ∙ its.command)) ∙ its.own)),
            stays,
          ),
          change,
        )
  ]
]
step_by_gate q c at value to cost s false fit none stands step = elim (which_gate value step.small) [
  | inl e ↦ step.each false (subst (λ v. stands_for v false ≡ true) (sym e) refl)
  | inr (inr e) ↦ step.each false (subst (λ v. stands_for v false ≡ true) (sym e) refl)
  | inr (inl e) ↦
      let (nominal, sends, change) = step.each true (subst (λ v. stands_for v true ≡ true) (sym e) refl) in
      elim sends [
        | inl (move, its, target) ↦ absurd (both_ways false refl (subst (λ v. stands_for v false ≡ true) e (stands move its)))
        | inr (no_own, stays) ↦ (nominal, stays, change)
      ]
]
