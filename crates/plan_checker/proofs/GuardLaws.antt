-- A guard follows from the pairs that a move may lean on in whatever order they stand, and holds in a state where it follows from the state's pairs.
use Rattle.std.proofs.Common.{◌≡◌, ◌↔◌, ◌<◌, ◌≤◌, ◌+◌, ℕ, Bool, true, not, List, [], ◌∷◌, ◌++◌, length, slice_get, Some, All, Contains, IsTrue, refl, sym, ap, subst, ◌∙◌, inl, inr, arith}
use Rattle.std.proofs.lemmas.Bool.{both_ways, cases_eq, not-true, not_from_false}
use Rattle.std.proofs.lemmas.List.{length-map}
use Rattle.std.proofs.lemmas.List.Elements.{All-contains, Contains-append_left, Contains-push, Contains-push_cases}
use Rattle.std.proofs.lemmas.Option.{same_Some, slice_get_within}
use Rattle.list_laws.proofs.Places.{value_at}
use Rattle.list_laws.proofs.Members.{all_from, contains_cases, contains_here, contains_there, to_filter, from_filter}
use Rattle.cca_base.specs.declared.cube.Pair.{Pair}
use Rattle.cca_base.specs.declared.formula.Formula.{Formula}
use Rattle.cca_base.specs.declared.model.Move.{Move}
use Rattle.cca_base.specs.PlantModel.{PlantModel}
use Rattle.cca_base.specs.Formula.{is_within}
use Rattle.cca_base.specs.Implicants.{source_pair}
use Rattle.cca_base.specs.Model.{WellFormed, IsMove, HasMode, is_broken, mode_counts, value_counts}
use Rattle.cca_base.specs.Repairs.{pairs_of, sound_pairs}
use Rattle.cca_base.specs.State.{IsState, Extends, Follows}
use Rattle.cca_base.specs.Steps.{support}
use Rattle.cca_base.proofs.Members.{in_pairs, stands_in}
use Rattle.cca_base.proofs.Within.{fits_within}
use Rattle.plan_checker.specs.Steps.{AreSupport, IsLeanedOn, HasSupport}

-- a move's guard speaks only of what the model has
pub guard_within : (m : PlantModel) → WellFormed m → (move : Move) → Contains m.moves move → IsTrue (is_within (length m.components) (length m.variables) move.guard)
guard_within m good move among =
    let of : IsMove m move = All-contains (IsMove m) m.moves move good.moves among in
    subst (λ n. is_within n (length m.variables) move.guard ≡ true) (length-map m.components (λ c. length c.modes))
    (subst (λ n. is_within (length (mode_counts m)) n move.guard ≡ true) (length-map m.variables (λ v. length v.values)) (fits_within (mode_counts m) (value_counts m) move.guard of.guard.fits))

-- what follows from some pairs follows from others, where the states that hold these hold those
pub follows_along : (m : PlantModel) (a b : List Pair) (f : Formula) → ((t : List ℕ) → Extends t b → Extends t a) → Follows m a f → Follows m b f
follows_along m a b f along follows t state extends = follows t state (along t extends)

-- a state that holds what the move may lean on has these pairs
pub has_support : (m : PlantModel) (s : List ℕ) (move : Move) → slice_get s move.component ≡ Some move.source → (t : List ℕ) → Extends t (support m s move) → HasSupport m s move.component t
has_support m s move at t extends p stands leaned =
    let Has : Pair → Type 0 = λ q. slice_get t q.item ≡ Some q.value in
    elim (leaned) [
      | inl own ↦
          let here : Has (source_pair move) = All-contains Has (support m s move) (source_pair move) extends (contains_here (source_pair move) (source_pair move) (sound_pairs m s) refl) in
          ap (slice_get t) own ∙ here ∙ ap Some (same_Some move.source p.value (sym at ∙ ap (slice_get s) (sym own) ∙ stands))
      | inr whole ↦
          All-contains Has (support m s move) p extends (contains_there (source_pair move) p (sound_pairs m s)
          (to_filter (λ q. not (is_broken m.moves q.item q.value)) (pairs_of s) p (not_from_false (is_broken m.moves p.item p.value) whole) (in_pairs s p stands)))
    ]

module _ (m : PlantModel) (s : List ℕ) (move : Move) (pairs : List Pair) (at : slice_get s move.component ≡ Some move.source) (are : AreSupport m s move.component pairs) where
  -- a state that holds what the move may lean on holds these pairs
  pub from_support : (t : List ℕ) → Extends t (support m s move) → Extends t pairs
  from_support t extends =
      all_from (λ p. slice_get t p.item ≡ Some p.value) pairs (λ p among. let h = (are p).0 among in has_support m s move at t extends p h.0 h.1)

  -- and the other way round
  pub to_support : (t : List ℕ) → Extends t pairs → Extends t (support m s move)
  to_support t extends =
      let Has : Pair → Type 0 = λ p. slice_get t p.item ≡ Some p.value in
      let test : Pair → Bool = λ p. not (is_broken m.moves p.item p.value) in
      all_from Has (support m s move) (λ p among. elim (contains_cases (source_pair move) p (sound_pairs m s) among) [
        | inl e ↦ subst Has e (All-contains Has pairs (source_pair move) extends ((are (source_pair move)).1 (at, inl refl)))
        | inr there ↦
            let parts = from_filter test (pairs_of s) p there in
            All-contains Has pairs p extends ((are p).1 (stands_in s p parts.1, inr (not-true (is_broken m.moves p.item p.value) parts.0)))
      ])

-- what stands in a state is a mode of the model
stands_mode : (m : PlantModel) (s : List ℕ) (p : Pair) → IsState m s → slice_get s p.item ≡ Some p.value → HasMode m p.item p.value
stands_mode m s p state stands =
    subst (HasMode m p.item) (value_at s p.item p.value stands) (state.modes p.item (subst (λ n. p.item < n) state.full (slice_get_within s p.item p.value stands)))

-- the pairs that a move may lean on are modes of the model
pub support_modes : (m : PlantModel) (s : List ℕ) (c : ℕ) (pairs : List Pair) → IsState m s → AreSupport m s c pairs → All (λ p. HasMode m p.item p.value) pairs
support_modes m s c pairs state are = all_from (λ p. HasMode m p.item p.value) pairs (λ p among. stands_mode m s p state ((are p).0 among).0)

-- ---- the pairs that a move may lean on, one component after the other

-- exactly the pairs of the first components that may be leaned on
abbrev pub AreSupportTo : PlantModel → List ℕ → ℕ → ℕ → List Pair → Type 0
AreSupportTo m s own count pairs = (p : Pair) → Contains pairs p ↔ ((p.item < count) × (slice_get s p.item ≡ Some p.value) × IsLeanedOn m own p)

module _ (m : PlantModel) (s : List ℕ) (own count : ℕ) (pairs : List Pair) (are : AreSupportTo m s own count pairs) where
  pub support_more : (q : Pair) → q.item ≡ count → slice_get s count ≡ Some q.value → IsLeanedOn m own q → AreSupportTo m s own (count + 1) (pairs ++ q ∷ [])
  support_more q at stands leaned p = (
    λ among. elim (Contains-push_cases pairs q p among) [
      | inl before ↦ let h = (are p).0 before in (omega (arith, h.0), h.1, h.2)
      | inr e ↦ subst (λ r. (r.item < count + 1) × (slice_get s r.item ≡ Some r.value) × IsLeanedOn m own r) e (omega (arith, at), ap (slice_get s) at ∙ stands, leaned)
    ],
    λ h. elim (cases_eq p.item count) [
      | inl e ↦
          let value : q.value ≡ p.value = same_Some q.value p.value (sym stands ∙ ap (slice_get s) (sym e) ∙ h.1) in
          subst (Contains (pairs ++ q ∷ [])) (λ i. record { item = (at ∙ sym e) i; value = value i }) (Contains-push pairs q)
      | inr other ↦ Contains-append_left pairs (q ∷ []) p ((are p).1 (omega (arith, h.0, other), h.1, h.2))
    ],
  )

  pub support_same : (mode : ℕ) → slice_get s count ≡ Some mode → (count ≡ own → ⊥) → is_broken m.moves count mode ≡ true → AreSupportTo m s own (count + 1) pairs
  support_same mode stands other broken p = (
    λ among. (let h = (are p).0 among in (omega (arith, h.0), h.1, h.2)),
    λ h. elim (cases_eq p.item count) [
      | inl e ↦
          let value : mode ≡ p.value = same_Some mode p.value (sym stands ∙ ap (slice_get s) (sym e) ∙ h.1) in
          elim (h.2) [
            | inl same ↦ absurd (other (sym e ∙ same))
            | inr whole ↦ absurd (both_ways (is_broken m.moves p.item p.value) whole (subst (λ c. is_broken m.moves c p.value ≡ true) (sym e) (subst (λ v. is_broken m.moves count v ≡ true) value broken)))
          ]
      | inr apart ↦ (are p).1 (omega (arith, h.0, apart), h.1, h.2)
    ],
  )

pub support_whole : (m : PlantModel) (s : List ℕ) (own count : ℕ) (pairs : List Pair) → length s ≤ count → AreSupportTo m s own count pairs → AreSupport m s own pairs
support_whole m s own count pairs full are p = (
  (λ among. (let h = (are p).0 among in (h.1, h.2))),
  (λ h. (are p).1 (omega (arith, slice_get_within s p.item p.value h.0, full), h.0, h.1)),
)
