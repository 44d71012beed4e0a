-- The lightest modes of a set, and free modes.
use Rattle.std.proofs.Common.{◌≡◌, ◌⊎◌, inl, inr, ℕ, ◌+◌, ◌<◌, ◌≤◌, true, false, List, [], ◌∷◌, ◌++◌, length, slice_get, slice_index, slice_index_or, Option, Some, None, sym, ap, subst, ◌∙◌, arith}
use Rattle.std.proofs.lemmas.List.{length_push, get_or_push, get_or_append_left}
use Rattle.std.proofs.lemmas.List.Elements.{All-nil}
use Rattle.cca_base.specs.declared.cube.Pair.{Pair}
use Rattle.std.proofs.lemmas.Option.{same_Some}
use Rattle.list_laws.proofs.Orders.{below_next}
use Rattle.cca_base.specs.Sets.{has}
use Rattle.cca_base.specs.PlantModel.{PlantModel}
use Rattle.cca_base.specs.Model.{HasMode, mode_counts}
use Rattle.cca_base.specs.State.{IsState}
use Rattle.cca_base.specs.declared.limits.TheConstants.{MAX_CHOICES}
use Rattle.cca_base.proofs.NextModes.{few_modes}
use Rattle.reach_laws.specs.Classes.{Test}
use Rattle.reach_laws.proofs.Order.{repair_rules}
use Rattle.reach_laws.proofs.Sound.{member_mode}
use Rattle.reversibility.specs.ClassParts.{ClassParts, IsClasses, in_row}
use Rattle.wish_laws.specs.Lightest.{IsLighterMode, IsLightestOf}
use Rattle.goal_interpreter.specs.Weights.{AreWeights}
use Rattle.goal_interpreter.proofs.WeightLaws.{row_full, rows_full}
use Rattle.goal_interpreter.specs.Choosing.{AreFreeModes, IsFreeMode, IsLightestBelow}

pub skipped : (row : List ℕ) (set n : ℕ) (best : Option ℕ) → has set n ≡ false → IsLightestBelow row set n best → IsLightestBelow row set (n + 1) best
skipped row set n None e h = λ m within has_it. elim (below_next m n within) [ inl less ↦ h m less has_it | inr same ↦ absurd (let f : has set n ≡ true = subst (λ k. has set k ≡ true) same has_it in cc) ]
skipped row set n (Some x) e (less, its, lightest) = (
  omega arith,
  its,
  λ m within has_it. elim (below_next m n within) [
    | inl lt ↦ lightest m lt has_it
    | inr same ↦ absurd (let f : has set n ≡ true = subst (λ k. has set k ≡ true) same has_it in cc)
  ],
)

pub first_one : (row : List ℕ) (set n : ℕ) → has set n ≡ true → IsLightestBelow row set n None → IsLightestBelow row set (n + 1) (Some n)
first_one row set n e none = (
  omega arith,
  e,
  λ m within has_it. elim (below_next m n within) [
    | inl less ↦ absurd (none m less has_it)
    | inr same ↦ inr (ap (slice_index row) (sym same), omega (arith, same))
  ],
)

pub lighter_one : (row : List ℕ) (set n x : ℕ) → has set n ≡ true → slice_index row n < slice_index row x → IsLightestBelow row set n (Some x) → IsLightestBelow row set (n + 1) (Some n)
lighter_one row set n x e lt (less, its, lightest) = (
  omega arith,
  e,
  λ m within has_it. elim (below_next m n within) [
    | inl below ↦ elim (lightest m below has_it) [ inl more ↦ inl (omega arith) | inr equal ↦ inl (omega (arith, equal.0)) ]
    | inr same ↦ inr (ap (slice_index row) (sym same), omega (arith, same))
  ],
)

pub no_lighter : (row : List ℕ) (set n x : ℕ) → slice_index row x ≤ slice_index row n → IsLightestBelow row set n (Some x) → IsLightestBelow row set (n + 1) (Some x)
no_lighter row set n x le (less, its, lightest) = (
  omega arith,
  its,
  λ m within has_it. elim (below_next m n within) [
    | inl below ↦ lightest m below has_it
    | inr same ↦
        let weights : slice_index row m ≡ slice_index row n = ap (slice_index row) same in
        let cases : (slice_index row x < slice_index row m) ⊎ (slice_index row x ≡ slice_index row m) = grind (arith, weights, le) in
        elim cases [ inl lt ↦ inl lt | inr equal ↦ inr (equal, omega (arith, same, less)) ]
  ],
)

-- ---- free modes

module _ (m : PlantModel) (member : Test) (weights : List (List ℕ)) (s : List ℕ) where
  -- the lightest of the class, or the component's own mode
  free_mode_is : (c set : ℕ) (found : Option ℕ) (x : ℕ) → ((mode : ℕ) → member c mode ≡ has set mode) → ((mode : ℕ) → member c mode ≡ true → HasMode m c mode)
      → HasMode m c (slice_index s c) → length (slice_index_or weights c []) ≡ slice_index (mode_counts m) c
      → IsLightestBelow (slice_index_or weights c []) set (length (slice_index_or weights c [])) found
      → (found ≡ Some x) ⊎ ((found ≡ None) × (x ≡ slice_index s c)) → IsFreeMode m member weights s c x
  free_mode_is c set None x same within own long none (inl e) = absurd (cc)
  free_mode_is c set None x same within own long none (inr (e, at)) =
      let row = slice_index_or weights c [] in
      let empty : (mode : ℕ) → member c mode ≡ true → ⊥ = λ mode is. none mode (subst (λ n. mode < n) (sym long) (within mode is)) (sym (same mode) ∙ is) in
      record {
        of_model = subst (HasMode m c) (sym at) own;
        stands = inr (at, empty);
        lightest = λ other may. elim may [
          | inl is ↦ absurd (empty other is)
          | inr stays ↦ (let alike : x ≡ other = at ∙ sym stays.0 in inr (ap (slice_index row) alike, omega (arith, alike)))
        ];
      }
  free_mode_is c set (Some y) x same within own long (less, its, lightest) (inr (e, at)) = absurd (cc)
  free_mode_is c set (Some y) x same within own long (less, its, lightest) (inl e) =
      let row = slice_index_or weights c [] in
      let is_y : y ≡ x = same_Some y x e in
      let is : member c x ≡ true = same x ∙ subst (λ z. has set z ≡ true) is_y its in
      record {
        of_model = within x is;
        stands = inl is;
        lightest = λ other may. elim may [
          | inl has_it ↦ subst (λ z. IsLighterMode row z other) is_y (lightest other (subst (λ n. other < n) (sym long) (within other has_it)) (sym (same other) ∙ has_it))
          | inr stays ↦ absurd (stays.1 x is)
        ];
      }

  pub one_more_free : (modes : List ℕ) (x : ℕ) → AreFreeModes m member weights s modes → IsFreeMode m member weights s (length modes) x → AreFreeModes m member weights s (modes ++ x ∷ [])
  one_more_free modes x its next c within = elim (below_next c (length modes) (omega (arith, within, length_push modes x))) [
    | inl less ↦ subst (IsFreeMode m member weights s c) (sym (get_or_append_left modes (x ∷ []) 0 c less)) (its c less)
    | inr same ↦ subst (IsFreeMode m member weights s c) (sym (get_or_push modes x 0 c (sym same))) (subst (λ d. IsFreeMode m member weights s d x) (sym same) next)
  ]

  -- a free mode of each component makes the lightest state of all
  pub free_is_lightest : (modes : List ℕ) → length modes ≡ length m.components → AreFreeModes m member weights s modes → IsLightestOf m member weights s [] modes
  free_is_lightest modes long its = record {
    stands = record {
      state = record { full = long; modes = λ c within. (its c (subst (λ n. c < n) (sym long) within)).of_model };
      each = λ c within. (its c (subst (λ n. c < n) (sym long) within)).stands;
    };
    extends = All-nil (λ (p : Pair). slice_get modes p.item ≡ Some p.value);
    others = λ c within. inr (its c (subst (λ n. c < n) (sym long) within)).lightest;
  }

-- ---- by classes

module _ (p : ClassParts) (is : IsClasses p) (weights : List (List ℕ)) (its : AreWeights p.compiled.model weights) (s : List ℕ) (state : IsState p.compiled.model s) where
  pub few_in_row : (c : ℕ) → c < length p.compiled.model.components → length (slice_index_or weights c []) ≤ MAX_CHOICES
  few_in_row c within =
      subst (λ n. n ≤ MAX_CHOICES) (sym (row_full p.compiled.model weights its c (subst (λ n. c < n) (sym (rows_full p.compiled.model weights its)) within)))
      (few_modes p.compiled.model is.compiled.accepted.well_formed c within)

  pub free_by_classes : (c set : ℕ) (row : List ℕ) (found : Option ℕ) (x : ℕ) → c < length p.compiled.model.components → row ≡ slice_index_or weights c [] → set ≡ slice_index p.rows c
      → IsLightestBelow row set (length row) found → (found ≡ Some x) ⊎ ((found ≡ None) × (x ≡ slice_index s c)) → IsFreeMode p.compiled.model (in_row p.rows) weights s c x
  free_by_classes c set row found x within is_row is_set lightest which =
      free_mode_is p.compiled.model (in_row p.rows) weights s c set found x (λ mode. ap (λ z. has z mode) (sym is_set))
      (λ mode inside. member_mode p.compiled.model p.base (in_row p.rows) (repair_rules p.compiled.model is.compiled.accepted.well_formed) is.classes is.grounded c mode inside)
      (state.modes c within) (row_full p.compiled.model weights its c (subst (λ n. c < n) (sym (rows_full p.compiled.model weights its)) within))
      (subst (λ r. IsLightestBelow r set (length r) found) is_row lightest) which
