-- What failures cost, mode by mode.
use Rattle.std.proofs.Common.{◌≡◌, inl, inr, ℕ, ◌+◌, ◌-◌, ◌<◌, ◌≤◌, List, [], ◌∷◌, ◌++◌, All, length, map, take, min, get_or, slice_get, slice_index, slice_index_or, Option, Some, refl, sym, ap, subst, ◌∙◌, arith}
use Rattle.std.proofs.lemmas.Bool.{cases_lt}
use Rattle.std.proofs.lemmas.List.{get_or-map, get_or_push, get_or_append_left, length_push, length-map, take_more, take_all}
use Rattle.std.proofs.lemmas.List.Elements.{All-push, All-weaker}
use Rattle.std.proofs.lemmas.Option.{get_or_from_slice_get, slice_get_within}
use Rattle.list_laws.proofs.Places.{some_at}
use Rattle.cca_base.specs.Model.{HasMode, IsComponent, WellFormed, mode_counts}
use Rattle.cca_base.proofs.Within.{mode_within}
use Rattle.cca_base.specs.PlantModel.{PlantModel}
use Rattle.cca_base.specs.declared.model.Component.{Component}
use Rattle.cca_base.specs.State.{IsState}
use Rattle.successors.specs.Choices.{AreAllLeast, AreLeast}
use Rattle.trajectory_estimator.specs.Changes.{AreChangesOf, AreNear, HasChanges}

-- what failures cost from the modes below a bound, mode by mode
pub record HaveBelow (m : PlantModel) (rows : List (List (List (Option ℕ)))) (bound : ℕ) : Type 0 where
  pub full : length rows ≡ bound
  pub each : (c from : ℕ) → HasMode m c from → from < bound → HasChanges m rows c from

-- ---- how many modes a component has

pub most_more : (xs : List Component) (i most more : ℕ) (x : Component) → i < length xs → x ≡ get_or xs i x → All (λ z. length z.modes ≤ most) (take i xs) → most ≤ more → length x.modes ≤ more
    → All (λ z. length z.modes ≤ more) (take (i + 1) xs)
most_more xs i most more x within is all up own =
    subst (All (λ z. length z.modes ≤ more)) (ap (λ z. take i xs ++ z ∷ []) is ∙ sym (take_more xs i x within))
    (All-push (λ z. length z.modes ≤ more) (take i xs) x
    (All-weaker (λ z. length z.modes ≤ most) (λ z. length z.modes ≤ more) (λ z h. omega (arith, h, up)) (take i xs) all) own)

pub most_all : (xs : List Component) (i most : ℕ) → length xs ≤ i → All (λ z. length z.modes ≤ most) (take i xs) → All (λ z. length z.modes ≤ most) xs
most_all xs i most h all = subst (All (λ z. length z.modes ≤ most)) (take_all i xs h) all

-- ---- near modes

near_at : (components : List Component) (mode : ℕ) (modes : List ℕ) (c : ℕ) (x : Component) → AreNear components mode modes → slice_get components c ≡ Some x
    → slice_index modes c ≡ min mode (length x.modes - 1)
near_at components mode modes c x near at =
    ap (λ l. slice_index l c) near
    ∙ (get_or-map (λ (z : Component). min mode (length z.modes - 1)) components c x 0 (slice_get_within components c x at)
    ∙ ap (λ (z : Component). min mode (length z.modes - 1)) (get_or_from_slice_get components c x x at))

count_at : (m : PlantModel) (c : ℕ) (x : Component) → slice_get m.components c ≡ Some x → slice_index (mode_counts m) c ≡ length x.modes
count_at m c x at = get_or-map (λ (z : Component). length z.modes) m.components c x 0 (slice_get_within m.components c x at)
    ∙ ap (λ (z : Component). length z.modes) (get_or_from_slice_get m.components c x x at)

pub near_state : (m : PlantModel) (mode : ℕ) (modes : List ℕ) → WellFormed m → AreNear m.components mode modes → IsState m modes
near_state m mode modes fits near = record {
  full = ap length near ∙ length-map m.components (λ z. min mode (length z.modes - 1));
  modes = λ c within.
      let (x, at) = some_at m.components c within in
      let some : 0 < length x.modes = (fits_at m c x fits at).modes.some in
      let here = near_at m.components mode modes c x near at in
      let count = count_at m c x at in
      let low : min mode (length x.modes - 1) < length x.modes = omega (arith, some) in
      omega (arith, here, count, low);
}
  where
    fits_at : (m : PlantModel) (c : ℕ) (x : Component) → WellFormed m → slice_get m.components c ≡ Some x → IsComponent x
    fits_at m c x fits at = subst IsComponent (get_or_from_slice_get m.components c x x at) (fits.components c x (slice_get_within m.components c x at))

near_own : (m : PlantModel) (c mode : ℕ) (modes : List ℕ) → AreNear m.components mode modes → HasMode m c mode → slice_index modes c ≡ mode
near_own m c mode modes near own =
    let (x, at) = some_at m.components c (mode_within m c mode own) in
    let count = count_at m c x at in
    let low : min mode (length x.modes - 1) ≡ mode = omega (arith, own, count) in
    near_at m.components mode modes c x near at ∙ low

-- ---- tables

changes_by : (m : PlantModel) (rows : List (List (List (Option ℕ)))) (c from : ℕ) (table : List (List (Option ℕ))) → from < length rows → slice_index_or rows from [] ≡ table → c < length table
    → length (slice_index_or table c []) ≡ slice_index (mode_counts m) c → AreLeast m.failures c from (slice_index_or table c []) → HasChanges m rows c from
changes_by m rows c from table mode e component full least = record {
  mode = mode;
  component = subst (λ (t : List (List (Option ℕ))). c < length t) (sym e) component;
  full = subst (λ (t : List (List (Option ℕ))). length (slice_index_or t c []) ≡ slice_index (mode_counts m) c) (sym e) full;
  least = subst (λ (t : List (List (Option ℕ))). AreLeast m.failures c from (slice_index_or t c [])) (sym e) least;
}

pub tables_none : (m : PlantModel) (rows : List (List (List (Option ℕ)))) → rows ≡ [] → HaveBelow m rows 0
tables_none m rows e = subst (λ (l : List (List (List (Option ℕ)))). HaveBelow m l 0) (sym e) (record { full = refl; each = λ c from own less. absurd (omega arith) })

pub tables_more : (m : PlantModel) (rows : List (List (List (Option ℕ)))) (bound : ℕ) (modes : List ℕ) (table : List (List (Option ℕ))) → AreNear m.components bound modes
    → map length table ≡ mode_counts m → AreAllLeast m.failures modes table → HaveBelow m rows bound → HaveBelow m (rows ++ table ∷ []) (bound + 1)
tables_more m rows bound modes table near sizes least h = record {
  full = omega (arith, length_push rows table, h.full);
  each = λ c from own less. elim (cases_lt from bound) [
    | inl lt ↦
        let old = h.each c from own lt in
        changes_by m (rows ++ table ∷ []) c from (slice_index_or rows from []) (omega (arith, length_push rows table, old.mode)) (get_or_append_left rows (table ∷ []) [] from old.mode)
        old.component old.full old.least
    | inr ge ↦
        let e : from ≡ bound = omega (arith, less) in
        let here : slice_index_or (rows ++ table ∷ []) from [] ≡ table = ap (λ i. slice_index_or (rows ++ table ∷ []) i []) e ∙ get_or_push rows table [] bound h.full in
        let inside : c < length table = omega (arith, mode_within m c from own, length-map table length, ap length sizes, length-map m.components (λ z. length z.modes)) in
        let wide : length (slice_index_or table c []) ≡ slice_index (mode_counts m) c = sym (get_or-map length table c [] 0 inside) ∙ ap (λ l. slice_index l c) sizes in
        let stands : slice_index modes c ≡ from = near_own m c bound modes near (subst (HasMode m c) e own) ∙ sym e in
        changes_by m (rows ++ table ∷ []) c from table (omega (arith, length_push rows table, h.full, e)) here inside wide (subst (λ n. AreLeast m.failures c n (slice_index_or table c [])) stands (least c inside))
  ];
}

pub tables_all : (m : PlantModel) (rows : List (List (List (Option ℕ)))) (bound most : ℕ) → most ≤ bound → All (λ x. length x.modes ≤ most) m.components → HaveBelow m rows bound → AreChangesOf m rows
unfolding AreChangesOf
tables_all m rows bound most up all h c from own =
    let (x, at) = some_at m.components c (mode_within m c from own) in
    let few = subst (λ (z : Component). length z.modes ≤ most) (get_or_from_slice_get m.components c x x at) (all c x (slice_get_within m.components c x at)) in
    h.each c from own (omega (arith, own, count_at m c x at, few, up))
