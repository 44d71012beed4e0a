-- The nominal successor of a state: there is one, it is a state, and it costs nothing.
use Rattle.std.proofs.Common.{◌≡◌, ◌≢◌, ◌<◌, ℕ, inl, inr, List, length, replicate, slice_get, slice_index_or, slice_set, Option, Some, None, length-set, refl, sym, ap, subst, ◌∙◌, arith}
use Rattle.std.proofs.lemmas.Bool.{cases_eq, cases_order}
use Rattle.std.proofs.lemmas.Grind.{get_or-set_at}
use Rattle.std.proofs.lemmas.Option.{slice_get_within, get_or_from_slice_get, same_Some, none-some}
use Rattle.std.proofs.lemmas.List.{get_or-replicate, get_or-set_other, length-replicate}
use Rattle.std.proofs.lemmas.List.Elements.{All-contains}
use Rattle.std.proofs.lemmas.List.Folds.{sum_by-replicate}
use Rattle.list_laws.proofs.Members.{member_at}
use Rattle.cca_base.specs.declared.model.Move.{Move}
use Rattle.cca_base.specs.PlantModel.{PlantModel}
use Rattle.cca_base.specs.Model.{WellFormed, HasMode, IsMove, CommandsFit}
use Rattle.cca_base.specs.State.{IsState}
use Rattle.cca_base.specs.Successors.{IsCommanded, Nominal, Costs}

-- ---- there is one

-- two moves with one command, of which one stands before the other, do not leave one state
apart : (moves : List Move) (s : List ℕ) (i j : ℕ) (a b : Move) → CommandsFit moves → i < j → slice_get moves i ≡ Some a → slice_get moves j ≡ Some b → a.command ≡ b.command
    → slice_get s a.component ≡ Some a.source → slice_get s b.component ≡ Some b.source → ⊥
apart moves s i j a b fit before x y same at there =
    let Fit : Move → Move → Type 0 = λ u v. u.command ≡ v.command → (u.component ≡ v.component) × (u.source ≢ v.source) in
    let both : Fit (slice_index_or moves i a) (slice_index_or moves j a) = fit i j a before (slice_get_within moves j b y) in
    let fits : Fit a b = subst (λ u. Fit u b) (get_or_from_slice_get moves i a a x) (subst (Fit (slice_index_or moves i a)) (get_or_from_slice_get moves j b a y) both) in
    let e = fits same in
    e.1 (same_Some a.source b.source (sym at ∙ ap (slice_get s) e.0 ∙ there))

one_commanded : (m : PlantModel) (s : List ℕ) (k : Option ℕ) (a b : Move) → CommandsFit m.moves → IsCommanded m s k a → IsCommanded m s k b → a ≡ b
one_commanded m s k a b fit h g =
    let same : a.command ≡ b.command = same_Some a.command b.command (sym h.command ∙ g.command) in
    let x = member_at m.moves a h.of_model in
    let y = member_at m.moves b g.of_model in
    elim (cases_order h.of_model.0 g.of_model.0) [
      | inl e ↦ same_Some a b (sym x ∙ ap (slice_get m.moves) e ∙ y)
      | inr (inl before) ↦ absurd (apart m.moves s h.of_model.0 g.of_model.0 a b fit before x y same h.source g.source)
      | inr (inr after) ↦ absurd (apart m.moves s g.of_model.0 h.of_model.0 b a fit after y x (sym same) g.source h.source)
    ]

pub one_nominal : (m : PlantModel) (s : List ℕ) (k : Option ℕ) (t u : List ℕ) → CommandsFit m.moves → Nominal m s k t → Nominal m s k u → t ≡ u
one_nominal m s k t u fit (inl (a, h, e)) (inl (b, g, f)) = e ∙ ap (λ z. slice_set s z.component z.target) (one_commanded m s k a b fit h g) ∙ sym f
one_nominal m s k t u fit (inl (a, h, e)) (inr (free, f)) = absurd (free a h)
one_nominal m s k t u fit (inr (free, e)) (inl (b, g, f)) = absurd (free b g)
one_nominal m s k t u fit (inr (free, e)) (inr (none, f)) = e ∙ sym f

-- without a command nothing moves
pub stays : (m : PlantModel) (s : List ℕ) → Nominal m s None s
stays m s = inr ((λ move h. none-some move.command h.command), refl)

-- ---- it is a state

-- a state in which a component goes to a mode of its own is a state
pub moved : (m : PlantModel) (s : List ℕ) (d mode : ℕ) → IsState m s → HasMode m d mode → IsState m (slice_set s d mode)
moved m s d mode state has = record {
  full = length-set s d mode ∙ state.full;
  modes = λ c within. elim (cases_eq c d) [
    | inl e ↦ subst (HasMode m c) (sym (get_or-set_at s d c mode 0 e (omega (arith, e, within, state.full)))) (subst (λ z. HasMode m z mode) (sym e) has)
    | inr other ↦ subst (HasMode m c) (sym (get_or-set_other s d c mode 0 other)) (state.modes c within)
  ];
}

pub nominal_length : (m : PlantModel) (s t : List ℕ) (k : Option ℕ) → Nominal m s k t → length t ≡ length s
nominal_length m s t k (inl (move, commanded, e)) = ap length e ∙ length-set s move.component move.target
nominal_length m s t k (inr (none, e)) = ap length e

nominal_state : (m : PlantModel) (s t : List ℕ) (k : Option ℕ) → WellFormed m → IsState m s → Nominal m s k t → IsState m t
nominal_state m s t k good state (inl (move, commanded, e)) =
    subst (IsState m) (sym e) (moved m s move.component move.target state (All-contains (IsMove m) m.moves move good.moves commanded.of_model).target)
nominal_state m s t k good state (inr (none, e)) = subst (IsState m) (sym e) state

pub nominal_is_free : (m : PlantModel) (s t : List ℕ) (k : Option ℕ) → WellFormed m → IsState m s → Nominal m s k t → Costs m s k t 0
nominal_is_free m s t k good state h = record {
  state = nominal_state m s t k good state h;
  nominal = t;
  is_nominal = h;
  parts = replicate (length t) 0;
  full = length-replicate (length t) 0;
  each = λ c within. inl (refl, get_or-replicate (length t) c 0 0 within);
  total = omega (arith, sum_by-replicate (λ (n : ℕ). n) (length t) 0);
}
