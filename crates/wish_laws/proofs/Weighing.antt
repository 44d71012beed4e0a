-- The lightest state: mode by mode, and implicant by implicant.
use Rattle.std.proofs.Common.{◌≡◌, ◌⊎◌, ◌<◌, ◌≤◌, ℕ, suc, List, [], ◌∷◌, length, get_or, slice_get, slice_index, Some, refl, sym, ap, subst, ◌∙◌, inl, inr, arith}
use Rattle.std.specs.Ordering.{nat_cmp, ordering_then}
use Rattle.std.specs.Cmp.Lexicographic.{slice_cmp}
use Rattle.std.proofs.lemmas.Cmp.{nat_list_cmp_total}
use Rattle.std.proofs.lemmas.List.Elements.{All-contains}
use Rattle.std.proofs.lemmas.Option.{slice_get_within, get_or_from_slice_get}
use Rattle.list_laws.proofs.Orders.{nat_cmp-same, less_cmp}
use Rattle.cca_base.proofs.StateLaws.{none_earlier}
use Rattle.cca_base.specs.declared.cube.Pair.{Pair}
use Rattle.cca_base.specs.declared.formula.Formula.{Formula}
use Rattle.cca_base.specs.PlantModel.{PlantModel}
use Rattle.cca_base.specs.Accepted.{CompiledModel, IsCompiled}
use Rattle.cca_base.specs.State.{Extends, Holds}
use Rattle.cca_base.specs.Estimates.{IsEarlier}
use Rattle.cca_laws.proofs.EstimateLaws.{neither}
use Rattle.reach_laws.specs.Classes.{Test}
use Rattle.reach_laws.specs.Laws.{Setting}
use Rattle.reach_laws.specs.Cells.{Cells, IsPolicy}
use Rattle.guard_compiler.specs.Wishes.{IsImplicant}
use Rattle.wish_laws.specs.Settled.{Settled, weight_of, IsTarget, NoneHolds}
use Rattle.wish_laws.specs.Lightest.{MayStand, StandsWhereItMay, IsBarred, IsLighter, IsLighterMode, IsLightestOf}
use Rattle.wish_laws.proofs.Settling.{settled_by_classes}
use Rattle.guard_compiler.proofs.ImplicantsInStates.{holds_by_implicant}

-- ---- mode by mode

-- states of the weights' length, each mode lighter: the whole is lighter
lighter_by_modes : (weights : List (List ℕ)) (t u : List ℕ) → length t ≡ length weights → length u ≡ length weights
    → ((c : ℕ) → c < length weights → IsLighterMode (get_or weights c []) (slice_index t c) (slice_index u c)) → IsLighter weights t u
lighter_by_modes [] [] [] e f h = inr (refl, inl refl)
lighter_by_modes [] [] (y ∷ u) e f h = absurd (omega arith)
lighter_by_modes [] (x ∷ t) u e f h = absurd (omega arith)
lighter_by_modes (row ∷ weights) [] u e f h = absurd (omega arith)
lighter_by_modes (row ∷ weights) (x ∷ t) [] e f h = absurd (omega arith)
lighter_by_modes (row ∷ weights) (x ∷ t) (y ∷ u) e f h =
    let rest : IsLighter weights t u = lighter_by_modes weights t u (omega arith) (omega arith) (λ c within. h (suc c) (omega arith)) in
    let first : IsLighterMode row x y = h 0 (omega arith) in
    elim first [
      | inl less ↦ elim rest [
        | inl lt ↦ inl (omega arith)
        | inr both ↦ inl (omega (arith, both.0))
      ]
      | inr same ↦ elim rest [
        | inl lt ↦ inl (omega (arith, same.0))
        | inr both ↦ inr (
          (omega (arith, same.0, both.0)),
          (
              let cases : (x < y) ⊎ (x ≡ y) = (let le = same.1 in grind arith) in
              elim cases [
                | inl lt ↦ inr (ap (λ o. ordering_then o (slice_cmp nat_cmp t u)) (less_cmp x y lt))
                | inr alike ↦ elim both.1 [
                  | inl equal ↦ inl (cc)
                  | inr earlier ↦ inr (ap (λ o. ordering_then o (slice_cmp nat_cmp t u)) (nat_cmp-same x y alike) ∙ earlier)
                ]
              ]),
        )
      ]
    ]

pub lightest_of_cube : (m : PlantModel) (member : Test) (weights : List (List ℕ)) (s : List ℕ) (cube : List Pair) (t : List ℕ) → length weights ≡ length m.components
    → IsLightestOf m member weights s cube t → (u : List ℕ) → StandsWhereItMay m member s u → Extends u cube → IsLighter weights t u
lightest_of_cube m member weights s cube t long its u stands extends =
    lighter_by_modes weights t u (its.stands.state.full ∙ sym long) (stands.state.full ∙ sym long) (λ c within.
    let inside : c < length m.components = omega (arith, long, within) in
    elim (its.others c inside) [
      | inl (mode, among) ↦
          let p : Pair = record { item = c; value = mode } in
          let here : slice_index t c ≡ mode = get_or_from_slice_get t c mode 0 (All-contains (λ (q : Pair). slice_get t q.item ≡ Some q.value) cube p its.extends among) in
          let there : slice_index u c ≡ mode = get_or_from_slice_get u c mode 0 (All-contains (λ (q : Pair). slice_get u q.item ≡ Some q.value) cube p extends among) in
          let same : slice_index t c ≡ slice_index u c = here ∙ sym there in
          inr (ap (slice_index (get_or weights c [])) same, omega (arith, same))
      | inr lightest ↦ lightest (slice_index u c) (stands.each c inside)
    ])

-- ---- implicant by implicant

pub lighter_trans : (weights : List (List ℕ)) (t u v : List ℕ) → IsLighter weights t u → IsLighter weights u v → IsLighter weights t v
lighter_trans weights t u v (inl h) (inl k) = inl (omega arith)
lighter_trans weights t u v (inl h) (inr k) = inl (omega (arith, k.0))
lighter_trans weights t u v (inr h) (inl k) = inl (omega (arith, h.0))
lighter_trans weights t u v (inr (e, inl same)) (inr (f, k)) = inr (e ∙ f, subst (λ l. (l ≡ v) ⊎ IsEarlier l v) (sym same) k)
lighter_trans weights t u v (inr (e, inr less)) (inr (f, inl same)) = inr (e ∙ f, inr (subst (IsEarlier t) same less))
lighter_trans weights t u v (inr (e, inr less)) (inr (f, inr more)) = inr (e ∙ f, inr (nat_list_cmp_total.trans t u v less more))

lighter_weight : (weights : List (List ℕ)) (t u : List ℕ) → IsLighter weights t u → weight_of weights t ≤ weight_of weights u
lighter_weight weights t u (inl h) = omega arith
lighter_weight weights t u (inr h) = omega (arith, h.0)

lighter_first : (weights : List (List ℕ)) (t u : List ℕ) → IsLighter weights t u → weight_of weights u ≡ weight_of weights t → IsEarlier u t → ⊥
lighter_first weights t u (inl h) e k = omega (arith, h, e)
lighter_first weights t u (inr (f, inl same)) e k = none_earlier u (subst (IsEarlier u) same k)
lighter_first weights t u (inr (f, inr less)) e k = none_earlier t (nat_list_cmp_total.trans t u t less k)

module _ (b : CompiledModel) (base : List ℕ) (member : Test) (cells : Cells) (compiled : IsCompiled b) (policy : IsPolicy b base member cells) (s : List ℕ)
    (g : Setting b.model b.order base member s) where
  -- no state that stands where it may extends a barred cube
  barred : (cube : List Pair) (t : List ℕ) → IsBarred member s cube → StandsWhereItMay b.model member s t → Extends t cube → ⊥
  barred cube t (p, among, never) stands extends =
      let at : slice_get t p.item ≡ Some p.value = All-contains (λ (q : Pair). slice_get t q.item ≡ Some q.value) cube p extends among in
      let inside : p.item < length t = slice_get_within t p.item p.value at in
      let full = stands.state.full in
      never (subst (MayStand member s p.item) (get_or_from_slice_get t p.item p.value 0 at) (stands.each p.item (omega (arith, inside, full))))

  pub lightest_of_all : (weights : List (List ℕ)) → length weights ≡ length b.model.components → (f : Formula) (t : List ℕ)
      → ((cube : List Pair) × IsImplicant b.model f cube × IsLightestOf b.model member weights s cube t)
      → ((cube : List Pair) → IsImplicant b.model f cube
      → IsBarred member s cube ⊎ ((u : List ℕ) × IsLightestOf b.model member weights s cube u × IsLighter weights t u))
      → IsTarget b.model weights s f t
  lightest_of_all weights long f t (cube, implicant, its) least =
      let upto : (u : List ℕ) → Settled b.model s u → Holds b.model u f → IsLighter weights t u =
      λ u settled holds.
      let stands = (settled_by_classes b base member s g cells compiled policy u).0 settled in
      let (other, is, extends) = (holds_by_implicant b.model f u stands.state).0 holds in
      elim (least other is) [
        | inl never ↦ absurd (barred other u never stands extends)
        | inr found ↦ lighter_trans weights t found.0 u found.2 (lightest_of_cube b.model member weights s other found.0 long found.1 u stands extends)
      ] in
      record {
        settled = (settled_by_classes b base member s g cells compiled policy t).1 its.stands;
        holds = (holds_by_implicant b.model f t its.stands.state).1 (cube, implicant, its.extends);
        least = λ u settled holds. lighter_weight weights t u (upto u settled holds);
        first = λ u settled holds e earlier. lighter_first weights t u (upto u settled holds) e earlier;
      }

  pub none_settled : (f : Formula) → ((cube : List Pair) → IsImplicant b.model f cube → IsBarred member s cube) → NoneHolds b.model s f
  none_settled f none t settled holds =
      let stands = (settled_by_classes b base member s g cells compiled policy t).0 settled in
      let (cube, is, extends) = (holds_by_implicant b.model f t stands.state).0 holds in
      barred cube t (none cube is) stands extends

pub one_target : (m : PlantModel) (weights : List (List ℕ)) (s : List ℕ) (f : Formula) (t u : List ℕ) → IsTarget m weights s f t → IsTarget m weights s f u → t ≡ u
one_target m weights s f t u x y =
    let below : weight_of weights t ≤ weight_of weights u = x.least u y.settled y.holds in
    let above : weight_of weights u ≤ weight_of weights t = y.least t x.settled x.holds in
    neither t u (λ e. y.first t x.settled x.holds (omega arith) e) (λ e. x.first u y.settled y.holds (omega arith) e)
