-- At which tick two lists of states differ first.
use Rattle.std.proofs.Common.{◌≡◌, ◌⊎◌, ◌<◌, ◌+◌, ℕ, nat_eq, List, length, get_or, Some, inl, inr, refl, sym, ap, ◌∙◌, arith}
use Rattle.std.specs.List.{slice_get}
use Rattle.std.specs.Bool.{Decides}
use Rattle.std.specs.Cmp.{unsigned_Decides}
use Rattle.std.specs.Cmp.Lexicographic.{pointwise}
use Rattle.std.proofs.lemmas.Slice.Eq.{slice_eq-Decides}
use Rattle.std.proofs.lemmas.List.{length-map}
use Rattle.std.proofs.lemmas.Option.{same_Some, slice_get-get_or, slice_get-map, slice_get_within}
use Rattle.std.specs.Option.{option_map}
use Rattle.list_laws.proofs.Orders.{below_next}
use Rattle.cca_base.specs.declared.state.State.{State}
use Rattle.trajectory_estimator.specs.Asked.{modes_of}

-- the modes of a state at a place
pub modes_at : (states : List State) (at : ℕ) (d : State) → at < length states → slice_get (modes_of states) at ≡ Some (get_or states at d).modes
modes_at states at d within = slice_get-map (λ (s : State). s.modes) states at ∙ ap (option_map (λ (s : State). s.modes)) (slice_get-get_or states at d within)

-- two lists are alike before a place
abbrev pub AlikeTo : List State → List State → ℕ → Type 0
AlikeTo old new bound = (j : ℕ) (u v : List ℕ) → j < bound → slice_get (modes_of old) j ≡ Some u → slice_get (modes_of new) j ≡ Some v → u ≡ v

-- one place further
pub alike_further : (old new : List State) (at : ℕ) (s t : List ℕ) → AlikeTo old new at → slice_get (modes_of old) at ≡ Some s → slice_get (modes_of new) at ≡ Some t → s ≡ t → AlikeTo old new (at + 1)
alike_further old new at s t alike here there same j u v h e f = elim (below_next j at h) [
  | inl less ↦ alike j u v less e f
  | inr own ↦ same_Some u s (sym e ∙ ap (slice_get (modes_of old)) own ∙ here) ∙ same ∙ same_Some t v (sym there ∙ ap (slice_get (modes_of new)) (sym own) ∙ f)
]

-- all places that both have
pub alike_all : (old new : List State) (at : ℕ) → (length old < at + 1) ⊎ (length new < at + 1) → AlikeTo old new at → (j : ℕ) (u v : List ℕ) → slice_get (modes_of old) j ≡ Some u
    → slice_get (modes_of new) j ≡ Some v → u ≡ v
alike_all old new at (inl short) alike j u v e f =
    alike j u v (omega (arith, short, slice_get_within (modes_of old) j u e, length-map old (λ (s : State). s.modes))) e f
alike_all old new at (inr short) alike j u v e f =
    alike j u v (omega (arith, short, slice_get_within (modes_of new) j v f, length-map new (λ (s : State). s.modes))) e f

-- ---- what a comparison of modes says

pub modes_decide : (xs ys : List ℕ) → Decides (pointwise nat_eq xs ys) (xs ≡ ys)
modes_decide xs ys = slice_eq-Decides unsigned_Decides xs ys (pointwise nat_eq xs ys) refl
