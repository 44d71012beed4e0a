-- A cube of one pair at most is in order.
use Rattle.std.proofs.Common.{◌<◌, ℕ, List, [], ◌∷◌, length, All, Contains, refl, sym, ap, inl, inr, arith}
use Rattle.std.proofs.lemmas.List.Sorted.{IsPermutation-refl}
use Rattle.list_laws.proofs.Members.{contains_cases, contains_none}
use Rattle.cca_base.specs.declared.cube.Pair.{Pair}
use Rattle.cca_base.specs.Accepted.{CompiledModel, IsCompiled}
use Rattle.cca_base.specs.Implicants.{Needs}
use Rattle.cca_base.specs.Orders.{AreInOrder, IsSorted, numbers_below}
use Rattle.cca_base.proofs.PathLaws.{all_taken, below_contains}

none_in_order : (order : List ℕ) → AreInOrder order []
none_in_order [] = refl
none_in_order (c ∷ order) = inl (none_in_order order)

one_in_order : (order : List ℕ) (p : Pair) → Contains order p.item → AreInOrder order (p ∷ [])
one_in_order [] p among = absurd (contains_none p.item among)
one_in_order (c ∷ order) p among = elim (contains_cases c p.item order among) [
  | inl here ↦ inr (p.value, [], ap (λ k. record { item = k; value = p.value } ∷ []) (sym here), none_in_order order)
  | inr there ↦ inl (one_in_order order p there)
]

pub short_sorted : (b : CompiledModel) → IsCompiled b → (cube : List Pair) → All (λ p. p.item < length b.model.components) cube → length cube < 2 → IsSorted b.order cube cube
short_sorted b is [] within few = record { same = IsPermutation-refl []; in_order = none_in_order b.order }
short_sorted b is (p ∷ []) within few =
    let n : ℕ = length b.model.components in
    let among : Contains b.order p.item = all_taken (Needs b.model) (numbers_below n) b.order is.order p.item (below_contains n p.item (within 0 p (omega arith))) in
    record { same = IsPermutation-refl (p ∷ []); in_order = one_in_order b.order p among }
short_sorted b is (p ∷ q ∷ rest) within few = absurd (omega (arith, few))
