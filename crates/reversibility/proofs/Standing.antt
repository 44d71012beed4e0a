-- Where components stand: in their classes, or in their open chains.
use Rattle.std.proofs.Common.{◌≡◌, false, ◌+◌, ◌<◌, ◌↔◌, ℕ, true, zero, suc, List, [], ◌∷◌, length, slice_get, slice_index, Some, sym, ap, subst, ◌∙◌, inl, inr, arith, map}
use Rattle.std.proofs.lemmas.Bool.{cases_lt, both_ways}
use Rattle.std.proofs.lemmas.Option.{get_or_from_slice_get, slice_get_within, same_Some, none-some}
use Rattle.cca_base.specs.Sets.{has}
use Rattle.reversibility.specs.ClassParts.{ClassParts, IsClasses, in_row}
use Rattle.cca_base.specs.declared.model.Component.{Component}
use Rattle.reach_laws.specs.Classes.{Stands}

pub mode_count : (components : List Component) (c : ℕ) (x : Component) → slice_get components c ≡ Some x → slice_index (map (λ z. length z.modes) components) c ≡ length x.modes
mode_count [] c x h = absurd (none-some x h)
mode_count (y ∷ components) zero x h = ap (λ (z : Component). length z.modes) (same_Some y x h)
mode_count (y ∷ components) (suc c) x h = mode_count components c x h

-- what holds below n, and at n, holds below the next number
pub below_next : (P : ℕ → Type 0) (n : ℕ) → ((k : ℕ) → k < n → P k) → P n → (k : ℕ) → k < n + 1 → P k
below_next P n each last k lt = elim (cases_lt k n) [
  | inl below ↦ each k below
  | inr above ↦ let e : n ≡ k = omega (arith, above, lt) in subst P e last
]

-- where a component may stand
module _ (p : ClassParts) (is : IsClasses p) (c row mode : ℕ) (at_row : slice_get p.rows c ≡ Some row) where
  pub stands_chain : (chain : ℕ) → slice_get p.chains c ≡ Some chain → has row mode ≡ false → (has chain mode ≡ true) ↔ Stands p.compiled.model p.base (in_row p.rows) c mode
  stands_chain chain at_chain outside =
      let within : c < length p.compiled.model.components = omega (arith, slice_get_within p.rows c row at_row, is.rows_full) in
      let chain_is : in_row p.chains c mode ≡ has chain mode = ap (λ r. has r mode) (get_or_from_slice_get p.chains c chain 0 at_chain) in
      let row_is : in_row p.rows c mode ≡ has row mode = ap (λ r. has r mode) (get_or_from_slice_get p.rows c row 0 at_row) in (
        (λ e. inr ((is.chains c mode within).0 (chain_is ∙ e))),
        (λ stands. elim stands [
          | inl inside ↦ absurd (both_ways (has row mode) outside (sym row_is ∙ inside))
          | inr on ↦ sym chain_is ∙ (is.chains c mode within).1 on
        ]),
      )
