-- A state holds a wish where an implicant stands in it.
use Rattle.std.proofs.Common.{◌≡◌, ◌<◌, ℕ, List, length, slice_get, Some, sym, subst, ◌∙◌, arith}
use Rattle.std.proofs.lemmas.Option.{slice_get_within, get_or_from_slice_get}
use Rattle.list_laws.proofs.Members.{all_from}
use Rattle.cca_base.specs.declared.cube.Pair.{Pair}
use Rattle.cca_base.specs.declared.formula.Formula.{Formula}
use Rattle.cca_base.specs.PlantModel.{PlantModel}
use Rattle.cca_base.specs.Model.{HasMode}
use Rattle.cca_base.specs.Repairs.{pairs_of}
use Rattle.cca_base.specs.State.{IsState, Extends, Holds}
use Rattle.cca_base.proofs.Members.{stands_in}
use Rattle.cca_base.proofs.StateLaws.{same_state}
use Rattle.cca_laws.proofs.Minimal.{pairs_rise}
use Rattle.guard_compiler.specs.Wishes.{IsImplicant}
use Rattle.guard_compiler.proofs.WishParts.{minimal_part}

module _ (m : PlantModel) (f : Formula) where
  pub holds_by_implicant : (t : List ℕ) → IsState m t → (Holds m t f → (cube : List Pair) × IsImplicant m f cube × Extends t cube) × ((cube : List Pair) × IsImplicant m f cube × Extends t cube → Holds m t f)
  holds_by_implicant t state = (
    (λ holds.
        let whole = pairs_of t in
        let found = minimal_part m f whole (record {
          rises = pairs_rise 0 t;
          modes = λ p among. (let at = stands_in t p among in
              let inside : p.item < length t = slice_get_within t p.item p.value at in
              subst (HasMode m p.item) (get_or_from_slice_get t p.item p.value 0 at) (state.modes p.item (omega (arith, inside, state.full))));
          follows = λ u is_u extends. subst (λ l. Holds m l f) (sym (same_state t u (is_u.full ∙ sym state.full) extends)) holds;
        }) in
        (found.0, found.1, all_from (λ p. slice_get t p.item ≡ Some p.value) found.0 (λ p among. stands_in t p (found.2 p among)))),
    (λ cube. cube.1.follows t state cube.2),
  )
