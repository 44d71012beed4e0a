-- The command of a move is no greater than the move's place, so a model has no more commands than moves where each is used.
use Rattle.std.proofs.Common.{◌≡◌, ◌==◌, ◌<◌, ◌≤◌, ◌^◌, ℕ, zero, suc, Some, slice_get, length, inl, inr, ap, ◌∙◌, arith}
use Rattle.std.proofs.lemmas.Bool.{cases_lt, eqb-true}
use Rattle.std.proofs.lemmas.List.Folds.{Any-from_list_any}
use Rattle.std.proofs.lemmas.Option.{slice_get-get_or}
use Rattle.cca_base.specs.declared.model.Move.{Move}
use Rattle.cca_base.specs.Accepted.{CompiledModel, IsCompiled}
use Rattle.cca_base.specs.Model.{AreInOrderOfFirstUse, IsComplete}
use Rattle.cca_base.specs.PlantModel.{PlantModel}

module _ (m : PlantModel) (first_use : AreInOrderOfFirstUse m.moves) where
  -- the command of a move is no greater than the move's place, by a bound of that
  pub by_place : (bound i : ℕ) (x : Move) → i < bound → slice_get m.moves i ≡ Some x → x.command ≤ i
  by_place zero i x lt e = absurd (omega (arith, lt))
  by_place (suc bound) i x lt e = elim (cases_lt i x.command) [
    | inl later ↦
        let (j, earlier, before, at, same) = first_use i i x e later in
        let less = by_place bound j earlier (omega (arith, before, lt)) at in
        absurd (omega (arith, less, before, same))
    | inr here ↦ here
  ]

  -- a command that is used has a place
  below : IsComplete m → (k : ℕ) → k < length m.commands → k < length m.moves
  below complete k lt =
      let found = Any-from_list_any (λ (x : Move). x.command == k) m.moves (complete k lt) in
      let at : slice_get m.moves found.0 ≡ Some found.1 = slice_get-get_or m.moves found.0 found.1 found.2 ∙ ap (λ (x : Move). Some x) found.3 in
      let same = eqb-true found.1.command k found.4 in
      omega (arith, by_place (suc found.0) found.0 found.1 (omega arith) at, found.2, same)

  few_by : IsComplete m → length m.commands ≤ length m.moves
  few_by complete = elim (cases_lt (length m.moves) (length m.commands)) [
    | inl more ↦ absurd (omega (arith, below complete (length m.moves) more))
    | inr few ↦ few
  ]

-- so an accepted model has few
pub few_commands : (b : CompiledModel) → IsCompiled b → length b.model.commands ≤ 2 ^ 16
few_commands b h =
    let well = h.accepted.well_formed in
    omega (arith, few_by b.model well.first_use h.accepted.complete, well.limits.moves)
