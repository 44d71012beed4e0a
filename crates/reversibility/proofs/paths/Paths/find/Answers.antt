use Rattle.std.proofs.Common.{◌≡◌, ◌∙◌, ℕ, List, length, slice_get, slice_index, Some, sym, ap, subst, arith}
use Rattle.cca_base.specs.PlantModel.{PlantModel}
use Rattle.cca_base.specs.Model.{WellFormed, mode_counts}
use Rattle.reach_laws.specs.Classes.{Test}
use Rattle.reversibility.specs.Levels.{AreMovesWithin, MoveLeads, AreLevels, AreEnough}
use Rattle.reversibility.specs.ClassParts.{in_row}
use Rattle.reversibility.proofs.OpenMoves.{within_modes}
use Rattle.reversibility.proofs.Shortest.{levels_of}
use Rattle.reversibility.proofs.Standing.{mode_count}
use Rattle.reversibility.proofs.paths.Paths.find.Goals as goal

pub write_levels-requires-clause-within : goal.write_levels-requires-clause-within
write_levels-requires-clause-within c =
    let m : PlantModel = c.args.compiled.now.model in
    let numbers : List ℕ = c.write_open_moves.new.numbers.items in
    let components_are = c.components.ensures.value ∙ ap (λ z. z.components) c.model-model.ensures.value in
    let counted : c.len-modes.result ≡ slice_index (mode_counts m) c.args.component = c.len-modes.ensures
    ∙ sym (mode_count m.components c.args.component c.get.result.now (subst (λ l. slice_get l c.args.component ≡ Some c.get.result.now) components_are c.get.ensures.value)) in
    subst (λ n. AreMovesWithin c.model-model.result.now n c.as_slice.result.now) (sym counted)
    (subst (λ l. AreMovesWithin c.model-model.result.now (slice_index (mode_counts m) c.args.component) l) (sym c.as_slice.ensures.items)
    (subst (λ (z : PlantModel). AreMovesWithin z (slice_index (mode_counts m) c.args.component) numbers) (sym c.model-model.ensures.value)
    (within_modes m c.model-model.ensures.compiled.accepted.well_formed (in_row c.args.rows.now) c.args.component numbers c.write_open_moves.ensures.numbers)))

pub returns : goal.returns
returns c =
    let m : PlantModel = c.args.compiled.now.model in
    let well : WellFormed m = c.model-model.ensures.compiled.accepted.well_formed in
    let member : Test = in_row c.args.rows.now in
    let components_are = c.components.ensures.value ∙ ap (λ z. z.components) c.model-model.ensures.value in
    let counted : c.len-modes.result ≡ slice_index (mode_counts m) c.args.component = c.len-modes.ensures
    ∙ sym (mode_count m.components c.args.component c.get.result.now (subst (λ l. slice_get l c.args.component ≡ Some c.get.result.now) components_are c.get.ensures.value)) in
    let numbers : List ℕ = c.write_open_moves.new.numbers.items in
    let levels : List (List ℕ) = c.write_levels.new.levels.rows in
    let leveled : AreLevels (MoveLeads m numbers (length numbers)) (slice_index (mode_counts m) c.args.component) levels =
    subst (λ n. AreLevels (MoveLeads m numbers (length numbers)) n levels) counted
    (subst (λ l. AreLevels (MoveLeads m l (length l)) c.len-modes.result levels) c.as_slice.ensures.items
    (subst (λ (z : PlantModel). AreLevels (MoveLeads z c.as_slice.result.now (length c.as_slice.result.now)) c.len-modes.result levels) c.model-model.ensures.value c.write_levels.ensures.levels)) in
    let enough : AreEnough (MoveLeads m numbers (length numbers)) (slice_index (mode_counts m) c.args.component) levels =
    subst (λ n. AreEnough (MoveLeads m numbers (length numbers)) n levels) counted
    (subst (λ l. AreEnough (MoveLeads m l (length l)) c.len-modes.result levels) c.as_slice.ensures.items
    (subst (λ (z : PlantModel). AreEnough (MoveLeads z c.as_slice.result.now (length c.as_slice.result.now)) c.len-modes.result levels) c.model-model.ensures.value c.write_levels.ensures.enough)) in
    record {
      open_moves = c.write_open_moves.ensures.numbers;
      levels = levels_of m well member c.args.component numbers c.write_open_moves.ensures.numbers levels leveled c.write_levels.ensures.some enough (omega (arith, counted, c.write_levels.ensures.short));
    }
