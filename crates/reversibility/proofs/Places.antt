-- Where cells stand in tables.
use Rattle.std.proofs.Common.{◌≡◌, ◌+◌, ◌*◌, ℕ, List, [], length, slice_get, slice_index, slice_index_or, Some, sym, ap, subst, ◌∙◌}
use Rattle.std.proofs.lemmas.Option.{get_or_from_slice_get}
use Rattle.cca_base.specs.declared.model.Component.{Component}
use Rattle.cca_base.specs.PlantModel.{PlantModel}
use Rattle.cca_base.specs.Model.{mode_counts}
use Rattle.reach_laws.specs.declared.cell.Cell.{Cell}
use Rattle.reach_laws.specs.declared.cell.Cell.TheVariants as cell
use Rattle.reach_laws.specs.Cells.{cell_at}
use Rattle.reversibility.proofs.Standing.{mode_count}

pub place_of : (m : PlantModel) (components : List Component) (cells : List (List Cell)) (c from to modes : ℕ) (component : Component) (row : List Cell) (x : Cell)
    → components ≡ m.components → slice_get components c ≡ Some component → modes ≡ length component.modes → slice_get cells c ≡ Some row
    → slice_get row (from * modes + to) ≡ Some x → x ≡ cell_at m cells c from to
place_of m components cells c from to modes component row x same at_c count at_row at_x =
    let counted : modes ≡ slice_index (mode_counts m) c =
    count ∙ sym (mode_count m.components c component (subst (λ l. slice_get l c ≡ Some component) same at_c)) in
    sym (get_or_from_slice_get row (from * modes + to) x cell.Never at_x)
    ∙ ap (λ r. slice_index_or r (from * modes + to) cell.Never) (sym (get_or_from_slice_get cells c row [] at_row))
    ∙ ap (λ n. slice_index_or (slice_index_or cells c []) (from * n + to) cell.Never) counted
