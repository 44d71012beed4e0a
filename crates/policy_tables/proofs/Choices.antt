-- A right cell is the fixed choice at each covered state.
use Rattle.std.proofs.Common.{◌≡◌, ℕ, slice_index, Some, sym, ap, subst, ◌∙◌}
use Rattle.std.proofs.lemmas.Bool.{both_ways}
use Rattle.std.proofs.lemmas.Option.{same_Some}
use Rattle.list_laws.proofs.Places.{value_at}
use Rattle.cca_base.specs.Model.{HasMode}
use Rattle.cca_base.proofs.Within.{mode_within}
use Rattle.reach_laws.specs.declared.cell.Cell.{Cell}
use Rattle.reach_laws.specs.declared.cell.Cell.TheVariants as cell
use Rattle.reach_laws.specs.Cells.{IsCell, IsStep}
use Rattle.reach_laws.proofs.Cells.{chosen_exactly}
use Rattle.reach_laws.proofs.Sound.{class_is_reach}
use Rattle.reversibility.specs.ClassParts.{ClassParts, IsClasses, in_row}
use Rattle.reversibility.proofs.Promised.{setting}
use Rattle.policy_tables.specs.Tables.{IsChoiceFrom}

pub choice_from : (p : ClassParts) → IsClasses p → (c from to : ℕ) → HasMode p.compiled.model c from → (x : Cell) → IsCell p.compiled (in_row p.rows) c from to x → IsChoiceFrom p c from to x
choice_from p is c from to has_from cell.Stay same s covered stands sound reach = stands ∙ ap (λ k. Some k) same
choice_from p is c from to has_from (cell.Step number command cube left) (other, inside, step) s covered stands sound reach =
    let here : slice_index s c ≡ from = value_at s c from stands in
    let at_s : IsStep p.compiled (in_row p.rows) c (slice_index s c) to number command cube left =
    subst (λ z. IsStep p.compiled (in_row p.rows) c z to number command cube left) (sym here) step in
    let chosen = chosen_exactly p.compiled p.base (in_row p.rows) s (setting p is s covered) c to number command cube left (mode_within p.compiled.model c from has_from) at_s in
    (λ e. other (same_Some from to (sym stands ∙ e)), (at_s.move, at_s.plain, chosen.0, chosen.1, at_s.commands, at_s.sorted, chosen.2))
choice_from p is c from to has_from cell.Never (other, outside) s covered stands sound reach =
    both_ways (in_row p.rows c to) outside ((class_is_reach p.compiled.model p.compiled.order p.base (in_row p.rows) s (setting p is s covered) c to).1 (sound, reach))
