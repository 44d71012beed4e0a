-- What the cell of a wanted pair leads to.
use Rattle.std.proofs.Common.{◌≡◌, ◌<◌, ℕ, List, length, slice_get, slice_index, Some, All, refl, sym, ap, ◌∙◌, inl, inr}
use Rattle.list_laws.proofs.Places.{value_at}
use Rattle.list_laws.proofs.Members.{all_from}
use Rattle.cca_base.specs.declared.cube.Pair.{Pair}
use Rattle.cca_base.specs.Accepted.{CompiledModel}
use Rattle.cca_base.specs.Orders.{IsFirstMissing}
use Rattle.cca_base.specs.State.{Extends}
use Rattle.reach_laws.specs.declared.cell.Cell.{Cell}
use Rattle.reach_laws.specs.declared.cell.Cell.TheVariants as cell
use Rattle.reach_laws.specs.Cells.{cell_at, IsStep, IsCell, Finds}
use Rattle.reach_laws.proofs.Order.{IsOrder, order_from}
use Rattle.reach_laws.proofs.Cells.{cell_step, step_inside, step_needs, missing_among}
use Rattle.reversibility.specs.ClassParts.{CoversState}
use Rattle.policy_tables.specs.Tables.{TableParts, IsTables}
use Rattle.planner_step.specs.Planning.{cells_of, member_of}
use Rattle.planner_step.specs.Toward.{IsWantedPair, GoesOn}
use Rattle.planner_step.proofs.Covered.{inside_within, inside_place}
use Rattle.reach_laws.proofs.Later.{later, later_less}

module _ (t : TableParts) (is : IsTables t) (s : List ℕ) (cov : CoversState t.classes s) where
  abbrev b : CompiledModel
  b = t.classes.compiled

  -- the cell of a wanted pair
  module _ (p : Pair) (wanted : IsWantedPair t s p) (mode : ℕ) (at : slice_get s p.item ≡ Some mode) where
    module _ (x : Cell) (place : x ≡ cell_at b.model t.cells p.item mode p.value) (right : IsCell b (member_of t) p.item mode p.value x)
        (number command : ℕ) (cube : List Pair) (left : ℕ) (is_step : x ≡ cell.Step number command cube left) where
      the_step : IsStep b (member_of t) p.item mode p.value number command cube left
      the_step = (cell_step b (member_of t) p.item mode p.value x number command cube left right is_step).2

      cell_is : cells_of t p.item (slice_index s p.item) p.value ≡ cell.Step number command cube left
      cell_is = ap (λ m. cells_of t p.item m p.value) (value_at s p.item mode at) ∙ (sym place ∙ is_step)

      pub cube_within : All (λ q. q.item < length s) cube
      cube_within = all_from (λ q. q.item < length s) cube (λ q among.
          inside_place t is s cov q.item q.value (step_inside b (member_of t) p.item mode p.value number command cube left the_step q among))

      pub finds_now : Extends s cube → Finds (cells_of t) s p.item p.value command 1
      finds_now held = (number, command, cube, left, cell_is, inl (held, refl, refl))

      pub goes_on : (q : Pair) → IsFirstMissing s cube q → GoesOn t s p q
      goes_on q first = record {
        finds = λ k n found. (number, command, cube, left, cell_is, inr (q, first, found));
        needs = step_needs b (member_of t) p.item mode p.value number command cube left the_step q (missing_among s cube q first);
        wanted = record {
          inside = step_inside b (member_of t) p.item mode p.value number command cube left the_step q (missing_among s cube q first);
          missing = first.missing;
        };
      }

  -- what is needed stands later
  pub nearer_end : (p q : Pair) → IsWantedPair t s p → GoesOn t s p q → later b.order q.item < later b.order p.item
  nearer_end p q wanted on =
      let ordered : IsOrder b.model b.order = order_from b.model b.order is.classes.compiled.order in
      later_less b.model b.order ordered.effects_first p.item q.item (ordered.all_there p.item (inside_within t is s cov p.item p.value wanted.inside)) on.needs
