-- The code that is read for two modes, and the cell for which it stands.
use Rattle.std.proofs.Common.{◌≡◌, ◌<◌, ◌+◌, ◌*◌, ℕ, List, [], length, map, slice_get, slice_index, slice_index_or, Some, sym, ap, subst, ◌∙◌}
use Rattle.std.proofs.Math.ListN.{get_or-map}
use Rattle.std.proofs.lemmas.List.{get_or_default}
use Rattle.std.proofs.lemmas.Nat.{mul-add-lt}
use Rattle.std.proofs.lemmas.Option.{get_or_from_slice_get}
use Rattle.cca_base.specs.declared.cube.Pair.{Pair}
use Rattle.cca_base.specs.Model.{HasMode, mode_counts}
use Rattle.cca_base.proofs.Within.{mode_within}
use Rattle.reach_laws.specs.declared.cell.Cell.TheVariants as cell
use Rattle.reach_laws.specs.Cells.{cell_at}
use Rattle.reversibility.specs.ClassParts.{ClassParts}
use Rattle.policy_tables.specs.Codes.{IsCode, cell_of}
use Rattle.policy_tables.specs.declared.code.Code.{Code}
use Rattle.policy_tables.specs.declared.code.Code.TheVariants as code
use Rattle.policy_tables.specs.Filling.{AreFilledTo}

module _ (p : ClassParts) (ways : List (List (List Pair))) (tables : List (List Code)) (filled : AreFilledTo p ways tables (length p.compiled.model.components)) (c from to : ℕ)
    (has_from : HasMode p.compiled.model c from) (codes : List Code) (modes : ℕ) (x : Code) (at_c : codes ≡ slice_index_or tables c codes) (counted : modes ≡ slice_index (mode_counts p.compiled.model) c)
    (at : slice_get codes (from * modes + to) ≡ Some x) where
  -- it is the one that the tables have there
  code_there : slice_index_or (slice_index_or tables c []) (from * slice_index (mode_counts p.compiled.model) c + to) code.Never ≡ x
  code_there =
      let within : c < length tables = subst (λ n. c < n) (sym filled.full) (mode_within p.compiled.model c from has_from) in
      let same : slice_index_or tables c [] ≡ codes = get_or_default tables c [] codes within ∙ sym at_c in
      ap (λ l. slice_index_or l (from * slice_index (mode_counts p.compiled.model) c + to) code.Never) same
      ∙ ap (λ n. slice_index_or codes (from * n + to) code.Never) (sym counted) ∙ get_or_from_slice_get codes (from * modes + to) x code.Never at

  -- its prime implicant is there
  pub code_is : HasMode p.compiled.model c to → IsCode ways x
  code_is has_to =
      let count : ℕ = slice_index (mode_counts p.compiled.model) c in
      subst (IsCode ways) code_there ((filled.each c (mode_within p.compiled.model c from has_from)).each from to has_to (mul-add-lt from count to count has_from has_to)).1

  -- it stands for the cell that a contract sees there
  pub code_at : cell_of ways x ≡ cell_at p.compiled.model (map (map (cell_of ways)) tables) c from to
  code_at =
      let place : ℕ = from * slice_index (mode_counts p.compiled.model) c + to in
      ap (cell_of ways) (sym code_there) ∙ sym (get_or-map (cell_of ways) (slice_index_or tables c []) place code.Never)
      ∙ sym (ap (λ l. slice_index_or l place cell.Never) (get_or-map (map (cell_of ways)) tables c []))
