use Rattle.std.proofs.Common.{◌≡◌, ◌<◌, ◌∙◌, ℕ, List, length, slice_index, sym, ap, subst}
use Rattle.cca_base.specs.PlantModel.{PlantModel}
use Rattle.cca_base.specs.Accepted.{CompiledModel}
use Rattle.cca_base.specs.Model.{WellFormed, mode_counts}
use Rattle.cca_base.specs.Relations.{AreExactly}
use Rattle.reversibility.specs.Levels.{AreOpenMoves, AreMovesWithin, IsAmong}
use Rattle.reversibility.specs.ClassParts.{ClassParts, in_row}
use Rattle.reversibility.proofs.OpenMoves.{within_modes}
use Rattle.policy_tables.specs.Leaving.{LeavesMode, AreLeaving, IsOpenAt, AreWaysTo}
use Rattle.policy_tables.proofs.Leavers.{leaving_from, leaving_open}
use Rattle.policy_tables.proofs.leaving.Leaving.find.Goals as goal

pub write_leaving-requires-clause-within : goal.write_leaving-requires-clause-within
write_leaving-requires-clause-within c =
    let p : ClassParts = c.args.classes.now in
    let n : ℕ = slice_index (mode_counts p.compiled.model) c.args.component in (
      n,
      subst (AreMovesWithin c.model.result.now n) (sym c.numbers.ensures.numbers)
          (subst (λ (z : PlantModel). AreMovesWithin z n c.args.paths.now.numbers) (sym (c.model.ensures.value ∙ ap (λ z. z.model) c.compiled-compiled.ensures.value))
          (within_modes p.compiled.model c.compiled-compiled.ensures.classes.compiled.accepted.well_formed (in_row p.rows) c.args.component c.args.paths.now.numbers c.requires.paths.open_moves)),
    )

-- what was found leaves the mode
leavers : (p : ClassParts) → WellFormed p.compiled.model → (c from : ℕ) (numbers list leaving : List ℕ) (model : PlantModel) → AreOpenMoves p.compiled.model (in_row p.rows) c numbers
    → model ≡ p.compiled.model → list ≡ numbers → AreExactly (λ i. IsAmong list (length list) i × LeavesMode model from i) leaving → AreLeaving p.compiled.model (in_row p.rows) c from leaving
leavers p w c from numbers list leaving model are same list_is some =
    leaving_from p.compiled.model w (in_row p.rows) c from numbers leaving are
    (subst (λ (z : PlantModel). AreExactly (λ i. IsAmong numbers (length numbers) i × LeavesMode z from i) leaving) same
    (subst (λ l. AreExactly (λ i. IsAmong l (length l) i × LeavesMode model from i) leaving) list_is some))

pub write_ways-requires-clause-opens : goal.write_ways-requires-clause-opens
write_ways-requires-clause-opens c =
    let p : ClassParts = c.args.classes.now in
    let w : WellFormed p.compiled.model = c.compiled-compiled.ensures.classes.compiled.accepted.well_formed in
    let numbers : List ℕ = c.write_leaving.new.leaving.items in
    let are = leavers p w c.args.component c.args.from c.args.paths.now.numbers c.numbers.result.now numbers c.model.result.now c.requires.paths.open_moves
    (c.model.ensures.value ∙ ap (λ z. z.model) c.compiled-compiled.ensures.value) c.numbers.ensures.numbers c.write_leaving.ensures.numbers in
    subst (λ l. (k : ℕ) → k < length l → IsOpenAt c.compiled-compiled.result.now.model (in_row c.rows.result.now) (slice_index l k)) (sym c.as_slice-numbers.ensures.items)
    (subst (λ rows. (k : ℕ) → k < length numbers → IsOpenAt c.compiled-compiled.result.now.model (in_row rows) (slice_index numbers k)) (sym c.rows.ensures.value)
    (subst (λ (b : CompiledModel). (k : ℕ) → k < length numbers → IsOpenAt b.model (in_row p.rows) (slice_index numbers k)) (sym c.compiled-compiled.ensures.value)
    (leaving_open p.compiled.model w (in_row p.rows) c.args.component c.args.from numbers are)))

pub returns-clause-leaving : goal.returns-clause-leaving
returns-clause-leaving c =
    let p : ClassParts = c.args.classes.now in
    let w : WellFormed p.compiled.model = c.compiled-compiled.ensures.classes.compiled.accepted.well_formed in
    let numbers : List ℕ = c.as_slice-numbers.result.now in
    let chosen : List ℕ = c.write_ways.new.chosen.items in
    record {
      numbers = leavers p w c.args.component c.args.from c.args.paths.now.numbers c.numbers.result.now c.write_leaving.new.leaving.items c.model.result.now c.requires.paths.open_moves
          (c.model.ensures.value ∙ ap (λ z. z.model) c.compiled-compiled.ensures.value) c.numbers.ensures.numbers c.write_leaving.ensures.numbers;
      ways = subst (λ l. AreWaysTo p.compiled c.args.ways.now (in_row p.rows) l chosen (length l)) c.as_slice-numbers.ensures.items
          (subst (λ rows. AreWaysTo p.compiled c.args.ways.now (in_row rows) numbers chosen (length numbers)) c.rows.ensures.value
          (subst (λ (b : CompiledModel). AreWaysTo b c.args.ways.now (in_row c.rows.result.now) numbers chosen (length numbers)) c.compiled-compiled.ensures.value c.write_ways.ensures.ways));
    }
