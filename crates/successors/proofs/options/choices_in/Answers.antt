use Rattle.std.proofs.Common.{◌≡◌, ◌<◌, [], ℕ, length, get_or, sym, subst, ap, ◌∙◌, arith}
use Rattle.std.proofs.lemmas.List.{get_or_default, get_or_read, length-map, length-set}
use Rattle.cca_base.specs.PlantModel.{PlantModel}
use Rattle.cca_base.specs.Model.{mode_counts}
use Rattle.successors.specs.Choices.{AreAllLeast, AreLeast, IsWritten, mode_after}
use Rattle.successors.proofs.Rows.{rows_none, rows_more, all_choices}
use Rattle.successors.proofs.options.choices_in.Goals as goal

pub fill-requires-clause-least : goal.fill-requires-clause-least
fill-requires-clause-least c =
    let s = c.args.state.now.modes in
    let i = c.loop-c.c in
    let table = c.loop-c.space.costs.items in
    let m = c.args.compiled.now.model in
    let fs = ap (λ (x : PlantModel). x.failures) (sym c.model-model.ensures.value) in
    let comps = c.components.ensures.value ∙ ap (λ (x : PlantModel). x.components) c.model-model.ensures.value in
    let inside : i < length table =
    omega (arith, c.loop-c-test.true, c.len-c-end.ensures, ap length comps, length-map table length, ap length c.loop-c.invariant.space.costs, length-map m.components (λ x. length x.modes)) in
    let full = c.requires.state.full in
    let mine : i < length s = omega (arith, full, c.loop-c-test.true, c.len-c-end.ensures, ap length comps) in
    let costs : c.index-costs.result.now ≡ get_or table i [] = get_or_read table i c.index-costs.result.now inside c.index-costs.ensures [] in
    let from : c.get-mode.result.now ≡ get_or s i 0 = c.get-mode.ensures.item ∙ get_or_default s i c.get-mode.result.now 0 mine in
    subst (λ x. AreLeast x i c.get-mode.result.now c.index-costs.result.now) fs
    (subst (AreLeast m.failures i c.get-mode.result.now) (sym costs)
    (subst (λ (z : ℕ). AreLeast m.failures i z (get_or table i [])) (sym from) (c.loop-c.invariant.least i inside)))

pub loop-c-init : goal.loop-c-init
loop-c-init c = record {
  rows = rows_none c.args.compiled.now.model c.args.state.now.modes c.nominal-moved.result c.args.space.now.rows.rows;
  least = subst (λ x. AreAllLeast x c.args.state.now.modes c.note_costs.new.table.items) (ap (λ (x : PlantModel). x.failures) c.model-model.ensures.value)
      (subst (λ s. AreAllLeast c.model-model.result.now.failures s c.note_costs.new.table.items) c.as_slice.ensures c.note_costs.ensures.least);
  space = record {
    full = c.requires.space.full;
    rooms = c.requires.space.rooms;
    costs = c.note_costs.ensures.sizes ∙ ap mode_counts c.model-model.ensures.value;
  };
}

pub loop-c-preserved : goal.loop-c-preserved
loop-c-preserved c =
    let m = c.args.compiled.now.model in
    let s = c.args.state.now.modes in
    let i = c.loop-c.c in
    let moved = c.nominal-moved.result in
    let old = c.loop-c.space.rows.rows in
    let new = c.fill.new.self.rows in
    let comps = c.components.ensures.value ∙ ap (λ (x : PlantModel). x.components) c.model-model.ensures.value in
    let full = c.requires.state.full in
    let inside : i < length s = omega (arith, full, c.loop-c-test.true, c.len-c-end.ensures, ap length comps) in
    let here : i < length old = omega (arith, c.loop-c.invariant.space.full, c.loop-c-test.true, c.len-c-end.ensures, ap length comps) in
    let mode : c.get-mode.result.now ≡ get_or s i 0 = c.get-mode.ensures.item ∙ get_or_default s i c.get-mode.result.now 0 inside in
    let after : c.nominal_mode-nominal.result ≡ mode_after moved i (get_or s i 0) = c.nominal_mode-nominal.ensures ∙ ap (mode_after moved i) mode in
    let written = subst (λ (x : PlantModel). IsWritten x i c.get-mode.result.now c.nominal_mode-nominal.result old new) c.model-model.ensures.value c.fill.ensures.written in
    let exact = subst (λ n. IsWritten m i (get_or s i 0) n old new) after
    (subst (λ n. IsWritten m i n c.nominal_mode-nominal.result old new) mode written) in
    record {
      rows = rows_more m s moved i old new here c.loop-c.invariant.rows exact;
      least = c.loop-c.invariant.least;
      space = record {
        full = ap length written.is ∙ length-set old i written.row ∙ c.loop-c.invariant.space.full;
        rooms = c.fill.ensures.rooms ∙ c.loop-c.invariant.space.rooms;
        costs = c.loop-c.invariant.space.costs;
      };
    }

pub returns-clause-choices : goal.returns-clause-choices
returns-clause-choices c =
    let m = c.args.compiled.now.model in
    let comps = c.components.ensures.value ∙ ap (λ (x : PlantModel). x.components) c.model-model.ensures.value in
    let fits = c.model-model.ensures.compiled.accepted.well_formed in
    let all : c.loop-c.c ≡ length m.components = omega (arith, c.loop-c.auto.c-end, c.loop-c-test.false, c.len-c-end.ensures, ap length comps) in
    all_choices m c.args.state.now.modes c.args.command c.nominal-moved.result c.loop-c.c c.loop-c.space.rows.rows fits c.requires.state c.nominal-moved.ensures.some c.nominal-moved.ensures.none
    all (c.loop-c.invariant.space.full ∙ sym all) c.loop-c.invariant.rows
