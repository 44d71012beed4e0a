use Rattle.std.proofs.Common.{ℕ, List, subst}
use Rattle.cca_base.specs.PlantModel.{PlantModel}
use Rattle.cca_base.specs.Successors.{Nominal}
use Rattle.mode_estimator.specs.First.{found_in}
use Rattle.mode_estimator.proofs.ChosenState.{choice_rows, estimated}
use Rattle.mode_estimator.proofs.NominalFirst.{nominal_estimate}
use Rattle.mode_estimator.proofs.least.estimate_in.Goals as goal

pub returns-then-agrees-clause-estimate : goal.returns-then-agrees-clause-estimate
returns-then-agrees-clause-estimate c =
    let agrees = rw c.model-model.ensures.value at c.agrees.ensures.agrees in
    let moved = subst (λ (s : List ℕ). Nominal c.args.compiled.now.model s c.args.command c.obey.new.plant.modes) c.copy_modes.ensures c.obey.ensures.moves in
    nominal_estimate c.args.compiled.now.model c.args.state.now.modes c.obey.new.plant.modes c.args.command c.args.seen.now c.model-model.ensures.compiled.accepted.well_formed c.requires.state
    moved (agrees.0 c.if-agrees.true)

pub first_shown-requires-clause-rows : goal.first_shown-requires-clause-rows
first_shown-requires-clause-rows c =
    rw c.model-model.ensures.value
    (choice_rows c.args.compiled.now.model c.args.state.now.modes c.args.command c.choices_in.new.space.rows.rows c.choices_in.ensures.choices c.model-model.ensures.compiled.accepted.well_formed)

pub returns-clause-estimate : goal.returns-clause-estimate
returns-clause-estimate c =
    let m : PlantModel = c.args.compiled.now.model in
    let fit = c.model-model.ensures.compiled.accepted.well_formed.commands in
    let found = rw c.model-model.ensures.value at c.first_shown.ensures.first in
    estimated m c.args.state.now.modes c.args.command c.choices_in.new.space.rows.rows c.choices_in.ensures.choices fit c.args.seen.now (found_in c.first_shown.result c.first_shown.new.space.found) found
