use Rattle.std.proofs.Common.{List, Some, Contains, ◌≡◌, ◌<◌, ◌∙◌, length, slice_get, refl, sym, ap, subst}
use Rattle.std.proofs.lemmas.Option.{same_Some, slice_get_within, slice_get-get_or, get_or_from_slice_get}
use Rattle.cca_base.specs.declared.model.Move.{Move}
use Rattle.cca_base.specs.Steps.{Step}
use Rattle.cca_base.proofs.StepMoves.{the_move}
use Rattle.plan_runner.proofs.step.target_of.Goals as goal

pub get-x-requires : goal.get-x-requires
get-x-requires c =
    let names = c.in-Some.ensures.some in
    subst (λ (xs : List Move). c.in-Some.number < length xs) (sym c.moves-moves.ensures.value) (slice_get_within c.args.model.now.moves c.in-Some.number names.0 names.1)

pub unreachable-requires : goal.unreachable-requires
unreachable-requires c =
    let m = c.args.model.now in
    let step : Step m c.args.state.now.modes c.args.command c.requires.step.0 = c.requires.step.1 in
    let among : Contains m.moves step.move = step.of_model in
    c.in_default.ensures.none refl among.0 (step.move, slice_get-get_or m.moves among.0 step.move among.1 ∙ ap Some among.2, step.command, step.source)

pub returns : goal.returns
returns c =
    let m = c.args.model.now in
    let number = c.in-Some.number in
    let x = c.get-x.result.now in
    let names = c.in-Some.ensures.some in
    let step : Step m c.args.state.now.modes c.args.command c.requires.step.0 = c.requires.step.1 in
    let at : slice_get m.moves number ≡ Some x = ap (λ (xs : List Move). slice_get xs number) (sym c.moves-moves.ensures.value) ∙ c.get-x.ensures.value in
    let own : names.0 ≡ step.move = the_move m c.moves-moves.ensures.well_formed c.args.state.now.modes c.args.command c.requires.step.0 step names.0
    (number, slice_get_within m.moves number names.0 names.1, get_or_from_slice_get m.moves number names.0 names.0 names.1) names.2 names.3 in
    let same : x ≡ step.move = same_Some x names.0 (sym at ∙ names.1) ∙ own in
    (c.requires.step.0, step, λ i. record { item = (same i).component; value = (same i).target })
