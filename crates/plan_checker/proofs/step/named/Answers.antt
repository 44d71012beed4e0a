use Rattle.std.proofs.Common.{List, Some, ◌≡◌, ◌<◌, ◌∙◌, length, slice_get, refl, sym, ap, subst}
use Rattle.std.proofs.lemmas.Option.{same_Some, slice_get_within, slice_get-get_or, get_or_from_slice_get}
use Rattle.cca_base.specs.declared.model.Move.{Move}
use Rattle.plan_checker.specs.Steps.{IsNamed}
use Rattle.plan_checker.proofs.step.named.Goals as goal

pub returns-in_err-number-clause-none : goal.returns-in_err-number-clause-none
returns-in_err-number-clause-none c e move named =
    let among = named.of_model in
    c.in_err-number.ensures.none refl among.0 (move, slice_get-get_or c.args.model.now.moves among.0 move among.1 ∙ ap Some among.2, named.command, named.source)

pub get-requires : goal.get-requires
get-requires c =
    let names = c.in_ok-number.ensures.some in
    subst (λ (xs : List Move). c.in_ok-number.number < length xs) (sym c.moves-moves.ensures.value) (slice_get_within c.args.model.now.moves c.in_ok-number.number names.0 names.1)

pub returns-clause-some : goal.returns-clause-some
returns-clause-some c =
    let m = c.args.model.now in
    let number = c.in_ok-number.number in
    let x = c.get.result.now in
    let names = c.in_ok-number.ensures.some in
    let at : slice_get m.moves number ≡ Some x = ap (λ (xs : List Move). slice_get xs number) (sym c.moves-moves.ensures.value) ∙ c.get.ensures.value in
    subst (IsNamed m c.args.state.now.modes c.args.command) (same_Some names.0 x (sym names.1 ∙ at))
    (record { of_model = (number, slice_get_within m.moves number names.0 names.1, get_or_from_slice_get m.moves number names.0 names.0 names.1); command = names.2; source = names.3 })
