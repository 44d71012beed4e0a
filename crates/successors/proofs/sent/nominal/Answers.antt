use Rattle.std.proofs.Common.{◌≡◌, ℕ, List, Some, length, slice_get, refl, sym, ap, subst, ◌∙◌, arith}
use Rattle.std.proofs.lemmas.Bool.{both_ways}
use Rattle.std.proofs.lemmas.List.Elements.{All-contains}
use Rattle.std.proofs.lemmas.Option.{same_Some, slice_get_within}
use Rattle.list_laws.proofs.Members.{at_member}
use Rattle.cca_base.specs.declared.cube.Pair.{Pair}
use Rattle.cca_base.specs.declared.model.Move.{Move}
use Rattle.cca_base.specs.PlantModel.{PlantModel}
use Rattle.cca_base.specs.Model.{IsMove, HasMode}
use Rattle.cca_base.specs.MoveIndex.{IsMoveNamed}
use Rattle.cca_base.specs.Successors.{IsCommanded}
use Rattle.successors.specs.Nominal.{NoneSent}
use Rattle.successors.proofs.Sending.{commanded_at, named_by, none_commanded, unnamed}
use Rattle.successors.proofs.sent.nominal.Goals as goal

-- what is read is the move that the command names
step : (c : goal.After-get-step) (n : IsMoveNamed c.args.compiled.now.model.moves c.args.state.now.modes c.in_ok-command.field-0 c.in_ok-number.number) → n.0 ≡ c.get-step.result.now
step c n =
    let moves = c.moves.ensures.value ∙ ap (λ (x : PlantModel). x.moves) c.model-model.ensures.value in
    same_Some n.0 c.get-step.result.now (sym n.1 ∙ subst (λ (l : List Move). slice_get l c.in_ok-number.number ≡ Some c.get-step.result.now) moves c.get-step.ensures.value)

pub returns-in_err-number-clause-none : goal.returns-in_err-number-clause-none
returns-in_err-number-clause-none c e =
    let m = c.args.compiled.now.model in
    let s = c.args.state.now.modes in
    let k = c.in_ok-command.field-0 in
    subst (NoneSent m s) (sym c.in_ok-command.was)
    (unnamed m s k (subst (λ (x : PlantModel). (i : ℕ) → IsMoveNamed x.moves s k i → ⊥) c.model-model.ensures.value (c.in_err-number.ensures.none refl)))

pub get-ways-requires : goal.get-ways-requires
get-ways-requires c =
    let n = named_by c.args.compiled.now.model c.model-model.result.now c.args.state.now.modes c.in_ok-command.field-0 c.in_ok-number.number c.model-model.ensures.value c.in_ok-number.ensures.some in
    omega (arith, slice_get_within c.args.compiled.now.model.moves c.in_ok-number.number n.0 n.1, c.model-model.ensures.compiled.ways_full, ap length c.ways.ensures.value)

pub returns-then-not-some_stands-clause-none : goal.returns-then-not-some_stands-clause-none
returns-then-not-some_stands-clause-none c e =
    let n = named_by c.args.compiled.now.model c.model-model.result.now c.args.state.now.modes c.in_ok-command.field-0 c.in_ok-number.number c.model-model.ensures.value c.in_ok-number.ensures.some in
    let of_ways = subst (λ (l : List (List (List Pair))). slice_get l c.in_ok-number.number ≡ Some c.get-ways.result.now) c.ways.ensures.value c.get-ways.ensures.value in
    let stands = rw (c.as_slice.ensures, c.as_slice-2.ensures) at c.some_stands.ensures in
    subst (NoneSent c.args.compiled.now.model c.args.state.now.modes) (sym c.in_ok-command.was)
    (none_commanded c.args.compiled.now c.model-model.ensures.compiled c.args.state.now.modes c.requires c.in_ok-command.field-0 c.in_ok-number.number n c.get-ways.result.now of_ways
    (λ some. both_ways c.some_stands.result c.if-not-some_stands.true (stands.1 some)))

pub get-step-requires : goal.get-step-requires
get-step-requires c =
    let n = named_by c.args.compiled.now.model c.model-model.result.now c.args.state.now.modes c.in_ok-command.field-0 c.in_ok-number.number c.model-model.ensures.value c.in_ok-number.ensures.some in
    let moves = c.moves.ensures.value ∙ ap (λ (x : PlantModel). x.moves) c.model-model.ensures.value in
    omega (arith, slice_get_within c.args.compiled.now.model.moves c.in_ok-number.number n.0 n.1, ap length moves)

pub returns-clause-some : goal.returns-clause-some
returns-clause-some c =
    let n = named_by c.args.compiled.now.model c.model-model.result.now c.args.state.now.modes c.in_ok-command.field-0 c.in_ok-number.number c.model-model.ensures.value c.in_ok-number.ensures.some in
    let of_ways = subst (λ (l : List (List (List Pair))). slice_get l c.in_ok-number.number ≡ Some c.get-ways.result.now) c.ways.ensures.value c.get-ways.ensures.value in
    let stands = rw (c.as_slice.ensures, c.as_slice-2.ensures) at c.some_stands.ensures in
    record {
      move = n.0;
      commanded = subst (λ o. IsCommanded c.args.compiled.now.model c.args.state.now.modes o n.0) (sym c.in_ok-command.was)
          (commanded_at c.args.compiled.now c.model-model.ensures.compiled c.args.state.now.modes c.requires c.in_ok-command.field-0 c.in_ok-number.number n c.get-ways.result.now of_ways (stands.0 c.if-not-some_stands.false));
      is_target = ap (λ (x : Move). record { item = x.component; value = x.target }) (sym (step c n));
    }

pub returns-clause-mode : goal.returns-clause-mode
returns-clause-mode c =
    let m = c.args.compiled.now.model in
    let n = named_by c.args.compiled.now.model c.model-model.result.now c.args.state.now.modes c.in_ok-command.field-0 c.in_ok-number.number c.model-model.ensures.value c.in_ok-number.ensures.some in
    subst (λ (x : Move). HasMode m x.component x.target) (step c n)
    (All-contains (IsMove m) m.moves n.0 c.model-model.ensures.compiled.accepted.well_formed.moves (at_member m.moves c.in_ok-number.number n.0 n.1)).target
