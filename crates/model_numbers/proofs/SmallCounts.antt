-- An accepted model has few names of each kind, and no mode with the number of none.
use Rattle.std.proofs.Common.{◌≡◌, ◌≤◌, ◌<◌, ◌^◌, ℕ, List, length, slice_get, Some, ap, ◌∙◌, arith}
use Rattle.std.specs.Option.{option_map}
use Rattle.std.proofs.lemmas.List.{length-map}
use Rattle.std.proofs.lemmas.List.Elements.{All-weaker}
use Rattle.std.proofs.lemmas.Option.{slice_get-map}
use Rattle.list_laws.proofs.Places.{all_at, place_inside, some_at, value_at}
use Rattle.cca_base.specs.declared.model.Component.{Component}
use Rattle.cca_base.specs.declared.model.Variable.{Variable}
use Rattle.cca_base.specs.Accepted.{CompiledModel, IsCompiled}
use Rattle.cca_base.specs.Model.{AreChoices, IsComponent, mode_counts}
use Rattle.cca_base.proofs.CommandPlaces.{few_commands}
use Rattle.model_numbers.specs.declared.modes.TheConstants.{NO_MODE}
use Rattle.model_numbers.specs.NumberLaws.{CountsAreSmall, NoModeIsNone}
use Rattle.model_numbers.proofs.EachKind.{HoldsOfLists, each_kind}

abbrev IsSmall : List (List ℕ) → Type 0
IsSmall names = length names ≤ 2 ^ 16

few_choices : (choices : List (List ℕ)) → AreChoices choices → IsSmall choices
few_choices choices are = omega (arith, are.few)

lists_are_small : (b : CompiledModel) → IsCompiled b → HoldsOfLists IsSmall b.model
lists_are_small b h =
    let well = h.accepted.well_formed in
    record {
      components = omega (arith, length-map b.model.components (λ (c : Component). c.name), well.limits.components);
      modes = All-weaker IsComponent (λ c. IsSmall c.modes) (λ c is. few_choices c.modes is.modes) b.model.components well.components;
      variables = omega (arith, length-map b.model.variables (λ (v : Variable). v.name), well.limits.variables);
      values = All-weaker (λ (v : Variable). AreChoices v.values) (λ v. IsSmall v.values) (λ v are. few_choices v.values are) b.model.variables well.variables;
      commands = few_commands b h;
    }

pub counts_are_small : CountsAreSmall
counts_are_small b h = each_kind IsSmall b.model (lists_are_small b h)

pub no_mode_is_none : NoModeIsNone
no_mode_is_none m h c has =
    let inside : c < length m.components = omega (arith, place_inside (mode_counts m) c NO_MODE has, length-map m.components (λ (x : Component). length x.modes)) in
    let x = some_at m.components c inside in
    let count : slice_get (mode_counts m) c ≡ Some (length x.0.modes) = slice_get-map (λ (y : Component). length y.modes) m.components c ∙ ap (λ o. option_map (λ (y : Component). length y.modes) o) x.1 in
    omega (arith, has, value_at (mode_counts m) c (length x.0.modes) count, (all_at IsComponent m.components c x.0 h.components x.1).modes.few)
