-- The states of models with neither variables nor rules have the empty world.
use Rattle.std.proofs.Common.{◌≡◌, [], All, length, sym, subst, arith}
use Rattle.std.proofs.lemmas.List.{nil_from_length}
use Rattle.std.proofs.lemmas.List.Elements.{All-nil}
use Rattle.std.specs.Prelude.{IsTrue}
use Rattle.cca_base.specs.Formula.{truth}
use Rattle.cca_base.specs.PlantModel.{PlantModel}
use Rattle.cca_base.specs.State.{HasWorlds}

pub worlds_without_rules : (m : PlantModel) → length m.variables ≡ 0 → length m.rules ≡ 0 → HasWorlds m
worlds_without_rules m no_variables no_rules s state = (
  [],
  record {
    full = sym no_variables;
    values = λ v within. absurd (omega (arith, within, no_variables));
    rules = subst (All (λ rule. IsTrue (truth s [] rule))) (sym (nil_from_length m.rules no_rules)) (All-nil (λ rule. IsTrue (truth s [] rule)));
  },
)
