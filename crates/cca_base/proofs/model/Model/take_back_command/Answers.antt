use Rattle.std.proofs.Common.{List, ℕ, sym, subst, ◌<◌, ◌≡◌, ◌-◌, length, false}
use Rattle.cca_base.specs.PlantModel.{PlantModel}
use Rattle.cca_base.specs.Model.{WellFormed, is_used}
use Rattle.cca_base.specs.MoveIndex.{IsIndex}
use Rattle.cca_base.proofs.MoveIndexLaws.{command_less}
use Rattle.cca_base.proofs.TakenBack.{taken_back}
use Rattle.cca_base.proofs.model.Model.take_back_command.Goals as goal

pub invariant_of-self : goal.invariant_of-self
invariant_of-self c =
    let m : PlantModel = record {
      version = c.self.inside.version;
      components = c.self.inside.components;
      variables = c.self.inside.variables;
      rules = c.self.inside.rules;
      commands = c.self.inside.commands;
      moves = c.self.inside.moves;
      failures = c.self.inside.failures;
    } in
    let some : 0 < length m.commands = subst (λ (x : PlantModel). 0 < length x.commands) (sym c.self.view_is) c.requires.some in
    let unused : is_used m.moves (length m.commands - 1) ≡ false = subst (λ (x : PlantModel). is_used x.moves (length x.commands - 1) ≡ false) (sym c.self.view_is) c.requires.unused in
    let index = c.take_back_command.ensures in (
      subst (λ (cs : List (List ℕ)). WellFormed (record m { commands = cs })) (sym c.take_back.ensures) (taken_back m some unused c.self.invariant.0),
      subst (λ (cs : List (List ℕ)). IsIndex m.components cs m.moves c.take_back_command.new.self) (sym c.take_back.ensures)
          (command_less m.components m.commands m.moves c.self.inside.index c.take_back_command.new.self c.self.invariant.1 some unused index.by_command index.by_component index.next),
    )
