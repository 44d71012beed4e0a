use Rattle.std.proofs.Common.{List, ℕ, refl, sym, subst}
use Rattle.cca_base.specs.PlantModel.{PlantModel, plant_model}
use Rattle.cca_base.specs.Model.{WellFormed, with_command}
use Rattle.cca_base.specs.MoveIndex.{IsIndex}
use Rattle.cca_base.proofs.MoveIndexLaws.{put_back, command_more}
use Rattle.cca_base.proofs.model.Model.add_command.Goals as goal

pub invariant_of-self-in-Ok : goal.invariant_of-self-in-Ok
invariant_of-self-in-Ok c =
    let inside = c.self.inside in
    let m : PlantModel = plant_model inside.version inside.components inside.variables inside.rules inside.commands inside.moves inside.failures in
    let well : WellFormed (with_command m c.args.x) = subst (λ (n : PlantModel). WellFormed (with_command n c.args.x)) (sym c.self.view_is) c.requires in (
      subst (λ (xs : List (List ℕ)). WellFormed (record m { commands = xs })) (sym c.in_ok-push.ensures.ok) well,
      subst (λ (xs : List (List ℕ)). IsIndex m.components xs m.moves c.add_command.new.self) (sym c.in_ok-push.ensures.ok)
          (command_more m.components m.commands m.moves inside.index c.add_command.new.self c.self.invariant.1 c.args.x c.in-Ok.ensures.ok),
    )

pub invariant_of-self-in-Err : goal.invariant_of-self-in-Err
invariant_of-self-in-Err c =
    let inside = c.self.inside in
    let m : PlantModel = plant_model inside.version inside.components inside.variables inside.rules inside.commands inside.moves inside.failures in
    put_back m (λ xs. record m { commands = xs }) m.commands c.args.x c.push.new.self c.take_back.new.self inside.index c.add_command.new.self refl c.take_back.ensures c.in_ok-push.ensures.ok c.in-Err.ensures.err c.self.invariant
