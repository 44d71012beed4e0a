use Rattle.std.proofs.Common.{List, refl, sym, subst}
use Rattle.cca_base.specs.declared.model.Component.{Component}
use Rattle.cca_base.specs.PlantModel.{PlantModel, plant_model}
use Rattle.cca_base.specs.Model.{WellFormed, with_component}
use Rattle.cca_base.specs.MoveIndex.{IsIndex, HasComponentMore}
use Rattle.cca_base.proofs.MoveIndexLaws.{put_back, component_more}
use Rattle.cca_base.proofs.model.Model.add_component.Goals as goal

pub invariant_of-self-in-Ok : goal.invariant_of-self-in-Ok
invariant_of-self-in-Ok c =
    let inside = c.self.inside in
    let m : PlantModel = plant_model inside.version inside.components inside.variables inside.rules inside.commands inside.moves inside.failures in
    let well : WellFormed (with_component m c.args.x) = subst (λ (n : PlantModel). WellFormed (with_component n c.args.x)) (sym c.self.view_is) c.requires in (
      subst (λ (xs : List Component). WellFormed (record m { components = xs })) (sym c.in_ok-push.ensures.ok) well,
      subst (λ (xs : List Component). IsIndex xs m.commands m.moves c.add_component.new.self) (sym c.in_ok-push.ensures.ok)
          (component_more m.components m.commands m.moves inside.index c.add_component.new.self c.self.invariant.1 c.args.x (subst (λ n. HasComponentMore n inside.index c.add_component.new.self) c.len-modes.ensures c.in-Ok.ensures.ok)),
    )

pub invariant_of-self-in-Err : goal.invariant_of-self-in-Err
invariant_of-self-in-Err c =
    let inside = c.self.inside in
    let m : PlantModel = plant_model inside.version inside.components inside.variables inside.rules inside.commands inside.moves inside.failures in
    put_back m (λ xs. record m { components = xs }) m.components c.args.x c.push.new.self c.take_back.new.self inside.index c.add_component.new.self refl c.take_back.ensures c.in_ok-push.ensures.ok c.in-Err.ensures.err c.self.invariant
