use Rattle.std.proofs.Common.{List, ◌≡◌, length, refl, sym, subst}
use Rattle.cca_base.specs.declared.model.Move.{Move}
use Rattle.cca_base.specs.PlantModel.{PlantModel, plant_model}
use Rattle.cca_base.specs.Model.{WellFormed, with_move}
use Rattle.cca_base.specs.MoveIndex.{IsIndex, HasMoveMore}
use Rattle.cca_base.proofs.MoveIndexLaws.{put_back, move_more, HasRows, last_has_rows, is_last}
use Rattle.cca_base.proofs.model.Model.add_move.Goals as goal

rows : (c : goal.After-get) → HasRows c.self.inside.index c.get.result.now
rows c =
    let inside = c.self.inside in
    let m : PlantModel = plant_model inside.version inside.components inside.variables inside.rules inside.commands inside.moves inside.failures in
    let well : WellFormed (with_move m c.args.x) = subst (λ (n : PlantModel). WellFormed (with_move n c.args.x)) (sym c.self.view_is) c.requires in
    let same : c.get.result.now ≡ c.args.x = is_last m.moves c.push.new.self c.args.x c.get.result.now c.len-number.result c.in_ok-push.ensures.ok c.len-number.ensures c.get.ensures.item in
    subst (HasRows inside.index) (sym same) (last_has_rows m inside.index c.args.x c.self.invariant.1 well)

pub add_move-requires-clause-command : goal.add_move-requires-clause-command
add_move-requires-clause-command c = (rows c).command

pub add_move-requires-clause-component : goal.add_move-requires-clause-component
add_move-requires-clause-component c = (rows c).component

pub add_move-requires-clause-row : goal.add_move-requires-clause-row
add_move-requires-clause-row c = (rows c).row

pub add_move-requires-clause-mode : goal.add_move-requires-clause-mode
add_move-requires-clause-mode c = (rows c).mode

pub invariant_of-self-in-Ok : goal.invariant_of-self-in-Ok
invariant_of-self-in-Ok c =
    let inside = c.self.inside in
    let m : PlantModel = plant_model inside.version inside.components inside.variables inside.rules inside.commands inside.moves inside.failures in
    let well : WellFormed (with_move m c.args.x) = subst (λ (n : PlantModel). WellFormed (with_move n c.args.x)) (sym c.self.view_is) c.requires in
    let same : c.get.result.now ≡ c.args.x = is_last m.moves c.push.new.self c.args.x c.get.result.now c.len-number.result c.in_ok-push.ensures.ok c.len-number.ensures c.get.ensures.item in
    let fits : HasRows inside.index c.args.x = last_has_rows m inside.index c.args.x c.self.invariant.1 well in
    let more : HasMoveMore (length m.moves) c.args.x inside.index c.add_move.new.self =
    subst (λ x. HasMoveMore (length m.moves) x inside.index c.add_move.new.self) same
    (subst (λ n. HasMoveMore n c.get.result.now inside.index c.add_move.new.self) c.len-number.ensures c.in-Ok.ensures.ok) in (
      subst (λ (xs : List Move). WellFormed (record m { moves = xs })) (sym c.in_ok-push.ensures.ok) well,
      subst (λ (xs : List Move). IsIndex m.components m.commands xs c.add_move.new.self) (sym c.in_ok-push.ensures.ok)
          (move_more m.components m.commands m.moves inside.index c.add_move.new.self c.self.invariant.1 c.args.x fits.command fits.component fits.row fits.mode more),
    )

pub invariant_of-self-in-Err : goal.invariant_of-self-in-Err
invariant_of-self-in-Err c =
    let inside = c.self.inside in
    let m : PlantModel = plant_model inside.version inside.components inside.variables inside.rules inside.commands inside.moves inside.failures in
    put_back m (λ xs. record m { moves = xs }) m.moves c.args.x c.push.new.self c.take_back.new.self inside.index c.add_move.new.self refl c.take_back.ensures c.in_ok-push.ensures.ok c.in-Err.ensures.err c.self.invariant
