use Rattle.std.proofs.Common.{[], get_or, sym, subst}
use Rattle.cca_base.specs.PlantModel.{PlantModel}
use Rattle.cca_base.specs.MoveIndex.{IsMoveBy}
use Rattle.cca_base.specs.Relations.{AreExactly}
use Rattle.cca_base.proofs.model.Model.moves_by.Goals as goal

pub returns : goal.returns
returns c =
    let inside = c.self.inside in
    subst (AreExactly (IsMoveBy c.args.self.now.moves c.args.command)) (sym c.moves_by.ensures)
    (subst (λ (m : PlantModel). AreExactly (IsMoveBy m.moves c.args.command) (get_or inside.index.by_command.items c.args.command [])) c.self.view_is (c.self.invariant.1.by_command c.args.command))
