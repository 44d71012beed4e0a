use Rattle.std.proofs.Common.{[], get_or, sym, subst}
use Rattle.cca_base.specs.PlantModel.{PlantModel}
use Rattle.cca_base.specs.MoveIndex.{IsMoveOf}
use Rattle.cca_base.specs.Relations.{AreExactly}
use Rattle.cca_base.proofs.model.Model.moves_of.Goals as goal

pub returns : goal.returns
returns c =
    let inside = c.self.inside in
    subst (AreExactly (IsMoveOf c.args.self.now.moves c.args.c)) (sym c.moves_of.ensures)
    (subst (λ (m : PlantModel). AreExactly (IsMoveOf m.moves c.args.c) (get_or inside.index.by_component.items c.args.c [])) c.self.view_is (c.self.invariant.1.by_component c.args.c))
