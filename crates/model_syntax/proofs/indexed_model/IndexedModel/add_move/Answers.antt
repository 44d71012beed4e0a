use Rattle.std.proofs.Common.{sym, subst}
use Rattle.cca_base.specs.Model.{IsComplete}
use Rattle.model_syntax.proofs.GrowthByMove.{may_move, old_move_kept}
use Rattle.model_syntax.proofs.indexed_model.IndexedModel.add_move.Goals as goal

pub add_move-requires : goal.add_move-requires
add_move-requires c =
    let may = may_move c.args.self.now c.args.x c.args.command.now c.requires.code in
    let complete = subst IsComplete c.self.view_is c.self.invariant.complete in
    rw c.self.view_is
    (old_move_kept c.args.self.now c.args.x c.args.command.now c.requires.well_formed may c.requires.declared.guard c.requires.declared.source c.requires.declared.target complete c.requires.declared.number c.in-Some.field-0 (sym c.in-Some.ensures))
