use Rattle.std.proofs.Common.{refl, sym}
use Rattle.model_syntax.proofs.FaultsByIndex.{by_next, by_none}
use Rattle.model_syntax.proofs.faults.is_mended_elsewhere.Goals as goal

pub returns-in-Some : goal.returns-in-Some
returns-in-Some c = by_next c.args.model.now c.moves-moves.ensures.well_formed c.args.component c.args.mode c.args.mended c.in-Some.next c.in-Some.ensures.next

pub returns-in-None : goal.returns-in-None
returns-in-None c = sym (by_none c.args.model.now c.moves-moves.ensures.well_formed c.args.component c.args.mode c.args.mended (c.in-None.ensures.none.0 refl))
