use Rattle.std.proofs.Common.{refl, ◌∙◌}
use Rattle.line_machine.proofs.SentPieces.{piece_room, piece_sent, piece_cut}
use Rattle.line_machine.proofs.send.send.Goals as goal

pub put_all-requires : goal.put_all-requires
put_all-requires g c = piece_room c.pieces.invariant.sending c.split_piece.result.0.now c.split_piece.result.1.now c.split_piece.ensures.parts c.requires

pub pieces-preserved : goal.pieces-preserved
pieces-preserved g c = record {
  sending = piece_sent c.pieces.invariant.sending c.split_piece.result.0.now c.split_piece.result.1.now c.split_piece.ensures.parts _ _ c.in-Done.ensures.sent c.in-Done.ensures.space;
  quiet = c.in-Done.ensures.quiet refl ∙ c.pieces.invariant.quiet;
}

pub returns-in-WriteFault-clause-front : goal.returns-in-WriteFault-clause-front
returns-in-WriteFault-clause-front g c = piece_cut c.pieces.invariant.sending c.split_piece.result.0.now c.split_piece.result.1.now c.split_piece.ensures.parts _ _ c.in-WriteFault.ensures.sent
