use Rattle.std.proofs.Common.{inl, inr, refl}
use Rattle.line_machine.proofs.FirstLineFeed.{found, not_found, take_with_lf}
use Rattle.line_machine.proofs.send.split_piece.Goals as goal

pub returns-in-Some-clause-line : goal.returns-in-Some-clause-line
returns-in-Some-clause-line c =
    let h = found c.args.bytes.now c.in-Some.len c.in-Some.ensures.place in
    (h.line, h.clean, inl (take_with_lf c.args.bytes.now c.in-Some.len h))

pub returns-in-None-clause-line : goal.returns-in-None-clause-line
returns-in-None-clause-line c = (c.args.bytes.now, not_found c.args.bytes.now c.in-None.ensures.place, inr (refl, refl))
