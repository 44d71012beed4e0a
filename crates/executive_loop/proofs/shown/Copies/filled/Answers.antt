use Rattle.std.proofs.Common.{length, ap, arith}
use Rattle.bounded_list.specs.Bounded.{Bounded}
use Rattle.executive_loop.proofs.shown.Copies.filled.Goals as goal

pub filled-requires-3-clause-room : goal.filled-requires-3-clause-room
filled-requires-3-clause-room c =
    let is = c.compiled-compiled.ensures.executive in
    omega (arith, ap length c.as_slice.ensures, ap length c.estimate.ensures, is.fits.estimate.full, is.compiled.accepted.well_formed.limits.components, ap (λ (l : Bounded _). l.room) c.requires.estimate)
