use Rattle.std.proofs.Common.{◌≡◌, ◌≤◌, ◌+◌, false, true, ℕ, List, length, subst, ◌∙◌, arith}
use Rattle.std.specs.Prelude.{IsOk}
use Rattle.cca_base.specs.Refusals.{bare}
use Rattle.trace_text.specs.Refusals.{refusal_line}
use Rattle.trace_text.proofs.RefusalRoom.{refusal_fits}
use Rattle.trace_text.proofs.refusal.bare_refusal_to.Goals as goal

pub unreachable-requires : goal.unreachable-requires
unreachable-requires c =
    let fits = refusal_fits c.args.model.now c.args.line c.args.code c.ranges.line.fits c.ranges.code.fits in
    let never : false ≡ true = subst IsOk c.in_default.is (c.push_bare.ensures.succeeds (omega (arith, fits, c.in_ok-reserve.ensures.ok))) in
    cc

pub returns-clause-stays : goal.returns-clause-stays
returns-clause-stays c = λ room.
    let fits = refusal_fits c.args.model.now c.args.line c.args.code c.ranges.line.fits c.ranges.code.fits in
    c.push_bare.ensures.stays (omega (arith, fits, c.in_ok-reserve.ensures.ok)) ∙ c.in_ok-reserve.ensures.stays room
