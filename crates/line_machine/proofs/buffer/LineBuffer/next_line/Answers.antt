use Rattle.std.proofs.Common.{sym, subst, ◌∙◌, arith}
use Rattle.line_machine.specs.Lines.{HasNoLf}
use Rattle.line_machine.specs.Found.{Came}
use Rattle.line_machine.proofs.Calls.{came_on}
use Rattle.line_machine.proofs.buffer.LineBuffer.next_line.Goals as goal

pub asks-preserved : goal.asks-preserved
asks-preserved g c =
    let held = subst (λ l. Came ⊥ c.args.limit (g.K.Sink.written c.args.sink.now) c.args.self.now l (g.I.Intake.left c.args.source.now) (g.I.Intake.left c.asks.source) (g.I.Intake.calls c.args.source.now) (g.I.Intake.calls c.asks.source)) (sym c.first_line.ensures.same) c.asks.invariant.came in
    record {
      came = came_on held (record { no_line = subst HasNoLf (sym c.first_line.ensures.same) c.in-None.ensures.none; short = omega (arith, c.len.ensures, c.if-len-limit.false) }) c.in-Ok.count c.in-Ok.ensures.fills (λ e. absurd (omega (arith, e, c.if-count-eq0.false)));
      quiet = c.in-Ok.ensures.quiet (λ e. absurd cc) ∙ c.asks.invariant.quiet;
    }
