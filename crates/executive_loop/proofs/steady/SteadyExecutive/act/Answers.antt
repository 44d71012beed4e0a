use Rattle.std.proofs.Common.{IfSome, Some, subst, sym}
use Rattle.cca_base.specs.declared.events.Event.TheVariants as event
use Rattle.cca_base.specs.Accepted.{CompiledModel}
use Rattle.cca_base.specs.Plans.{Promising}
use Rattle.trace_laws.proofs.FitsStay.{stays_fitting}
use Rattle.executive_loop.specs.Borrowed.{event_read, report_with}
use Rattle.executive_loop.specs.Covering.{AreTablesOf}
use Rattle.executive_loop.proofs.ExecutiveFits.{still_executive}
use Rattle.executive_loop.proofs.Policies.{in_use_has}
use Rattle.executive_loop.proofs.steady.SteadyExecutive.act.Goals as goal

pub invariant_of-self : goal.invariant_of-self
invariant_of-self c =
    let b : CompiledModel = c.self.inside.compiled.value in
    let before = c.self.invariant.1 in
    let y = c.make_tick.new.standing in (
      c.make_tick.ensures.workspace,
      record {
        compiled = before.compiled;
        fits = stays_fitting b before.compiled (Promising b) c.self.inside.standing y event.Tick (Some (report_with y.estimate c.make_tick.result)) before.fits tt
            (tt, c.make_tick.ensures.number, c.make_tick.ensures.shows);
        tables = in_use_has (AreTablesOf b) c.make_tick.new.workspace.policy.tables c.make_tick.new.workspace.policy.in_use c.make_tick.ensures.workspace.tables;
      },
    )

pub invariant_of-self-in-Reset : goal.invariant_of-self-in-Reset
invariant_of-self-in-Reset c =
    let b : CompiledModel = c.self.inside.compiled.value in (
      c.forget.ensures.of b c.self.invariant.0,
      still_executive _ _ _ (event_read c.args.event) c.change.new.self _ _ c.self.invariant.1 c.self.view_is c.requires.may_come c.deref.ensures c.change.ensures
          (subst (λ o. IfSome o (AreTablesOf b)) (sym c.forget.ensures.unused) tt),
    )

pub invariant_of-self-in_default-event : goal.invariant_of-self-in_default-event
invariant_of-self-in_default-event c =
    (c.self.invariant.0, still_executive _ _ _ (event_read c.args.event) c.change.new.self _ _ c.self.invariant.1 c.self.view_is c.requires.may_come c.deref.ensures c.change.ensures c.self.invariant.1.tables)
