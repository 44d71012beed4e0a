use Rattle.std.proofs.Common.{IfSome, sym, subst}
use Rattle.cca_base.specs.Accepted.{CompiledModel, IsCompiled}
use Rattle.cca_base.specs.State.{IsState}
use Rattle.cca_base.specs.Trace.{ExecutiveState}
use Rattle.trace_laws.specs.Fits.{Fits}
use Rattle.trace_laws.proofs.FitsStay.{start_fits}
use Rattle.executive_loop.specs.Covering.{AreTablesOf}
use Rattle.executive_loop.proofs.steady.SteadyExecutive.open.Goals as goal

pub of-requires : goal.of-requires
of-requires c =
    let b : CompiledModel = c.args.compiled in
    let fits : Fits b c.in_ok-standing.standing = subst (Fits b) (sym c.in_ok-standing.ensures) (rw c.model.ensures.value (start_fits b 0 c.model.ensures.compiled)) in
    subst (λ (x : ExecutiveState). IsState c.in_ok-compiled.compiled.value.model x.estimate) (sym c.standing.view_is)
    (subst (λ (z : CompiledModel). IsState z.model c.in_ok-standing.standing.estimate) (sym c.in_ok-compiled.ensures.ok) fits.estimate)

pub invariant_of-result : goal.invariant_of-result
invariant_of-result c =
    let b : CompiledModel = c.args.compiled in
    let own : CompiledModel = c.in_ok-compiled.compiled.value in
    let fits : Fits b c.in_ok-standing.standing = subst (Fits b) (sym c.in_ok-standing.ensures) (rw c.model.ensures.value (start_fits b 0 c.model.ensures.compiled)) in (
      c.in_ok-workspace.ensures.of,
      record {
        compiled = subst IsCompiled (sym c.in_ok-compiled.ensures.ok) c.model.ensures.compiled;
        fits = subst (λ (z : CompiledModel). Fits z c.in_ok-standing.standing) (sym c.in_ok-compiled.ensures.ok) fits;
        tables = subst (λ o. IfSome o (AreTablesOf own)) (sym c.in_ok-workspace.ensures.unused) tt;
      },
    )
