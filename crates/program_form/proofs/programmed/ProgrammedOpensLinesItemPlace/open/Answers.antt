use Rattle.std.proofs.Common.{◌<◌, ◌+◌, ap, sym, subst, arith}
use Rattle.control_syntax.specs.Reading.{Reading}
use Rattle.executive_loop.specs.Parts.{ExecutiveParts}
use Rattle.formula_syntax.specs.Lookups.{NamesFit}
use Rattle.program_form.proofs.programmed.ProgrammedOpensLinesItemPlace.open.Goals as goal

pub invariant_of-result : goal.invariant_of-result
invariant_of-result c = (
  subst (λ (x : ExecutiveParts). NamesFit c.into_parts-compiled.result.1 x.compiled.model) (sym c.in_ok-executive.ensures) c.into_parts-compiled.ensures.fit,
  c.in_ok-reader.ensures.kept c.in_ok-executive.executive.compiled.model,
  tt,
)

pub returns-clause-turn : goal.returns-clause-turn
returns-clause-turn c = λ n. (omega (arith, ap (λ (x : ExecutiveParts). x.state.ticks) c.in_ok-executive.ensures), ap (λ (r : Reading). r.whole) c.in_ok-reader.ensures.start)
