use Rattle.std.proofs.Common.{sym, ap, ◌∙◌}
use Rattle.formula_syntax.specs.Lookups.{subject_of}
use Rattle.run_form.proofs.script.ScriptOpensScriptEventPlace.open.Goals as goal

pub invariant_of-result : goal.invariant_of-result
invariant_of-result c name = c.into_parts-compiled.ensures.fit name ∙ ap (λ x. subject_of x.compiled.model name) (sym c.in_ok-executive.ensures)
