use Rattle.std.proofs.Common.{sym, subst, ◌∙◌}
use Rattle.cca_base.specs.Model.{WellFormed}
use Rattle.model_numbers.proofs.NumbersBySubject.{component_by_name, variable_by_name}
use Rattle.model_numbers.proofs.names.number.Goals as goal

pub returns-in-Component : goal.returns-in-Component
returns-in-Component c = rw (c.in-Component.is, c.if-of-eq0.true) (c.component.ensures ∙ sym (component_by_name c.args.model.now c.args.name.now))

pub returns-in-Variable : goal.returns-in-Variable
returns-in-Variable c =
    let well_formed = subst WellFormed c.model-plant.ensures c.variables.ensures.well_formed in
    rw (c.in-Variable.is, c.if-of-eq0-2.true) (c.variable.ensures ∙ sym (variable_by_name c.args.model.now c.args.name.now well_formed))
