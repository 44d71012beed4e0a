use Rattle.control_program.specs.Formulas.{formulas_left}
use Rattle.control_program.proofs.ProgramFormulas.{formulas_within}
use Rattle.conformance_run.proofs.programs.turned.Goals as goal

pub turn-requires-clause-formulas : goal.turn-requires-clause-formulas
turn-requires-clause-formulas c = formulas_within c.args.model.now (formulas_left c.args.runner.now.program) c.requires
