use Rattle.cca_laws.proofs.PlanLaws.{runs_join, allowed_run, mends_itself, repair_allowed, implicant_gives_step}
use Rattle.cca_base.proofs.NextModes.{next_of_mended, mended_of_next, one_mended}
use Rattle.cca_laws.proofs.laws.plans.Goals as goal

pub returns-clause-join : goal.returns-clause-join
returns-clause-join c = runs_join

pub returns-clause-allowed : goal.returns-clause-allowed
returns-clause-allowed c = allowed_run

pub returns-clause-itself : goal.returns-clause-itself
returns-clause-itself c = mends_itself

pub returns-clause-one_mended : goal.returns-clause-one_mended
returns-clause-one_mended c m w = one_mended m.version m.moves w.repairs

pub returns-clause-mended : goal.returns-clause-mended
returns-clause-mended c m w first component mode mended = (
  next_of_mended m.moves (w.repairs.at_once first) component mode mended,
  λ next. mended_of_next m.version m.moves w.repairs component mode mended next (w.repairs.at_once first component mode mended next),
)

pub returns-clause-repairs : goal.returns-clause-repairs
returns-clause-repairs c = repair_allowed

pub returns-clause-implicants : goal.returns-clause-implicants
returns-clause-implicants c = implicant_gives_step
