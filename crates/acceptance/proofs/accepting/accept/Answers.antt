use Rattle.acceptance.proofs.RefusalSteps.{not_refused}
use Rattle.acceptance.proofs.accepting.accept.Goals as goal

-- what is refused is not accepted
pub returns-in-Err-Refused-clause-accepted : goal.returns-in-Err-Refused-clause-accepted
returns-in-Err-Refused-clause-accepted c =
    let refuses = rw c.in-Err-Refused.field-0-is at c.in-Err-Refused.ensures.refused in
    not_refused c.args.model c.in-Err-Refused.refusal refuses
