use Rattle.control_program.proofs.AskedParts.{chooses_by}
use Rattle.control_program.proofs.asking.takes_first.Goals as goal

pub returns-in_default : goal.returns-in_default
returns-in_default c = record {
  chooses = λ f asks. chooses_by c.args.asking.now.model.now c.args.asking.now.estimate.now.modes c.args.mark f c.holds.result c.in_default.not-First c.in_default.not-Second (c.holds.ensures.holds f asks);
  space = c.holds.ensures.space;
}
