use Rattle.std.proofs.Common.{◌∙◌}
use Rattle.prime_implicants.proofs.NeededValues.{all_needed}
use Rattle.prime_implicants.proofs.minimal.is_minimal.Goals as goal

pub returns : goal.returns
returns c = c.name_all.ensures ∙ all_needed c.args.partial.now c.args.rows.now
