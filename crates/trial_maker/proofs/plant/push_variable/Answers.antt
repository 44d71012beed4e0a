use Rattle.std.proofs.Common.{◌∙◌, append_assoc}
use Rattle.std.proofs.lemmas.Result.{on_ok_weaker}
use Rattle.trial_maker.specs.PlantLines.{variable_line}
use Rattle.trial_maker.proofs.plant.push_variable.Goals as goal

pub returns : goal.returns
unfolding variable_line
returns c = on_ok_weaker c.writeln.result (λ e. e ∙ simp append_assoc) c.writeln.ensures.bytes
