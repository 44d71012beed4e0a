use Rattle.cca_laws.proofs.MirrorExamples.{mirrors_join, again_after_tick, mirrors_outlast_ticks, plant_is_mirrored}
use Rattle.cca_laws.proofs.examples.mirrors.Goals as goal

pub returns-clause-join : goal.returns-clause-join
returns-clause-join c = mirrors_join

pub returns-clause-again : goal.returns-clause-again
returns-clause-again c = again_after_tick

pub returns-clause-outlast : goal.returns-clause-outlast
returns-clause-outlast c = mirrors_outlast_ticks

pub returns-clause-plant : goal.returns-clause-plant
returns-clause-plant c = plant_is_mirrored
