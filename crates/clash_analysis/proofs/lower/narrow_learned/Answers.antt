use Rattle.clash_analysis.proofs.CodeLaws.{narrowed_trail}
use Rattle.clash_analysis.proofs.lower.narrow_learned.Goals as goal

pub returns-clause-trail : goal.returns-clause-trail
returns-clause-trail c want pairs start trail = narrowed_trail want pairs start c.args.dom.now c.args.learn.now c.args.u c.others-because.result trail c.requires.learn c.requires.inside c.others-because.ensures.all c.others-because.ensures.inside
