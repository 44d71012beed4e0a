use Rattle.std.proofs.Common.{ℕ, List, subst}
use Rattle.world_search.specs.Worlds.{IsAnswer}
use Rattle.world_search.specs.Spaces.{world_in}
use Rattle.consistency.proofs.AnswersOfModel.{answer_fits}
use Rattle.consistency.proofs.Bridge.{asked_modes}
use Rattle.consistency.proofs.asking.ask.Goals as goal

pub ask-requires-clause-pairs : goal.ask-requires-clause-pairs
ask-requires-clause-pairs c = asked_modes c.args.model.now c.args.problem.now.sizes c.args.modes.now c.requires.of.1.sizes c.see.ensures.well_formed c.requires.modes

pub returns-clause-answer : goal.returns-clause-answer
returns-clause-answer c denied of =
    answer_fits c.args.model.now c.args.modes.now c.args.seen.now denied c.args.problem.now _ of c.see.ensures.base c.requires.modes c.requires.seen (world_in c.ask.new.space) c.ask.result
    (subst (λ (b : List ℕ). IsAnswer c.args.problem.now.clauses b (world_in c.ask.new.space) c.args.modes.now c.ask.result) c.ask.ensures.base c.ask.ensures.answer)
