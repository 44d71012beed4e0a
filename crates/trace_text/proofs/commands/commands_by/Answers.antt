use Rattle.std.proofs.Common.{arith, map}
use Rattle.trace_text.proofs.CommandWords.{no_command, naming_goes_on}
use Rattle.list_laws.proofs.WordsByPlace.{word_at}
use Rattle.trace_text.proofs.commands.commands_by.Goals as goal

pub returns-in-None : goal.returns-in-None
returns-in-None c = no_command c.args.model.now (map (λ w. w.now) c.args.words.now) c.words.word-index _ (word_at c.args.words.now c.words.word-index _ (omega arith)) (λ k h. c.in-None.ensures k h)

pub words-preserved : goal.words-preserved
words-preserved c =
    rw c.in_ok-push-in-Some.ensures.ok
    (naming_goes_on c.args.model.now (map (λ w. w.now) c.args.words.now) c.words.plan c.words.word-index c.in-Some.command _ c.words.invariant (word_at c.args.words.now c.words.word-index _ (omega arith)) c.in-Some.ensures.0 c.in-Some.ensures.1)
