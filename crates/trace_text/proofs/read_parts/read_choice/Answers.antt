use Rattle.trace_text.proofs.ReadWords.{no_sign, other_choice}
use Rattle.trace_text.proofs.read_parts.read_choice.Goals as goal

pub returns-in_default-behind : goal.returns-in_default-behind
returns-in_default-behind c = no_sign c.args.name.now c.args.word.now c.in-Some.equation.now c.args.choices.now (c.in-Some.ensures) (c.in_default-behind.ensures)

pub returns-in-None : goal.returns-in-None
returns-in-None c =
    other_choice c.args.name.now c.args.word.now c.in-Some.equation.now c.in-Some-behind.choice.now c.args.choices.now (c.in-Some.ensures) (c.in-Some-behind.ensures) (c.in-None.ensures)
