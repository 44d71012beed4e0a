use Rattle.consistency.proofs.worlds.Worlds.follows.Goals as goal

pub returns : goal.returns
returns c = c.follows_by.ensures.follows c.args.formula.now c.in_ok-denied.ensures
