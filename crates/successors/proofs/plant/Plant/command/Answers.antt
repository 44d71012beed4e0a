use Rattle.successors.proofs.plant.Plant.command.Goals as goal

pub returns-clause-moves : goal.returns-clause-moves
returns-clause-moves c = rw (← c.self.view_is) c.obey.ensures.moves
