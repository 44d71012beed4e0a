use Rattle.conformance_plan.proofs.classes.cell_of.Given as goal

abbrev pub ghosts-cell_at : goal.ghosts-cell_at
ghosts-cell_at a = record { name = a.blank.name; parts = a.blank.parts }
