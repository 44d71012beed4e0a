use Rattle.conformance_plan.proofs.tabled.is_reached.Given as goal

abbrev pub ghosts-is_reached_by : goal.ghosts-is_reached_by
ghosts-is_reached_by a = record { name = a.blank.name; parts = a.blank.parts }
