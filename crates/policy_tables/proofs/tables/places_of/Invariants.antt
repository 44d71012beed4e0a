use Rattle.policy_tables.proofs.Places.{ArePlacesTo}
use Rattle.policy_tables.proofs.tables.places_of.Given as goal

abbrev pub invariant-loop-c : goal.invariant-loop-c
invariant-loop-c l = ArePlacesTo l.classes l.tables.items l.c
