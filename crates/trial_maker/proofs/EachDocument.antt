-- What is true of draws, and of the document of every seed.
use Rattle.std.proofs.Common.{◌^◌, ◌*◌, ◌+◌, refl, sym, arith, lit<}
use Rattle.std.proofs.lemmas.Nat.{mod_below}
use Rattle.trial_maker.specs.Chains.{link, links}
use Rattle.trial_maker.specs.Documents.{setup_lines, all_lines}
use Rattle.trial_maker.specs.Draws.{next_number, multiplier, increment}
use Rattle.trial_maker.specs.PlantLines.{plant_lines}
use Rattle.trial_maker.specs.ScriptLines.{mirror_lines}
use Rattle.trial_maker.specs.TransitionLines.{move_lines, failure_lines, failure_cost}
use Rattle.trial_maker.specs.TrialLaws.{NumbersFit, LinksAreNumbered, FirstGuardsAreFree, CostsAreSmall, SetupIsCounted}
use Rattle.trial_maker.proofs.Guards.{first_guard}
use Rattle.trial_maker.proofs.LinksByNumber.{links_are}

pub numbers_fit : NumbersFit
unfolding next_number
numbers_fit x = mod_below (x * multiplier + increment) (2 ^ 64) (lit< tt)

pub links_are_numbered : LinksAreNumbered
links_are_numbered = sym links_are

pub first_guards_are_free : FirstGuardsAreFree
first_guards_are_free chain x = first_guard (link chain 0) x refl

pub costs_are_small : CostsAreSmall
unfolding failure_cost
costs_are_small x = (omega arith, omega arith)

pub setup_is_counted : SetupIsCounted
unfolding setup_lines all_lines links plant_lines mirror_lines move_lines failure_lines
setup_is_counted seed = (refl, refl)
