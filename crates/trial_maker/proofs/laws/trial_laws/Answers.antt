use Rattle.trial_maker.proofs.EachDocument.{numbers_fit, links_are_numbered, first_guards_are_free, costs_are_small, setup_is_counted}
use Rattle.trial_maker.proofs.TicksCounted.{ticks_are_counted}
use Rattle.trial_maker.proofs.laws.trial_laws.Goals as goal

pub returns-clause-fit : goal.returns-clause-fit
returns-clause-fit c = numbers_fit

pub returns-clause-numbered : goal.returns-clause-numbered
returns-clause-numbered c = links_are_numbered

pub returns-clause-free : goal.returns-clause-free
returns-clause-free c = first_guards_are_free

pub returns-clause-costs : goal.returns-clause-costs
returns-clause-costs c = costs_are_small

pub returns-clause-setup : goal.returns-clause-setup
returns-clause-setup c = setup_is_counted

pub returns-clause-ticks : goal.returns-clause-ticks
returns-clause-ticks c = ticks_are_counted
