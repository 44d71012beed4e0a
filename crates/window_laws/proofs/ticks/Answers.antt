use Rattle.window_laws.proofs.Tracked.{ticks_keep, one_tick}
use Rattle.window_laws.proofs.Windows.{slides_keep_best, window_fills, shows_latest}
use Rattle.window_laws.proofs.TickNumbers.{revised_by_tick, nothing_to_revise}
use Rattle.window_laws.proofs.Latest.{starts_awake, holds_on, holds_behind}
use Rattle.window_laws.proofs.ticks.Goals as goal

pub returns-clause-keep : goal.returns-clause-keep
returns-clause-keep c = ticks_keep

pub returns-clause-one : goal.returns-clause-one
returns-clause-one c = one_tick

pub returns-clause-slides : goal.returns-clause-slides
returns-clause-slides c = slides_keep_best

pub returns-clause-fills : goal.returns-clause-fills
returns-clause-fills c = window_fills

pub returns-clause-latest : goal.returns-clause-latest
returns-clause-latest c = shows_latest

pub returns-clause-revised : goal.returns-clause-revised
returns-clause-revised c = λ m x y entry states cost revised keeps few finds. revised_by_tick m x y entry states cost keeps few revised finds

pub returns-clause-nothing : goal.returns-clause-nothing
returns-clause-nothing c = nothing_to_revise

pub returns-clause-awake : goal.returns-clause-awake
returns-clause-awake c = starts_awake

pub returns-clause-on : goal.returns-clause-on
returns-clause-on c = holds_on

pub returns-clause-behind : goal.returns-clause-behind
returns-clause-behind c = holds_behind
