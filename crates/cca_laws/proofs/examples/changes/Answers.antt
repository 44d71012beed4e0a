use Rattle.cca_laws.proofs.EventLaws.{faults_move_plant, clear_ends_goal, commands_move_plant, unexplained_holds, holding_goes_on, ten_thousand_are_shown, one_more_is_long, long_both_ways}
use Rattle.cca_laws.proofs.examples.changes.Goals as goal

pub returns-clause-faults : goal.returns-clause-faults
returns-clause-faults c = faults_move_plant

pub returns-clause-clear : goal.returns-clause-clear
returns-clause-clear c = clear_ends_goal

pub returns-clause-commands : goal.returns-clause-commands
returns-clause-commands c = commands_move_plant

pub returns-clause-unexplained : goal.returns-clause-unexplained
returns-clause-unexplained c = unexplained_holds

pub returns-clause-holding : goal.returns-clause-holding
returns-clause-holding c = holding_goes_on

pub returns-clause-shown : goal.returns-clause-shown
returns-clause-shown c = ten_thousand_are_shown

pub returns-clause-long : goal.returns-clause-long
returns-clause-long c = one_more_is_long

pub returns-clause-both : goal.returns-clause-both
returns-clause-both c = long_both_ways
