-- How the program's statuses are numbered, and which one it ends with.
use Rattle.std.specs.Prelude.{ℕ, Result, Ok, Err}
use Rattle.line_machine.specs.declared.machine.End.{End}
use Rattle.line_machine.specs.declared.machine.End.TheVariants as ends
use Rattle.line_machine.specs.declared.send.Cut.{Cut}
use Rattle.line_machine.specs.declared.send.Cut.TheVariants as cuts
use Rattle.titan_top.specs.declared.status.Status.{Status}
use Rattle.titan_top.specs.declared.status.Status.TheVariants.{Ended, Rejected, Usage, Refused, ReadFault, WriteFault, Memory}

-- the number with which the program ends
abbrev pub status_number : Status → ℕ
status_number Ended = 0
status_number Rejected = 1
status_number Usage = 2
status_number Refused = 3
status_number ReadFault = 4
status_number WriteFault = 5
status_number Memory = 6

-- the status of an end without a fault
abbrev pub end_status : End → Status
end_status ends.Ended = Ended
end_status ends.Rejected = Rejected
end_status ends.Refused = Refused

-- the status of a program that stopped short
abbrev pub cut_status : Cut → Status
cut_status cuts.ReadFault = ReadFault
cut_status cuts.WriteFault = WriteFault
cut_status cuts.Memory = Memory

-- the status of what the driver answered
abbrev pub status_of : Result End Cut → Status
status_of (Ok e) = end_status e
status_of (Err c) = cut_status c
