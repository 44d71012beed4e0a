use Rattle.std.proofs.Common.{take, drop}
use Rattle.std.proofs.lemmas.List.{take-append-drop}
use Rattle.titan_top.specs.Output.{usage_text}
use Rattle.titan_top.proofs.top.send_usage.Goals as goal

pub returns-in-WriteFault-clause-sent : goal.returns-in-WriteFault-clause-sent
returns-in-WriteFault-clause-sent g c =
    record { front = take c.in-WriteFault.sent usage_text; begins = (drop c.in-WriteFault.sent usage_text, take-append-drop c.in-WriteFault.sent usage_text); written = c.in-WriteFault.ensures.sent }
