use Rattle.script_reader.proofs.TableOfCodes as table
use Rattle.script_reader.proofs.laws.least_codes_are_answered.Goals as goal

pub returns : goal.returns
returns c = record { refused = table.refused; taken = table.taken }
