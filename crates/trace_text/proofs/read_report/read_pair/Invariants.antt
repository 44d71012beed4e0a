use Rattle.std.proofs.Common.{◌≢◌, ◌<◌, ℕ}
use Rattle.cca_base.specs.Model.{HasMode}
use Rattle.trace_text.specs.Names.{pair_text_at}
use Rattle.trace_text.proofs.read_report.read_pair.Given as goal

-- no mode of a component so far is meant
abbrev pub invariant-loop-c : goal.invariant-loop-c
invariant-loop-c l = (b mode : ℕ) → b < l.c → HasMode l.model b mode → pair_text_at l.model.components b mode ≢ l.word
