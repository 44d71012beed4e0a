-- The lines of ticks.
use Rattle.std.specs.Prelude.{ℕ, List, codes}
use Rattle.cca_base.specs.declared.events.TickReport.{TickReport}
use Rattle.cca_base.specs.PlantModel.{PlantModel}
use Rattle.trace_text.specs.LineWords.{report_words}
use Rattle.trace_text.specs.Words.{spaced_line}

-- the line of a tick's report
unfoldable pub report_line : PlantModel → TickReport → List ℕ
report_line m r = spaced_line (codes "tick") (report_words m r)
