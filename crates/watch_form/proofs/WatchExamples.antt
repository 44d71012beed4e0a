-- The examples of what is printed and what is pending.
use Rattle.std.proofs.Common.{refl, sym, ap, ◌∙◌}
use Rattle.std.specs.Fmt.{digits}
use Rattle.model_form.specs.LinesEnds.{with_item}
use Rattle.trace_text.specs.Reports.{report_line}
use Rattle.trace_text.specs.WindowLines.{window_line}
use Rattle.watch_form.specs.WatchExamples.{LinesOfValve, NothingFirst, BothPending, PendingIsOfOneTick}

pub lines_of_valve : LinesOfValve
unfolding digits report_line window_line
lines_of_valve = record { same = refl; revised = refl; unexplained = refl; holding = refl }

pub nothing_first : NothingFirst
nothing_first = (refl, refl)

pub both_pending : BothPending
both_pending m x z n first second r h = sym h

pub pending_is_of_one_tick : PendingIsOfOneTick
pending_is_of_one_tick = record {
  tick = λ m n k pairs r rest h. h.2 ∙ ap (with_item _) (h.1.2 ∙ ap (with_item _) h.1.1);
  reset = λ m n k pairs r rest h. h.2 ∙ ap (with_item _) (h.1.2 ∙ ap (with_item _) h.1.1);
}
