-- Counts of ticks: those of two lists, one behind the other, are added.
use Rattle.std.proofs.Common.{◌≡◌, ℕ, ◌+◌, cond, List, [], ◌∷◌, ◌++◌, Option, Some, None, arith}
use Rattle.std.specs.Prelude.{option_to_list}
use Rattle.std.proofs.lemmas.List.Sums.{sum_by-append}
use Rattle.cca_base.specs.declared.events.TickReport.{TickReport}
use Rattle.run_form.specs.Summaries.{Kind, Sends, Achieves, CannotReach, IsIdle, HasNoEstimate, Holds, kind_of, is_kind, count_of, counts_of, added}
use Rattle.run_form.specs.declared.counts.Counts.{Counts}

same_counts : (a b : Counts) → a.sent ≡ b.sent → a.achieved ≡ b.achieved → a.unreachable ≡ b.unreachable → a.unexplained ≡ b.unexplained → a.holding ≡ b.holding → a.idle ≡ b.idle → a ≡ b
same_counts a b s h u e o d = λ i. record { sent = s i; achieved = h i; unreachable = u i; unexplained = e i; holding = o i; idle = d i }

-- a report is counted before others
count_first : (kind : Kind) (report : TickReport) (others : List TickReport) → count_of kind (report ∷ others) ≡ count_of kind (report ∷ []) + count_of kind others
count_first kind report others = sum_by-append (λ (r : TickReport). cond (is_kind kind (kind_of r.shown)) 1 0) (report ∷ []) others

-- one report before others
pub counted_first : (c : Counts) (report : Option TickReport) (others : List TickReport) → added (added c (counts_of (option_to_list report))) (counts_of others) ≡ added c (counts_of (option_to_list report ++ others))
counted_first c None others = same_counts _ _ (omega arith) (omega arith) (omega arith) (omega arith) (omega arith) (omega arith)
counted_first c (Some report) others = same_counts _ _ (each c.sent Sends) (each c.achieved Achieves) (each c.unreachable CannotReach) (each c.unexplained HasNoEstimate) (each c.holding Holds) (each c.idle IsIdle)
  where
    each : (n : ℕ) (kind : Kind) → n + count_of kind (report ∷ []) + count_of kind others ≡ n + count_of kind (report ∷ others)
    each n kind = omega (arith, count_first kind report others)

-- without a tick the counts stay
pub counted_none : (c : Counts) → added c (counts_of []) ≡ c
counted_none c = same_counts _ _ (omega arith) (omega arith) (omega arith) (omega arith) (omega arith) (omega arith)

pub counted_all : (reports : List TickReport) → added (counts_of []) (counts_of reports) ≡ counts_of reports
counted_all reports = same_counts _ _ (omega arith) (omega arith) (omega arith) (omega arith) (omega arith) (omega arith)
