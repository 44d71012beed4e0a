use Rattle.std.proofs.Common.{ℕ, Bool, ◌&&◌, not, slice_index, sym, ◌∙◌, arith, length-set}
use Rattle.cca_base.specs.Sets.{has}
use Rattle.clash_analysis.specs.Subjects.{is_in}
use Rattle.clash_analysis.proofs.TakenLaws.{done_more, done_same, still_more}
use Rattle.clash_analysis.proofs.resolving.add_taken.Goals as goal
use Rattle.clash_analysis.proofs.resolving.add_taken.Goals.{then-has_subject, else-has_subject}

pub loop-v-preserved : goal.loop-v-preserved
loop-v-preserved c =
    let test = is_in c.args.set.now in
    let taken : ℕ → ℕ → Bool = λ v a. has (slice_index c.args.start.now v) a && not (has (slice_index c.args.dom.now v) a) in
    let first = c.args.learn.now in
    let learn = c.loop-v.learn in
    let done = c.loop-v.invariant.done in
    let still = c.loop-v.invariant.still in
    elim c.if-has_subject.branch [
      | then-has_subject w ↦
          rw w.learn-is
          (record {
            long = length-set learn c.loop-v.v w.with_taken.result ∙ c.loop-v.invariant.long;
            done = done_more test taken first learn c.loop-v.v done still w.with_taken.result (omega arith) (sym c.has_subject.ensures ∙ w.if-has_subject.true) w.with_taken.ensures;
            still = still_more test taken first learn c.loop-v.v done still w.with_taken.result;
          })
      | else-has_subject w ↦
          rw w.learn-is
          (record {
            long = c.loop-v.invariant.long;
            done = done_same test taken first learn c.loop-v.v done still (sym c.has_subject.ensures ∙ w.if-has_subject.false);
            still = λ k h. still k (omega arith);
          })
    ]
