use Rattle.std.proofs.Common.{slice_index, arith}
use Rattle.std.proofs.lemmas.Bool.{OnTrue_at, OnTrue_from}
use Rattle.clash_analysis.proofs.ClimbLaws.{some_shared}
use Rattle.clash_analysis.proofs.analysis.is_learned.Goals as goal

pub returns-then-back-eq0-clause-yes : goal.returns-then-back-eq0-clause-yes
returns-then-back-eq0-clause-yes c = (
  some_shared (slice_index c.args.learn.now c.args.e.now.subject) c.args.e.now.before (omega (arith, c.type_inv.learn c.args.e.now.subject)) c.if-learn-e-eq0.false,
  λ k d h. absurd (omega (arith, h, c.if-back-eq0.true)),
)

pub returns-clause-yes : goal.returns-clause-yes
returns-clause-yes c = OnTrue_from c.is_apart.result _ (λ e. (
  some_shared (slice_index c.args.learn.now c.args.e.now.subject) c.args.e.now.before (omega (arith, c.type_inv.learn c.args.e.now.subject)) c.if-learn-e-eq0.false,
  OnTrue_at e c.is_apart.ensures,
))
