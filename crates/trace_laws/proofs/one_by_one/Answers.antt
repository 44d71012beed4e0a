use Rattle.cca_base.specs.Choice.{IsChosenReply}
use Rattle.trace_laws.proofs.EventsJoin as joins
use Rattle.cca_laws.proofs.WeakerReplies.{chosen_is_good}
use Rattle.trace_laws.proofs.OthersBegin.{traces_begin}
use Rattle.trace_laws.proofs.PendingKnown.{known_after, one_pending}
use Rattle.trace_laws.proofs.one_by_one.Goals as goal

pub returns-clause-good : goal.returns-clause-good
returns-clause-good c = chosen_is_good

pub returns-clause-trace : goal.returns-clause-trace
returns-clause-trace c = λ b events y reports h. joins.made_is_trace b (IsChosenReply b) events y reports h

pub returns-clause-made : goal.returns-clause-made
returns-clause-made c = λ b events reports t. joins.trace_is_made b (IsChosenReply b) events reports t

pub returns-clause-more : goal.returns-clause-more
returns-clause-more c = λ b x y z events e reports report. joins.one_more b (IsChosenReply b) x y z events e reports report

pub returns-clause-come : goal.returns-clause-come
returns-clause-come c = λ b x y z events e reports report made all may acts. joins.one_more_may_come b (IsChosenReply b) x y z events e reports report made all may acts

pub returns-clause-begin : goal.returns-clause-begin
returns-clause-begin c = traces_begin

pub returns-clause-known : goal.returns-clause-known
returns-clause-known c = λ b x y e report acts. let k = known_after b (IsChosenReply b) x y e report acts in (k.0, k.1, λ other h. one_pending x.pending e y.pending other k.0 h)
