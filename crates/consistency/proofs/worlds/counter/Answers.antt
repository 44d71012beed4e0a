use Rattle.std.proofs.Common.{Some, sym}
use Rattle.consistency.proofs.Answered.{counter_found, none_counters}
use Rattle.consistency.proofs.worlds.counter.Goals as goal

pub returns-clause-first : goal.returns-clause-first
returns-clause-first c =
    rw (sym c.as_slice.ensures.pairs) (counter_found c.args.rules.now.model.now c.as_slice.result.now c.args.formula.now c.first_found.result (c.first_found.ensures (Some c.args.formula.now) c.in_ok-problem.ensures))

pub returns-clause-follows : goal.returns-clause-follows
returns-clause-follows c =
    rw (sym c.as_slice.ensures.pairs) (none_counters c.args.rules.now.model.now c.as_slice.result.now c.args.formula.now c.first_found.result (c.first_found.ensures (Some c.args.formula.now) c.in_ok-problem.ensures))
