use Rattle.plan_checker.proofs.guards.follows.Goals as goal

pub follows_by-answer-requires-clause-denied : goal.follows_by-answer-requires-clause-denied
follows_by-answer-requires-clause-denied c = (c.args.formula.now, c.in_ok-denied.ensures)

pub returns-clause-follows : goal.returns-clause-follows
returns-clause-follows c = c.follows_by-answer.ensures.follows c.args.formula.now c.in_ok-denied.ensures
